-- Every list of pulses of a card, and what is read off it: the frames read and the bytes put.
use Rattle.std.specs.Prelude.{◌≡◌, ℕ, List, [], ◌∷◌, ◌++◌}
use Rattle.frames.specs.Finding.{Found, frame, dropped}
use Rattle.frames.specs.Promises.{Reading}
use Rattle.lines.specs.Meaning.{Meaning}
use Rattle.station.specs.Inquiries.{Frame}
use Rattle.station.specs.Stations.{taken, unless_silent}
use Rattle.station.specs.Promises.{all_written}
use Rattle.boards.specs.Boards.{Kind}
use Rattle.card.specs.Contents.{Contents, Same}
use Rattle.card.specs.CardPulse.{Card, fresh, Pulsed}
use Rattle.card.specs.PaperCard.{fed}

-- A pulse, by what its line meant before and after.
pub record Pulse : Type 0 where
  pub line : Meaning
  pub line_after : Meaning

infixl 20 ◌▸◌
-- A card made over a store's values and some settings, and then one pulse after another, each on any line.
pub data History : Type 0 where
  made : Contents → History
  ◌▸◌ : History → Pulse → History

-- The history leads to this card, on a board of this kind.
abbrev pub Run : Kind → History → Card → Type 0
Run kind (made first) card = card ≡ fresh first
Run kind (earlier ▸ pulse) card = (before : Card) × Run kind earlier before × Pulsed kind before pulse.line card pulse.line_after

-- What the card held as it was made.
abbrev pub at_first : History → Contents
at_first (made first) = first
at_first (earlier ▸ pulse) = at_first earlier

-- A finding that is a right frame, before the others.
abbrev pub frame_first : Found → List Frame → List Frame
frame_first (dropped cause n) frames = frames
frame_first (frame c d) frames = record { cmd = c; body = d } ∷ frames

-- The right frames among findings.
abbrev pub right_frames : List (ℕ × Found) → List Frame
right_frames [] = []
right_frames ((place, v) ∷ more) = frame_first v (right_frames more)

-- The frames read, and the bytes left open: pulse after pulse the right frames that the reader's rule finds in the bytes left open and taken;
-- a pulse that takes none leaves none open.
abbrev pub FramesRead : History → List Frame → List ℕ → Type 0
FramesRead (made first) frames left = (frames ≡ []) × (left ≡ [])
FramesRead (earlier ▸ pulse) frames left =
    (before : List Frame) × (left_before : List ℕ) × (findings : List (ℕ × Found)) × (open_end : List ℕ)
    × FramesRead earlier before left_before × Reading 0 (left_before ++ taken pulse.line) findings open_end
    × (frames ≡ before ++ right_frames findings) × (left ≡ unless_silent (taken pulse.line) open_end)

-- Each pulse put whole frames: those are what its line gained.
abbrev pub PutsWholeFrames : History → Type 0
PutsWholeFrames (made first) = Unit {0}
PutsWholeFrames (earlier ▸ pulse) =
    PutsWholeFrames earlier × ((frames : List Frame) × (pulse.line_after.outgoing ≡ pulse.line.outgoing ++ all_written frames))

-- The card holds what its paper card holds after the frames read, which are one list.
pub record EqualsPaperCard (with_channels : ℕ) (kind : Kind) (history : History) (card : Card) : Type 0 where
  pub frames : List Frame
  pub left : List ℕ
  pub read : FramesRead history frames left
  pub only : (others : List Frame) (open_end : List ℕ) → FramesRead history others open_end → frames ≡ others
  pub equal : Same card.holds (fed with_channels kind (at_first history) frames)

-- Bytes taken join the newest stretch; where none was taken, in a silence, a new stretch begins.
abbrev pub with_taken : List ℕ → List (List ℕ) → List (List ℕ)
with_taken [] stretches = [] ∷ stretches
with_taken (b ∷ bytes) [] = (b ∷ bytes) ∷ []
with_taken (b ∷ bytes) (newest ∷ older) = (newest ++ (b ∷ bytes)) ∷ older

-- The bytes that the pulses took, parted by the silences into stretches, the newest first.
abbrev pub stretches : History → List (List ℕ)
stretches (made first) = []
stretches (earlier ▸ pulse) = with_taken (taken pulse.line) (stretches earlier)

-- These are the right frames that the reader's rule finds in the stretches, each read for itself, the oldest first.
abbrev pub FramesIn : List (List ℕ) → List Frame → Type 0
FramesIn [] frames = frames ≡ []
FramesIn (newest ∷ older) frames =
    (before : List Frame) × (findings : List (ℕ × Found)) × (open_end : List ℕ)
    × FramesIn older before × Reading 0 newest findings open_end × (frames ≡ before ++ right_frames findings)

-- The same law with the frames read told by the bytes taken alone: no byte left open from pulse to pulse stands in it.
pub record EqualsPaperCardByStretches (with_channels : ℕ) (kind : Kind) (history : History) (card : Card) : Type 0 where
  pub frames : List Frame
  pub read : FramesIn (stretches history) frames
  pub only : (others : List Frame) → FramesIn (stretches history) others → frames ≡ others
  pub equal : Same card.holds (fed with_channels kind (at_first history) frames)

-- It holds of every history of a card, on every kind of board.
abbrev pub Always : (Kind → History → Card → Type 0) → Type 0
Always Law = (kind : Kind) (history : History) (card : Card) → Run kind history card → Law kind history card
