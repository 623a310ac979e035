-- What holds of every history of a station, in terms of calls, slips, pulses, frames, bytes and outcomes.
use Rattle.std.specs.Prelude.{◌≡◌, ℕ, ◌<◌, ◌≤◌, Bool, true, cond, ◌||◌, ◌⊎◌, List, [], ◌∷◌, ◌++◌, map, length, take, replicate, Ok, Err, Result, ◌≢◌, slice_index}
use Rattle.std.specs.List.{AllByRecursion}
use Rattle.frames.specs.Finding.{Found, frame}
use Rattle.frames.specs.Promises.{Reading}
use Rattle.lines.specs.Meaning.{Meaning}
use Rattle.station.specs.declared.refusal.Refusal.{Refusal}
use Rattle.station.specs.declared.refusal.Refusal.TheVariants.{OtherMark, NumberNotHeld}
use Rattle.station.specs.Commands.{answer_of, radio_answer, lawful_answer}
use Rattle.station.specs.Inquiries.{answered, Outcome, Frame, written}
use Rattle.station.specs.Exchange.{ack, nak, error, is}
use Rattle.station.specs.Stations.{Slip, taken}
use Rattle.station.specs.Histories.{Event, lodges, pulses, collects, History, made, ◌▸◌, ◌then◌, Happens, Occurs, Given, Handed, Tells, Unfinished, pulses_in}

-- It holds of every history that the rules allow.
abbrev pub Always : (History → Type 0) → Type 0
Always Law = (history : History) → Happens history → Law history

-- One of the list.
abbrev pub In : {X : Type 0} → X → List X → Type 0
In x [] = ⊥
In x (y ∷ ys) = (x ≡ y) ⊎ In x ys

-- The inquiry of this slip has ended: its outcome can be had now, or was handed out.
abbrev pub Ended : History → Slip → Type 0
Ended history slip = ((outcome : Outcome) × Tells history slip (Ok outcome)) ⊎ ((outcome : Outcome) × Handed slip outcome history)

-- Every slip whose inquiry has not ended stands in this list.
abbrev pub ListsUnfinished : History → List Slip → Type 0
ListsUnfinished history slips = (other : Slip) → Unfinished history other → In other slips

-- An inquiry at whose lodging no more than so many others were unfinished has ended by this pulse after its lodging.
abbrev pub EndsInTime : ℕ → ℕ → History → Type 0
EndsInTime others latest whole =
    (earlier : History) (c : ℕ) (d : List ℕ) (slip : Slip) (later : List Event) (unfinished : List Slip)
    → whole ≡ ((earlier ▸ lodges c d (Ok slip)) then later) → ListsUnfinished earlier unfinished → length unfinished ≤ others → latest ≤ pulses_in later
    → Ended whole slip

-- At any time collecting a slip has one answer, and a slip that was never given here is refused as such.
pub record AnswersOneWay (history : History) : Type 0 where
  pub some_answer : (slip : Slip) → (answer : Result Outcome Refusal) × Tells history slip answer
  pub no_other : (slip : Slip) (a b : Result Outcome Refusal) → Tells history slip a → Tells history slip b → a ≡ b
  pub strangers : (slip : Slip) → (Given slip history → ⊥) → Tells history slip (Err OtherMark) ⊎ Tells history slip (Err NumberNotHeld)
  pub handed_before : (slip : Slip) (outcome : Outcome) → Handed slip outcome history → Tells history slip (Err NumberNotHeld)

-- What a lodging gave is a new slip, and its inquiry has not ended.
abbrev pub Gives : History → Event → Type 0
Gives earlier (lodges c d (Ok slip)) = (Given slip earlier → ⊥) × Unfinished (earlier ▸ lodges c d (Ok slip)) slip
Gives earlier (lodges c d (Err refusal)) = Unit {0}
Gives earlier (pulses line line_after) = Unit {0}
Gives earlier (collects slip memory answer) = Unit {0}

-- What a collecting handed out is the outcome that was to be had, of a slip that was given.
abbrev pub Hands : History → Event → Type 0
Hands earlier (lodges c d answer) = Unit {0}
Hands earlier (pulses line line_after) = Unit {0}
Hands earlier (collects slip memory (Ok outcome)) = Given slip earlier × Tells earlier slip (Ok outcome)
Hands earlier (collects slip memory (Err refusal)) = Unit {0}

-- The call was a pulse.
abbrev pub IsPulse : Event → Type 0
IsPulse (lodges c d answer) = ⊥
IsPulse (pulses line line_after) = Unit {0}
IsPulse (collects slip memory answer) = ⊥

-- One call later: an inquiry ends in a pulse only, and its one outcome stays until it is handed out.
pub record HandsOutOnce (earlier : History) (event : Event) : Type 0 where
  pub gives : Gives earlier event
  pub hands : Hands earlier event
  pub until_ended : (slip : Slip) → Unfinished earlier slip
      → Unfinished (earlier ▸ event) slip ⊎ (IsPulse event × ((outcome : Outcome) × Tells (earlier ▸ event) slip (Ok outcome)))
  pub until_handed : (slip : Slip) (outcome : Outcome) → Tells earlier slip (Ok outcome)
      → Tells (earlier ▸ event) slip (Ok outcome) ⊎ ((memory : ℕ) × (event ≡ collects slip memory (Ok outcome)))

-- Collecting answers 8 until the inquiry has ended, from then on the one outcome, and 7 once it was handed out; and no other slip is handed anything.
abbrev pub CollectsByTheRules : History → Type 0
CollectsByTheRules (made m n) = AnswersOneWay (made m n)
CollectsByTheRules (earlier ▸ event) = AnswersOneWay (earlier ▸ event) × HandsOutOnce earlier event

-- Frames one behind another.
abbrev pub all_written : List Frame → List ℕ
all_written [] = []
all_written (f ∷ fs) = written f ++ all_written fs

-- What the pulses put, which is what each pulse's line gained, is these frames one behind another.
abbrev pub Puts : History → List Frame → Type 0
Puts (made m n) frames = frames ≡ []
Puts (earlier ▸ lodges c d answer) frames = Puts earlier frames
Puts (earlier ▸ pulses line line_after) frames =
    (before now : List Frame) × (frames ≡ before ++ now) × Puts earlier before × (line_after.outgoing ≡ line.outgoing ++ all_written now)
Puts (earlier ▸ collects slip memory answer) frames = Puts earlier frames

-- ACK, NAK or ERROR.
abbrev pub is_control : Frame → Bool
is_control f = is ack f.cmd f.body || (is nak f.cmd f.body || is error f.cmd f.body)

-- The frames other than ACK, NAK and ERROR.
abbrev pub requests : List Frame → List Frame
requests [] = []
requests (f ∷ fs) = cond (is_control f) (requests fs) (f ∷ requests fs)

-- An inquiry by its slip and its own frame.
pub record Lodging : Type 0 where
  pub slip : Slip
  pub frame : Frame

-- The inquiries in the order lodged.
abbrev pub lodgings : History → List Lodging
lodgings (made m n) = []
lodgings (earlier ▸ lodges c d (Ok s)) = lodgings earlier ++ (record { slip = s; frame = record { cmd = c; body = d } } ∷ [])
lodgings (earlier ▸ lodges c d (Err refusal)) = lodgings earlier
lodgings (earlier ▸ pulses line line_after) = lodgings earlier
lodgings (earlier ▸ collects slip memory answer) = lodgings earlier

-- An inquiry, and how often its frame was put.
pub record Tally : Type 0 where
  pub lodging : Lodging
  pub copies : ℕ

-- Each inquiry's own frame, as often as the tally says, one inquiry behind another.
abbrev pub all_copies : List Tally → List Frame
all_copies [] = []
all_copies (t ∷ ts) = replicate t.copies t.lodging.frame ++ all_copies ts

-- What the pulses put is whole frames, and those other than ACK, NAK and ERROR are the inquiries' own, in the order lodged,
-- each at most so often; and that number is the count of copies in the outcome.
pub record SendsInOrder (most : ℕ) (whole : History) : Type 0 where
  pub frames : List Frame
  pub puts : Puts whole frames
  pub tally : List Tally
  pub all_lodged : lodgings whole ≡ map (λ t. t.lodging) tally
  pub in_order : requests frames ≡ all_copies tally
  pub at_most : AllByRecursion (λ t. t.copies ≤ most) tally
  pub counted : (slip : Slip) (outcome : Outcome) → Handed slip outcome whole
      → (t : Tally) × In t tally × (t.lodging.slip ≡ slip) × (t.copies ≡ outcome.copies)

-- The bytes taken since the last pulse that took none.
abbrev pub since_silence : List ℕ → List ℕ → List ℕ
since_silence before [] = []
since_silence before (b ∷ bytes) = before ++ (b ∷ bytes)

-- The bytes that the pulses of a history took since the last silence.
abbrev pub bytes_heard : History → List ℕ
bytes_heard (made m n) = []
bytes_heard (earlier ▸ lodges c d answer) = bytes_heard earlier
bytes_heard (earlier ▸ pulses line line_after) = since_silence (bytes_heard earlier) (taken line)
bytes_heard (earlier ▸ collects slip memory answer) = bytes_heard earlier

-- The pulse on this line reads a right frame: the reader's rule finds it in the bytes that pulses took, and it is over in those of this one.
pub record ReadsFrame (earlier : History) (line : Meaning) (c : ℕ) (d : List ℕ) : Type 0 where
  pub findings : List (ℕ × Found)
  pub open_end : List ℕ
  pub place : ℕ
  pub reading : Reading 0 (bytes_heard earlier ++ taken line) findings open_end
  pub found : In (place, frame c d) findings
  pub in_this_pulse : length (bytes_heard earlier) < place

-- Data of this CMD answers a request: the awaited answer (of a 0x20 one that tells of an error), or a radio answer from the address sent.
pub data AnswersRequest (cmd : ℕ) (sent : List ℕ) (c : ℕ) (d : List ℕ) (first : ℕ) : Type 0 where
  awaited : c ≡ answer_of cmd → (cmd ≡ 0x20 → slice_index d 0 ≢ 0) → AnswersRequest cmd sent c d first
  by_radio : cmd ≡ 0x20 → c ≡ radio_answer → take first d ≡ take first sent → AnswersRequest cmd sent c d first

-- The inquiry was lodged, then a pulse put a copy of its frame, and a later pulse read a right frame with lawful data that answers it.
pub record WasRead (address : ℕ) (whole : History) (slip : Slip) (d : List ℕ) : Type 0 where
  pub cmd : ℕ
  pub sent : List ℕ
  pub before_lodging : History
  pub before_copy : History
  pub before_answer : History
  pub copy_line : Meaning
  pub copy_line_after : Meaning
  pub answer_line : Meaning
  pub answer_line_after : Meaning
  pub answer_cmd : ℕ
  pub replied : List ℕ
  pub was_lodged : Occurs before_lodging (lodges cmd sent (Ok slip)) before_copy
  pub copy_pulse : Occurs before_copy (pulses copy_line copy_line_after) before_answer
  pub copy_put : copy_line_after.outgoing ≡ copy_line.outgoing ++ (replied ++ written (record { cmd = cmd; body = sent }))
  pub answer_pulse : Occurs before_answer (pulses answer_line answer_line_after) whole
  pub answer_read : ReadsFrame before_answer answer_line answer_cmd d
  pub lawful : lawful_answer answer_cmd d ≡ true
  pub answers : AnswersRequest cmd sent answer_cmd d address

-- An outcome's answer data was read, later than the first copy went out; in a radio answer so many first bytes are those of the address sent.
abbrev pub AnswersWereRead : ℕ → History → Type 0
AnswersWereRead address whole =
    (slip : Slip) (outcome : Outcome) (d : List ℕ) → Handed slip outcome whole → outcome.ending ≡ answered d → WasRead address whole slip d
