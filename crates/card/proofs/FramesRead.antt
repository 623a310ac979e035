-- The frames that pulse after pulse reads are those in the bytes taken, each stretch between silences read as a whole.
use Rattle.std.proofs.Common.{◌≡◌, ℕ, List, [], ◌∷◌, ◌++◌, sym, refl, ap, ◌∙◌, subst, append_assoc, append-nil}
use Rattle.frames.specs.Finding.{Found, frame, dropped, Begun}
use Rattle.frames.specs.Promises.{Reading}
use Rattle.frames.proofs.Exactness.{one_reading}
use Rattle.frames.proofs.Holding.{waits_held}
use Rattle.station.specs.Inquiries.{Frame}
use Rattle.station.specs.Stations.{unless_silent}
use Rattle.station.proofs.Readings.{Alike, joined, nothing}
use Rattle.card.specs.CardHistories.{frame_first, right_frames, with_taken, FramesIn}

-- The stretches hold these frames, and the newest leaves these bytes open.
abbrev pub LeavesOpen : List (List ℕ) → List Frame → List ℕ → Type 0
LeavesOpen [] frames held = (frames ≡ []) × (held ≡ [])
LeavesOpen (newest ∷ older) frames held =
    (before : List Frame) × (findings : List (ℕ × Found)) × FramesIn older before × Reading 0 newest findings held × (frames ≡ before ++ right_frames findings)

pub frames_in : (stretches : List (List ℕ)) (frames : List Frame) (held : List ℕ) → LeavesOpen stretches frames held → FramesIn stretches frames
frames_in [] frames held (e, h) = e
frames_in (newest ∷ older) frames held (before, findings, earlier, reading, e) = (before, findings, held, earlier, reading, e)

-- Stretches hold one list of frames.
pub one_list : (stretches : List (List ℕ)) (fs gs : List Frame) → FramesIn stretches fs → FramesIn stretches gs → fs ≡ gs
one_list [] fs gs e h = e ∙ sym h
one_list (newest ∷ older) fs gs (f0, v0, o0, was0, r0, e0) (f1, v1, o1, was1, r1, e1) =
    let before = one_list older f0 f1 was0 was1 in
    let same = one_reading newest v0 v1 o0 o1 r0 r1 in
    e0 ∙ (λ i. before i ++ right_frames (same.0 i)) ∙ sym e1

right_append : (a b : List (ℕ × Found)) → right_frames (a ++ b) ≡ right_frames a ++ right_frames b
right_append [] b = refl
right_append ((place, dropped cause n) ∷ a) b = right_append a b
right_append ((place, frame c d) ∷ a) b = ap (λ l. record { cmd = c; body = d } ∷ l) (right_append a b)

right_alike : (a b : List (ℕ × Found)) → Alike a b → right_frames a ≡ right_frames b
right_alike [] [] same = refl
right_alike [] (y ∷ b) same = absurd same
right_alike (x ∷ a) [] same = absurd same
right_alike ((p, v) ∷ a) ((q, w) ∷ b) (e, same) = λ i. frame_first (e i) (right_alike a b same i)

-- What bytes leave open holds nothing yet.
left_begun : (from : ℕ) (bytes : List ℕ) (findings : List (ℕ × Found)) (held : List ℕ) → Reading from bytes findings held → Begun held
left_begun from bytes [] held w = w.begun
left_begun from bytes ((place, v) ∷ findings) held (n, at, f, rest) = left_begun place _ findings held rest

all_begun : (stretches : List (List ℕ)) (frames : List Frame) (held : List ℕ) → LeavesOpen stretches frames held → Reading 0 held [] held
all_begun [] frames held (e, h) = subst (λ l. Reading 0 l [] l) (sym h) nothing
all_begun (newest ∷ older) frames held (before, findings, earlier, reading, e) = waits_held (left_begun 0 newest findings held reading)

-- One pulse later.
pub reads_on : (stretches : List (List ℕ)) (frames : List Frame) (held bytes : List ℕ) (now : List (ℕ × Found)) (after : List ℕ)
    → LeavesOpen stretches frames held → Reading 0 (held ++ bytes) now after
    → LeavesOpen (with_taken bytes stretches) (frames ++ right_frames now) (unless_silent bytes after)
reads_on stretches frames held [] now after so reading =
    let quiet = one_reading held [] now held after (all_begun stretches frames held so) (subst (λ l. Reading 0 l now after) (append-nil held) reading) in
    (frames, [], frames_in stretches frames held so, nothing, ap (λ l. frames ++ right_frames l) (sym quiet.0))
reads_on [] frames held (b ∷ bytes) now after (e, h) reading =
    ([], now, refl, subst (λ l. Reading 0 (l ++ (b ∷ bytes)) now after) h reading, ap (λ l. l ++ right_frames now) e)
reads_on (newest ∷ older) frames held (b ∷ bytes) now after (before, findings, earlier, was, e) reading =
    let both = joined 0 newest held (b ∷ bytes) findings now after was reading in (
      before,
      findings ++ both.extra,
      earlier,
      both.reading,
      ap (λ l. l ++ right_frames now) e
          ∙ append_assoc before (right_frames findings) (right_frames now)
          ∙ ap (λ l. before ++ (right_frames findings ++ l)) (sym (right_alike both.extra now both.alike))
          ∙ ap (λ l. before ++ l) (sym (right_append findings both.extra)),
    )
