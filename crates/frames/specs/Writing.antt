-- What writing a frame into memory does.
use Rattle.std.specs.Prelude.{◌≡◌, ℕ, ◌+◌, cond, List, ◌++◌, length, drop, Some, None, Ok, Err, Option, Result, nat_lt}
use Rattle.frames.specs.declared.refusal.Refusal.{Refusal}
use Rattle.frames.specs.declared.refusal.Refusal.TheVariants.{DataTooLong, MemoryShort}
use Rattle.frames.specs.Refusals.{refusal_number}
use Rattle.frames.specs.Frame.{frame_bytes}

-- why data cannot stand in a frame, if it cannot
abbrev pub data_cause : ℕ → Option ℕ
data_cause data_length = cond (nat_lt 250 data_length) (Some (refusal_number DataTooLong)) None

-- why writing is refused, if it is: first data above 250 bytes, then memory shorter than the frame
abbrev pub write_cause : ℕ → ℕ → Option ℕ
write_cause data_length memory_length =
    cond (nat_lt 250 data_length) (Some (refusal_number DataTooLong))
    (cond (nat_lt memory_length (data_length + 7)) (Some (refusal_number MemoryShort)) None)

-- what the memory holds afterwards: the frame and the untouched rest, or what it held
abbrev pub Written : {X : Type 0} → ℕ → List ℕ → List ℕ → List ℕ → Result X Refusal → Type 0
Written cmd body before after (Ok n) = after ≡ frame_bytes cmd body ++ drop (length body + 7) before
Written cmd body before after (Err e) = after ≡ before
