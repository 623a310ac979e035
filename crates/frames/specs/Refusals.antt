-- The numbers of the refusals of this level.
use Rattle.std.specs.Prelude.{ℕ, Some, None, Ok, Err, Option, Result}
use Rattle.frames.specs.declared.refusal.Refusal.{Refusal}
use Rattle.frames.specs.declared.refusal.Refusal.TheVariants.{DataTooLong, MemoryShort}

-- each refusal has its number here and nowhere else
abbrev pub refusal_number : Refusal → ℕ
refusal_number DataTooLong = 9
refusal_number MemoryShort = 10

-- the number with which a call was refused, if it was
abbrev pub cause : {X : Type 0} → Result X Refusal → Option ℕ
cause (Ok x) = None
cause (Err e) = Some (refusal_number e)
