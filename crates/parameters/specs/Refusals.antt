-- The numbers of the refusals.
use Rattle.std.specs.Prelude.{ℕ}
use Rattle.parameters.specs.declared.refusal.Refusal.{Refusal}
use Rattle.parameters.specs.declared.refusal.Refusal.TheVariants.{WrongLength, UnlawfulBytes}

-- The number by which a refusal is told.
abbrev pub refusal_number : Refusal → ℕ
refusal_number WrongLength = 12
refusal_number UnlawfulBytes = 13
