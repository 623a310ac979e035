-- The numbers of the refusals.
use Rattle.std.specs.Prelude.{ℕ}
use Rattle.lines.specs.declared.refusal.Refusal.{Refusal}
use Rattle.lines.specs.declared.refusal.Refusal.TheVariants.{NoSpace, BadScript}

-- The number by which a refusal is known outside.
abbrev pub refusal_number : Refusal → ℕ
refusal_number NoSpace = 11
refusal_number BadScript = 14
