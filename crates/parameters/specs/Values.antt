-- What a store means: a value for each parameter, asked for and written by number.
use Rattle.std.specs.Prelude.{ℕ, Bool, false, cond, ◌&&◌, List, [], length, Some, None, Option, ◌==◌, nat_lt, slice_index}
use Rattle.parameters.specs.declared.parameter.Parameter.{Parameter}
use Rattle.parameters.specs.Parameters.{row_for, parameter_numbered, lawful_for}

-- A value, as bytes, for each parameter.
abbrev pub Values : Type 0
Values = Parameter → List ℕ

-- The value of a parameter, if there is one; else no bytes.
abbrev pub value_of : Values → Option Parameter → List ℕ
value_of values None = []
value_of values (Some p) = values p

-- The value of the parameter with a number; no bytes if the number is unknown.
abbrev pub asked : Values → ℕ → List ℕ
asked values number = value_of values (parameter_numbered number)

-- The byte at a place of a value, if the value has so many.
abbrev pub byte_at : List ℕ → ℕ → Option ℕ
byte_at value place = cond (nat_lt place (length value)) (Some (slice_index value place)) None

-- Whether a value is lawful for a parameter, if there is one.
abbrev pub lawful_if : Option Parameter → List ℕ → Bool
lawful_if None value = false
lawful_if (Some p) value = lawful_for p value

-- Whether the number is known and the value lawful for it.
abbrev pub lawful : ℕ → List ℕ → Bool
lawful number value = lawful_if (parameter_numbered number) value

-- Whether a write is a lawful one to a parameter.
abbrev pub writes : Parameter → ℕ → List ℕ → Bool
writes p number value = (row_for p).number == number && lawful number value

-- The values after a write: the value written for the parameter to which it is a lawful write, the others as before.
abbrev pub after_write : Values → ℕ → List ℕ → Values
after_write values number value p = cond (writes p number value) value (values p)
