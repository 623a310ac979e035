-- The forms in bytes of the values that parameters have.
use Rattle.std.specs.Prelude.{◌≡◌, ℕ, Bool, true, false, cond, List, [], ◌∷◌, length, ◌==◌, nat_le, refl}
use Rattle.std.proofs.Common.{arith}
use Rattle.std.proofs.lemmas.Bool.{and_parts, eqb-true, both_ways}
use Rattle.parameters.specs.declared.parameter.Lawful.TheVariants.{AnyByte, ByteUpto}
use Rattle.parameters.specs.Parameters.{admits}
use Rattle.parameters.specs.declared.value.Reports.{Reports}
use Rattle.parameters.specs.declared.value.Reports.TheVariants.{Neither, Errors, Statuses, Both}

-- A byte is its own form.
abbrev pub byte_form : ℕ → List ℕ
byte_form byte = byte ∷ []

-- The byte that stands for a flag: 1 or 0.
abbrev pub flag_byte : Bool → ℕ
flag_byte flag = cond flag 1 0

-- A flag's form is that byte.
abbrev pub flag_form : Bool → List ℕ
flag_form flag = byte_form (flag_byte flag)

-- The byte that stands for what a card reports on its own.
abbrev pub status_byte : Reports → ℕ
status_byte Neither = 0
status_byte Errors = 1
status_byte Statuses = 2
status_byte Both = 3

-- The form of what a card reports on its own is that byte.
abbrev pub status_form : Reports → List ℕ
status_form reports = byte_form (status_byte reports)

-- A lawful value is one byte, where any byte is lawful.
pub single_any : (value : List ℕ) → admits AnyByte value ≡ true → length value ≡ 1
single_any value ok = eqb-true (length value) 1 ok

-- So it is where a byte up to a bound is lawful.
pub single_upto : (most : ℕ) (value : List ℕ) → admits (ByteUpto most) value ≡ true → length value ≡ 1
single_upto most [] ok = absurd (both_ways false refl ok)
single_upto most (byte ∷ rest) ok =
    omega (arith, eqb-true (length rest) 0 (and_parts (nat_le byte most) (length rest == 0) ok).1)
