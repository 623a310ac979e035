-- What is known of a parameter that was found by its number.
use Rattle.std.proofs.Common.{◌≡◌, ℕ, Bool, true, false, cond, ◌&&◌, eqb, List, [], ◌∷◌, Some, None, Option, sym, refl, ap, ◌∙◌, ⊎_elim, arith}
use Rattle.std.specs.Option.{option_map}
use Rattle.std.proofs.lemmas.Bool.{eqb-true, cond-true, cond-false, cases_Bool}
use Rattle.parameters.specs.declared.parameter.Parameter.{Parameter}
use Rattle.parameters.specs.declared.parameter.Row.{Row}
use Rattle.parameters.specs.Parameters.{row_for, parameters, numbered_in, parameter_numbered, row_numbered, lawful_for}
use Rattle.parameters.specs.Values.{Values, lawful, lawful_if, after_write}
use Rattle.parameters.specs.Images.{same}
use Rattle.parameters.proofs.EachParameter.{each_parameter}

-- A row is of its parameter.
pub own_row : (p : Parameter) → (row_for p).parameter ≡ p
own_row = each_parameter (λ p. (row_for p).parameter ≡ p) refl refl refl refl refl refl refl refl refl refl

found : (o : Option Parameter) (row : Row) → Some row ≡ option_map row_for o → (o ≡ Some row.parameter) × (row ≡ row_for row.parameter)
found None row is = let zero_one : ◌≡◌ {A = ℕ} 0 1 = cc in absurd (omega arith)
found (Some p) row is =
    let same_row : row ≡ row_for p = cc in
    let parameter : row.parameter ≡ p = ap (λ r. r.parameter) same_row ∙ own_row p in
    (ap Some (sym parameter), same_row ∙ ap row_for (sym parameter))

-- The row of a number is that of the parameter with the number.
pub row_found : (number : ℕ) (row : Row) → Some row ≡ row_numbered number
    → (parameter_numbered number ≡ Some row.parameter) × (row ≡ row_for row.parameter)
row_found number row is = found (parameter_numbered number) row is

-- The parameter found has the number.
has_number : (number : ℕ) (p : Parameter) (ps : List Parameter) → numbered_in number ps ≡ Some p → (row_for p).number ≡ number
has_number number p [] is = let zero_one : ◌≡◌ {A = ℕ} 0 1 = cc in absurd (omega arith)
has_number number p (q ∷ qs) is =
    let here = eqb (row_for q).number number in
    ⊎_elim
    (λ equal.
    let first : Some q ≡ Some p = sym (cond-true here (Some q) (numbered_in number qs) equal) ∙ is in
    let one : q ≡ p = cc in
    ap (λ r. (row_for r).number) (sym one) ∙ eqb-true (row_for q).number number equal)
    (λ differs. has_number number p qs (sym (cond-false here (Some q) (numbered_in number qs) differs) ∙ is))
    (cases_Bool here)

pub and_true : (x y : Bool) → y ≡ true → x ≡ (x && y)
and_true true y is = sym is
and_true false y is = refl

module _ (number : ℕ) (p : Parameter) (value : List ℕ) (is : parameter_numbered number ≡ Some p) (ok : lawful number value ≡ true) where
  -- The value is lawful for the parameter.
  pub lawful_there : lawful_for p value ≡ true
  lawful_there = sym (ap (λ o. lawful_if o value) is) ∙ ok

  -- The values after the write: this parameter's is the one written.
  pub written_there : (values : Values) (q : Parameter) → cond (same q p) value (values q) ≡ after_write values number value q
  written_there values q =
      ap (λ t. cond t value (values q))
      (ap (eqb (row_for q).number) (has_number number p parameters is)
      ∙ and_true (eqb (row_for q).number number) (lawful number value) ok)
