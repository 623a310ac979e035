-- What a comparison of each entry with the next says of the order of all.
use Rattle.std.proofs.Common.{◌≡◌, ℕ, ◌+◌, ◌<◌, ◌≤◌, Bool, true, false, cond, List, [], ◌∷◌, length, get_or, nat_lt, zero, suc, sym, refl, ap, ◌∙◌, arith, le-leb}
use native.Mathlib.Numerals.{unary_clauses}
use borrow.Author.Tests.{lt-leb}
use Rattle.std.proofs.lemmas.Bool.{ltb-true, ltb-false}
use Rattle.std.specs.List.{AllAdjacentBelow, IsAllAdjacentAnswer}
use Rattle.lines.specs.declared.script.Entry.{Entry}
use Rattle.lines.specs.Faults.{rising}

-- Each is below the next.
all_rise : (least : ℕ) (entries : List Entry) → ((first : Entry) → 0 < length entries → least ≤ (get_or entries 0 first).position) → AllAdjacentBelow (λ entry other. true ≡ nat_lt entry.position other.position) entries (length entries) → rising least entries ≡ true
all_rise least [] high each = refl
all_rise least (entry ∷ rest) high each =
    ap (λ t. cond t (rising (entry.position + 1) rest) false) (le-leb least entry.position (high entry (omega arith)))
    ∙ all_rise (entry.position + 1) rest
    (λ first some. omega (arith, ltb-true entry.position (get_or rest 0 first).position (sym (each 0 first (omega arith)))))
    (λ i d inside. simp unary_clauses (simp unary_clauses at (each (suc i) d (omega arith))))

-- One is not below the next.
one_falls : (least : ℕ) (entries : List Entry) (i : ℕ) → i + 1 < length entries → ((d : Entry) → false ≡ nat_lt (get_or entries i d).position (get_or entries (i + 1) d).position) → rising least entries ≡ false
one_falls least [] i inside falls = absurd (omega arith)
one_falls least (entry ∷ []) i inside falls = absurd (omega arith)
one_falls least (entry ∷ (other ∷ rest)) zero inside falls =
    let low : other.position < entry.position + 1 = omega (arith, ltb-false entry.position other.position (sym (falls entry))) in
    grind (arith, lt-leb)
one_falls least (entry ∷ (other ∷ rest)) (suc i) inside falls =
    let later = one_falls (entry.position + 1) (other ∷ rest) i (omega arith) (λ d. simp unary_clauses (simp unary_clauses at (falls d))) in
    grind (arith, later)

pub rising_from_neighbours : (entries : List Entry) (told : Bool) → IsAllAdjacentAnswer (λ entry other t. t ≡ nat_lt entry.position other.position) entries told → told ≡ rising 0 entries
rising_from_neighbours entries true each = sym (all_rise 0 entries (λ _ _. omega arith) each)
rising_from_neighbours entries false some = sym (one_falls 0 entries some.0 some.1 some.2)
