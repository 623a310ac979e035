-- How many inquiries are unfinished: no more than a list of slips that names each of them.
use Rattle.std.proofs.Common.{◌≡◌, ℕ, ◌+◌, ◌*◌, ◌≤◌, false, cond, List, [], ◌∷◌, length, Some, sym, refl, ap, ◌∙◌, inl, inr, ⊎_elim, arith}
use Rattle.std.specs.List.{AllByRecursion}
use Rattle.std.proofs.lemmas.Bool.{cond_both, cond-true, cond-false, eq-eqb, ne_eqb}
use Rattle.station.specs.Inquiries.{Inquiry, has_ended}
use Rattle.station.specs.Stations.{Slip, held_under}
use Rattle.station.specs.Promises.{In}
use Rattle.station.proofs.Costs.{cost, ended_cost}
use Rattle.station.proofs.Numbers.{numbers, Rising, rising_from, rising_above}
use Rattle.station.proofs.Invariants.{Bounded}
use Rattle.station.proofs.Slips.{slip_of}

deleted : {X : Type 0} (x : X) (xs : List X) → In x xs → List X
deleted x [] i = elim i [ ]
deleted x (y ∷ xs) (inl e) = xs
deleted x (y ∷ xs) (inr i) = y ∷ deleted x xs i

deleted_length : {X : Type 0} (x : X) (xs : List X) (i : In x xs) → length xs ≡ 1 + length (deleted x xs i)
unfolding deleted
deleted_length x [] i = elim i [ ]
deleted_length x (y ∷ xs) (inl e) = omega arith
deleted_length x (y ∷ xs) (inr i) = omega (arith, deleted_length x xs i)

deleted_others : {X : Type 0} (x z : X) (xs : List X) (i : In x xs) → (z ≡ x → ⊥) → In z xs → In z (deleted x xs i)
unfolding deleted
deleted_others x z [] i apart j = elim i [ ]
deleted_others x z (y ∷ xs) (inl e) apart (inl f) = absurd (apart (f ∙ sym e))
deleted_others x z (y ∷ xs) (inl e) apart (inr j) = j
deleted_others x z (y ∷ xs) (inr i) apart (inl f) = inl f
deleted_others x z (y ∷ xs) (inr i) apart (inr j) = inr (deleted_others x z xs i apart j)

-- rising numbers whose slips all stand in a list are no more than the list has
pub no_more : (mark low : ℕ) (ns : List ℕ) (high : ℕ) (slips : List Slip) → Rising low ns high → ((n : ℕ) → In n ns → In (slip_of mark n) slips) → length ns ≤ length slips
no_more mark low [] high slips r names = omega arith
no_more mark low (n ∷ ns) high slips r names =
    let i = names n (inl refl) in
    let fewer = no_more mark (n + 1) ns high (deleted (slip_of mark n) slips i) r.1
    (λ m j. deleted_others (slip_of mark n) (slip_of mark m) slips i
    (λ e. omega (arith, ap (λ x. x.number) e, rising_above (n + 1) ns high m r.1 j)) (names m (inr j))) in
    omega (arith, fewer, deleted_length (slip_of mark n) slips i)

-- the numbers of the unfinished
abbrev pub open_numbers : List Inquiry → List ℕ
open_numbers [] = []
open_numbers (q ∷ qs) = cond (has_ended q.stage) (open_numbers qs) (q.number ∷ open_numbers qs)

pub rising_open : (low : ℕ) (qs : List Inquiry) (high : ℕ) → Rising low (numbers qs) high → Rising low (open_numbers qs) high
rising_open low [] high r = r
rising_open low (q ∷ qs) high r =
    cond_both (has_ended q.stage) _ _ (λ l. Rising low l high)
    (λ e. rising_from (q.number + 1) low (open_numbers qs) high (omega (arith, r.0)) (rising_open (q.number + 1) qs high r.1))
    (λ e. (r.0, rising_open (q.number + 1) qs high r.1))

-- an unfinished inquiry is the one looked up by its number
pub open_held : (low : ℕ) (qs : List Inquiry) (high n : ℕ) → Rising low (numbers qs) high → In n (open_numbers qs)
    → (q : Inquiry) × (held_under n qs ≡ Some q) × (has_ended q.stage ≡ false)
open_held low [] high n r i = elim i [ ]
open_held low (q ∷ qs) high n r here =
    cond_both (has_ended q.stage) _ _ (λ l. In n l → (x : Inquiry) × (held_under n (q ∷ qs) ≡ Some x) × (has_ended x.stage ≡ false))
    (λ e i. further i (open_held (q.number + 1) qs high n r.1 i))
    (λ e. ⊎_elim (λ is. (q, cond-true _ _ _ (eq-eqb q.number n (sym is)), e)) (λ i. further i (open_held (q.number + 1) qs high n r.1 i)))
    here
  where
    further : In n (open_numbers qs) → (x : Inquiry) × (held_under n qs ≡ Some x) × (has_ended x.stage ≡ false)
        → (x : Inquiry) × (held_under n (q ∷ qs) ≡ Some x) × (has_ended x.stage ≡ false)
    further i it =
        (it.0, cond-false _ _ _ (ne_eqb q.number n (λ e. omega (arith, e, rising_above (q.number + 1) (open_numbers qs) high n (rising_open (q.number + 1) qs high r.1) i))) ∙ it.1, it.2)

abbrev pub total : List Inquiry → ℕ
total [] = 0
total (q ∷ qs) = cost q.stage + total qs

-- each unfinished inquiry has at most 70 pulses left
pub total_bounded : (qs : List Inquiry) → AllByRecursion Bounded qs → total qs ≤ 70 * length (open_numbers qs)
total_bounded [] b = omega arith
total_bounded (q ∷ qs) b =
    cond_both (has_ended q.stage) _ _ (λ l. cost q.stage + total qs ≤ 70 * length l)
    (λ e. omega (arith, ended_cost q.stage e, total_bounded qs b.1)) (λ e. omega (arith, b.0, total_bounded qs b.1))
