-- Looking an inquiry up by its number, and leaving it out.
use Rattle.std.proofs.Common.{◌≡◌, ℕ, suc, ◌+◌, ◌<◌, false, eqb, List, [], ◌∷◌, ◌++◌, length, get_or, take, drop, Some, None, Option, sym, refl, ap, ◌∙◌, subst, arith}
use Rattle.std.proofs.lemmas.Bool.{cond_both, cond-true, cond-false}
use Rattle.std.specs.List.{position_from}
use Rattle.frames.specs.Numbered.{place_of}
use Rattle.station.specs.Inquiries as rules
use Rattle.station.specs.Stations.{held_under, without}

module _ (number : ℕ) where
  -- A place has the first inquiry of the number, and leaving out that place leaves out the inquiry; or none has it.
  abbrev pub HoldsAt : List rules.Inquiry → Option ℕ → Type 0
  HoldsAt xs None = (held_under number xs ≡ None) × (xs ≡ without number xs)
  HoldsAt xs (Some i) =
      (i < length xs) × ((d : rules.Inquiry) → Some (get_or xs i d) ≡ held_under number xs)
      × (take i xs ++ drop (suc i) xs ≡ without number xs)

  -- What a search by number from a place on comes to.
  abbrev HeldFrom : ℕ → List rules.Inquiry → Option ℕ → Type 0
  HeldFrom i xs None = HoldsAt xs None
  HeldFrom i xs (Some j) = (k : ℕ) × (j ≡ i + k) × HoldsAt xs (Some k)

  one_over : (i : ℕ) (x : rules.Inquiry) (xs : List rules.Inquiry) (o : Option ℕ) → eqb x.number number ≡ false → HeldFrom (i + 1) xs o → HeldFrom i (x ∷ xs) o
  one_over i x xs None t (none, all) = (
    cond-false (eqb x.number number) (Some x) (held_under number xs) t ∙ none,
    ap (λ l. x ∷ l) all ∙ sym (cond-false (eqb x.number number) xs (x ∷ without number xs) t),
  )
  one_over i x xs (Some j) t (k, at, (less, is, leaves)) = (
    suc k,
    omega (arith, at),
    (
      omega (arith, less),
      λ d. is d ∙ sym (cond-false (eqb x.number number) (Some x) (held_under number xs) t),
      ap (λ l. x ∷ l) leaves ∙ sym (cond-false (eqb x.number number) xs (x ∷ without number xs) t),
    ),
  )

  held_from : (i : ℕ) (xs : List rules.Inquiry) → HeldFrom i xs (position_from (λ q. eqb q.number number) i xs)
  held_from i [] = (refl, refl)
  held_from i (x ∷ xs) =
      cond_both (eqb x.number number) (Some i) (position_from (λ q. eqb q.number number) (i + 1) xs) (HeldFrom i (x ∷ xs))
      (λ t. (
        0,
        omega arith,
        (
          omega arith,
          λ d. sym (cond-true (eqb x.number number) (Some x) (held_under number xs) t),
          sym (cond-true (eqb x.number number) xs (x ∷ without number xs) t),
        ),
      ))
      (λ t. one_over i x xs (position_from (λ q. eqb q.number number) (i + 1) xs) t (held_from (i + 1) xs))

  pub held_at : (xs : List rules.Inquiry) (o : Option ℕ) → o ≡ place_of (λ q. q.number) number xs → HoldsAt xs o
  held_at xs o e = go o (subst (HeldFrom 0 xs) (sym e) (held_from 0 xs))
    where
      go : (o : Option ℕ) → HeldFrom 0 xs o → HoldsAt xs o
      go None none = none
      go (Some j) (k, at, holds) = subst (λ n. HoldsAt xs (Some n)) (let same : k ≡ j = omega (arith, at) in same) holds
