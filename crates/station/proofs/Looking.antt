-- Looking an inquiry up in the table by its stage, and putting another in its place.
use Rattle.std.proofs.Common.{◌≡◌, ℕ, suc, ◌+◌, ◌<◌, Bool, true, false, cond, ◌||◌, ltb, List, [], ◌∷◌, length, get_or, set, is_some, Some, None, Option, MutBor, sym, refl, ap, ◌∙◌, subst, arith}
use Rattle.std.specs.Option.{IsSome, IfSome, OnSome, option_map}
use Rattle.std.specs.List.{position_or_len, position_from, list_any}
use Rattle.std.proofs.lemmas.Iterator.Adapters.{position_from-zero}
use Rattle.std.proofs.lemmas.Bool.{cond_both, cond-true, cond-false}
use Rattle.station.specs.Inquiries as rules
use Rattle.station.specs.Inquiries.{under_way, waits_still}
use Rattle.station.specs.Exchange.{begun}
use Rattle.station.specs.Stations.{change, first, begins, begins_unless}

module _ (test : rules.Stage → Bool) where
  -- What a search comes to: at the place found stands the first inquiry that passes, and a record put there stands in its place.
  abbrev pub FoundAt : List rules.Inquiry → Option ℕ → Type 0
  FoundAt xs None = first test xs ≡ None
  FoundAt xs (Some i) =
      (i < length xs) × ((d : rules.Inquiry) → first test xs ≡ Some (get_or xs i d))
      × ((w : rules.Inquiry) → set xs i w ≡ change test (λ q. w) xs)

  -- The same, from a place on.
  abbrev FoundFrom : ℕ → List rules.Inquiry → Option ℕ → Type 0
  FoundFrom i xs None = FoundAt xs None
  FoundFrom i xs (Some j) = (k : ℕ) × (j ≡ i + k) × FoundAt xs (Some k)

  -- A search that passes a record over.
  one_over : (i : ℕ) (x : rules.Inquiry) (xs : List rules.Inquiry) (o : Option ℕ) → test x.stage ≡ false → FoundFrom (i + 1) xs o → FoundFrom i (x ∷ xs) o
  one_over i x xs None t none = cond-false (test x.stage) (Some x) (first test xs) t ∙ none
  one_over i x xs (Some j) t (k, at, (less, is, puts)) = (
    suc k,
    omega (arith, at),
    (
      omega (arith, less),
      λ d. cond-false (test x.stage) (Some x) (first test xs) t ∙ is d,
      λ w. ap (λ l. x ∷ l) (puts w)
          ∙ sym (cond-false (test x.stage) (w ∷ xs) (x ∷ change test (λ q. w) xs) t),
    ),
  )

  found_from : (i : ℕ) (xs : List rules.Inquiry) → FoundFrom i xs (position_from (λ q. test q.stage) i xs)
  found_from i [] = refl
  found_from i (x ∷ xs) =
      cond_both (test x.stage) (Some i) (position_from (λ q. test q.stage) (i + 1) xs) (FoundFrom i (x ∷ xs))
      (λ t. (
        0,
        omega arith,
        (
          omega arith,
          λ d. cond-true (test x.stage) (Some x) (first test xs) t,
          λ w. sym (cond-true (test x.stage) (w ∷ xs) (x ∷ change test (λ q. w) xs) t),
        ),
      ))
      (λ t. one_over i x xs (position_from (λ q. test q.stage) (i + 1) xs) t (found_from (i + 1) xs))

  pub found_at : (xs : List rules.Inquiry) (o : Option ℕ)
      → o ≡ cond (ltb (position_or_len (λ q. test q.stage) xs) (length xs)) (Some (position_or_len (λ q. test q.stage) xs)) None → FoundAt xs o
  found_at xs o e = go o (subst (FoundFrom 0 xs) (sym (e ∙ position_from-zero (λ q. test q.stage) xs)) (found_from 0 xs))
    where
      go : (o : Option ℕ) → FoundFrom 0 xs o → FoundAt xs o
      go None none = none
      go (Some j) (k, at, found) = subst (λ n. FoundAt xs (Some n)) (let same : k ≡ j = omega (arith, at) in same) found

  -- What is lent at the place found is the first that passes.
  pub lent_first : (xs : List rules.Inquiry) (i : ℕ) → FoundAt xs (Some i) → (r : Option (MutBor rules.Inquiry)) → IsSome r → IfSome r (λ x. x.now ≡ get_or xs i x.now)
      → first test xs ≡ option_map (λ x. x.now) r
  lent_first xs i found None some value = absurd (let z : ◌≡◌ {A = ℕ} 0 1 = cc in omega arith)
  lent_first xs i found (Some x) some value = found.1 x.now ∙ ap (λ q. Some q) (sym value)

any_step : (b rest : Bool) (q : rules.Inquiry) (o : Option rules.Inquiry) → rest ≡ is_some o → (b || rest) ≡ is_some (cond b (Some q) o)
any_step true rest q o e = refl
any_step false rest q o e = e

-- Whether any is under way is whether there is a first that is.
pub any_first : (xs : List rules.Inquiry) → list_any (λ q. under_way q.stage) xs ≡ is_some (first under_way xs)
any_first [] = refl
any_first (x ∷ xs) = any_step (under_way x.stage) _ x _ (any_first xs)

-- What holds anyway holds where there is something.
pub on_some : {X P : Type 0} (r : Option X) → P → OnSome r P
on_some None p = tt
on_some (Some x) p = p

-- With one under way none begins; with none under way the oldest that waits does.
pub none_begins : (qs : List rules.Inquiry) → true ≡ is_some (first under_way qs) → qs ≡ begins qs
none_begins qs some = by (first under_way qs) some
  where
    by : (o : Option rules.Inquiry) → true ≡ is_some o → qs ≡ begins_unless o qs
    by None e = absurd (let z : ◌≡◌ {A = ℕ} 0 1 = cc in omega arith)
    by (Some q) e = refl

pub oldest_begins : (qs : List rules.Inquiry) → false ≡ is_some (first under_way qs) → change waits_still begun qs ≡ begins qs
oldest_begins qs none = by (first under_way qs) none
  where
    by : (o : Option rules.Inquiry) → false ≡ is_some o → change waits_still begun qs ≡ begins_unless o qs
    by None e = refl
    by (Some q) e = absurd (let z : ◌≡◌ {A = ℕ} 0 1 = cc in omega arith)
