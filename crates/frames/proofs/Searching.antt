-- The search of the sample cases finds what the finding rule finds.
use Rattle.std.proofs.Common.{◌≡◌, ℕ, ◌+◌, ◌<◌, ◌≤◌, Bool, true, false, eqb, leb, ◌&&◌, ◌⊎◌, List, [], ◌∷◌, ◌++◌, length, take, drop, Some, None, unwrap_or, sym, refl, ap, ◌∙◌, subst, inl, inr, ⊎_elim, add-zero, zero-add, arith, take-append-drop, ne_eqb, le-leb}
use borrow.Author.Tests.{lt-leb}
use Rattle.std.proofs.lemmas.List.{length-take-le}
use Rattle.std.proofs.lemmas.Bool.{cases_eq, cases_lt, cond-true, cond-false}
use Rattle.frames.specs.declared.finding.Cause.TheVariants.{Length}
use Rattle.frames.specs.Finding.{Found, dropped, Sized, verdict, Quiet, misfit, whole, Finds}
use Rattle.frames.specs.Promises.{SearchIsTheRule}
use Rattle.frames.specs.Samples.{judge_at, search_from}
use Rattle.frames.proofs.Uniqueness.{Judged, unfit, full, opened}

both_false : (x : Bool) → (x && false) ≡ false
both_false true = refl
both_false false = refl

-- the test for 0xFF directly followed by 0x02
no_start : (a b : ℕ) → (a ≡ 0xFF → b ≡ 0x02 → ⊥) → (eqb a 0xFF && eqb b 0x02) ≡ false
no_start a b apart =
    ⊎_elim
    (λ e. ⊎_elim (λ f. absurd (apart e f)) (λ f. ap (λ y. eqb a 0xFF && y) (ne_eqb b 0x02 f) ∙ both_false (eqb a 0xFF)) (cases_eq b 0x02))
    (λ e. ap (λ x. x && eqb b 0x02) (ne_eqb a 0xFF e))
    (cases_eq a 0xFF)

-- the search passes over noise
search_noise : (n : ℕ) (noise rest : List ℕ) → Quiet noise → search_from n (noise ++ (0xFF ∷ (0x02 ∷ rest))) ≡ judge_at (n + length noise) rest
search_noise n [] rest q = ap (λ k. judge_at k rest) (sym (add-zero n))
search_noise n (a ∷ []) rest q = cond-false _ _ _ (no_start a 0xFF (λ e f. omega arith)) ∙ refl
search_noise n (a ∷ b ∷ noise) rest q =
    cond-false _ _ _ (no_start a b q.0) ∙ search_noise (n + 1) (b ∷ noise) rest q.1
    ∙ ap (λ k. judge_at k rest) (let e : n + 1 + length (b ∷ noise) ≡ n + length (a ∷ b ∷ noise) = omega arith in e)

fits_test : (size : ℕ) → Sized size → (leb 4 size && leb size 254) ≡ true
fits_test size (low, high) = (λ i. le-leb 4 size low i && le-leb size 254 high i)

unfit_test : (size : ℕ) → (Sized size → ⊥) → (leb 4 size && leb size 254) ≡ false
unfit_test size small =
    ⊎_elim
    (λ lt. ap (λ x. x && leb size 254) (lt-leb 4 size lt))
    (λ ge. ap (λ y. leb 4 size && y) (lt-leb size 254 (⊎_elim (λ over. over) (λ under. absurd (small (ge, under))) (cases_lt 254 size))) ∙ both_false (leb 4 size))
    (cases_lt size 4)

judged_at : (n size : ℕ) (tail : List ℕ) {v : Found} {many : ℕ} → Judged size tail v many → judge_at n (size ∷ tail) ≡ Some (v, n + many)
judged_at n size tail (unfit small is m) = cond-false _ _ _ (unfit_test size small) ∙ (λ i. Some (sym is i, n + sym m i))
judged_at n size tail (full fits within is m) =
    cond-true _ _ _ (fits_test size fits) ∙ cond-true _ _ _ (le-leb size (length tail) within) ∙ (λ i. Some (sym is i, n + sym m i))

finds_search : (bytes : List ℕ) (v : Found) (used : ℕ) → Finds bytes v used → search_from 0 bytes ≡ Some (v, used)
finds_search bytes v used f =
    let o = opened f in
    ap (search_from 0) o.split ∙ search_noise 0 o.noise (o.size ∷ o.tail) o.quiet ∙ judged_at (0 + length o.noise) o.size o.tail o.judged
    ∙ ap (λ k. Some (v, k)) (let e : 0 + length o.noise + o.many ≡ used = omega (arith, o.counted) in e)

-- bytes are quiet, or have a first 0xFF directly followed by 0x02
record First (bytes : List ℕ) : Type 0 where
  noise : List ℕ
  rest : List ℕ
  split : bytes ≡ noise ++ (0xFF ∷ (0x02 ∷ rest))
  quiet : Quiet noise

later : (a b : ℕ) (bytes : List ℕ) → (a ≡ 0xFF → b ≡ 0x02 → ⊥) → First (b ∷ bytes) → First (a ∷ b ∷ bytes)
later a b bytes apart f = record { noise = a ∷ f.noise; rest = f.rest; split = ap (λ l. a ∷ l) f.split; quiet = longer f.noise f.split f.quiet }
  where
    longer : (noise : List ℕ) → b ∷ bytes ≡ noise ++ (0xFF ∷ (0x02 ∷ f.rest)) → Quiet noise → Quiet (a ∷ noise)
    longer [] e q = tt
    longer (c ∷ more) e q = (λ x y. apart x (let z : b ≡ c = cc in z ∙ y), q)

first : (bytes : List ℕ) → Quiet bytes ⊎ First bytes
first [] = inl tt
first (a ∷ []) = inl tt
first (a ∷ b ∷ bytes) =
    let go : (a ≡ 0xFF → b ≡ 0x02 → ⊥) → Quiet (a ∷ b ∷ bytes) ⊎ First (a ∷ b ∷ bytes) =
    λ apart. ⊎_elim (λ q. inl (apart, q)) (λ f. inr (later a b bytes apart f)) (first (b ∷ bytes)) in
    ⊎_elim
    (λ e. ⊎_elim (λ f. inr (record { noise = []; rest = bytes; split = λ i. e i ∷ (f i ∷ bytes); quiet = tt })) (λ f. go (λ x y. f y)) (cases_eq b 0x02))
    (λ e. go (λ x y. e x))
    (cases_eq a 0xFF)

search_quiet : (n : ℕ) (bytes : List ℕ) → Quiet bytes → search_from n bytes ≡ None
search_quiet n [] q = refl
search_quiet n (a ∷ []) q = refl
search_quiet n (a ∷ b ∷ bytes) q = cond-false _ _ _ (no_start a b q.0) ∙ search_quiet (n + 1) (b ∷ bytes) q.1

never_some : {X : Type 0} (x : X) → None ≡ Some x → ⊥
never_some x e = let z : ◌≡◌ {A = ℕ} 0 1 = cc in omega arith

-- what the search comes to at a start: nothing yet, or what the rule finds
module _ (noise tail : List ℕ) (size : ℕ) (q : Quiet noise) where
  abbrev Agrees : Type 0
  Agrees =
      (judge_at (length noise) (size ∷ tail) ≡ None)
      ⊎ ((v : Found) × (used : ℕ) × (judge_at (length noise) (size ∷ tail) ≡ Some (v, used)) × Finds (noise ++ (0xFF ∷ (0x02 ∷ (size ∷ tail)))) v used)

  at_misfit : (Sized size → ⊥) → Agrees
  at_misfit small = inr (
    dropped Length 3,
    length noise + 3,
    cond-false _ _ _ (unfit_test size small),
    record { noise = noise; candidate = 0xFF ∷ (0x02 ∷ (size ∷ [])); rest = tail; split = refl; quiet = q; judged = misfit size refl small refl; counted = refl },
  )

  at_part : Sized size → length tail < size → Agrees
  at_part fits few = inl (cond-true _ _ _ (fits_test size fits) ∙ cond-false _ _ _ (lt-leb size (length tail) few))

  at_whole : Sized size → size ≤ length tail → Agrees
  at_whole fits enough = inr (
    verdict size (take size tail),
    length noise + (size + 3),
    cond-true _ _ _ (fits_test size fits) ∙ cond-true _ _ _ (le-leb size (length tail) enough),
    record {
      noise = noise;
      candidate = 0xFF ∷ (0x02 ∷ (size ∷ take size tail));
      rest = drop size tail;
      split = ap (λ l. noise ++ (0xFF ∷ (0x02 ∷ (size ∷ l)))) (sym (take-append-drop size tail));
      quiet = q;
      judged = whole size (take size tail) refl fits (length-take-le size tail enough) refl;
      counted = omega (arith, length-take-le size tail enough);
    },
  )

  at_start : Agrees
  at_start =
      ⊎_elim
      (λ low. at_misfit (λ fits. omega (arith, fits)))
      (λ ge. ⊎_elim (λ high. at_misfit (λ fits. omega (arith, fits))) (λ le. ⊎_elim (at_part (ge, le)) (at_whole (ge, le)) (cases_lt (length tail) size)) (cases_lt 254 size))
      (cases_lt size 4)

-- where the search comes to the first start, it says what the rule finds there
at_first : (noise rest : List ℕ) (v : Found) (used : ℕ) → Quiet noise → judge_at (length noise) rest ≡ Some (v, used) → Finds (noise ++ (0xFF ∷ (0x02 ∷ rest))) v used
at_first noise [] v used q is = absurd (never_some _ is)
at_first noise (size ∷ tail) v used q is =
    ⊎_elim
    (λ nothing. absurd (never_some _ (sym nothing ∙ is)))
    (λ (w, m, e, f). let same = ap (λ o. unwrap_or o (v, used)) (sym e ∙ is) in subst (λ x. Finds _ x used) (ap (λ p. p.0) same) (subst (Finds _ w) (ap (λ p. p.1) same) f))
    (at_start noise tail size q)

search_finds : (bytes : List ℕ) (v : Found) (used : ℕ) → search_from 0 bytes ≡ Some (v, used) → Finds bytes v used
search_finds bytes v used is =
    ⊎_elim
    (λ q. absurd (never_some _ (sym (search_quiet 0 bytes q) ∙ is)))
    (λ f. subst (λ l. Finds l v used) (sym f.split)
    (at_first f.noise f.rest v used f.quiet
    (ap (λ k. judge_at k f.rest) (sym (zero-add (length f.noise))) ∙ sym (search_noise 0 f.noise f.rest f.quiet) ∙ ap (search_from 0) (sym f.split) ∙ is)))
    (first bytes)

pub search_is_the_rule : SearchIsTheRule
search_is_the_rule bytes v used = (finds_search bytes v used, search_finds bytes v used)
