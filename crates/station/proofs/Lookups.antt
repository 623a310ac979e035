-- What looking up by a number finds after one more is lodged, after a pulse, and after another is removed.
use Rattle.std.proofs.Common.{◌≡◌, ℕ, Bool, false, cond, eqb, ◌⊎◌, List, [], ◌∷◌, ◌++◌, Some, None, Option, sym, refl, ap, ◌∙◌, subst, inl, inr, ⊎_elim, arith}
use Rattle.std.proofs.lemmas.Bool.{cond_both, cond-true, cond-false, eqb-true, ne_eqb}
use Rattle.frames.specs.Finding.{Found}
use Rattle.station.specs.Inquiries.{Stage, ended, Inquiry, under_way, waits_still, is_due}
use Rattle.station.specs.Exchange.{heard, ticked, begun}
use Rattle.station.specs.Stations.{change, first, begins_unless, attempts, up_to_step_three, hears, ends_periods, held_under, without}
use Rattle.station.specs.Promises.{In}
use Rattle.station.proofs.Turns.{Over, over_fails, tries}

pub in_left : {X : Type 0} (x : X) (xs ys : List X) → In x xs → In x (xs ++ ys)
in_left x [] ys i = elim i [ ]
in_left x (y ∷ xs) ys (inl e) = inl e
in_left x (y ∷ xs) ys (inr i) = inr (in_left x xs ys i)

pub in_right : {X : Type 0} (x : X) (xs ys : List X) → In x ys → In x (xs ++ ys)
in_right x [] ys i = i
in_right x (y ∷ xs) ys i = inr (in_right x xs ys i)

pub in_parts : {X : Type 0} (x : X) (xs ys : List X) → In x (xs ++ ys) → In x xs ⊎ In x ys
in_parts x [] ys i = inr i
in_parts x (y ∷ xs) ys (inl e) = inl (inl e)
in_parts x (y ∷ xs) ys (inr i) = ⊎_elim (λ j. inl (inr j)) inr (in_parts x xs ys i)

pub looked : (n : ℕ) (qs : List Inquiry) → ((q : Inquiry) × (held_under n qs ≡ Some q)) ⊎ (held_under n qs ≡ None)
looked n qs = by (held_under n qs) refl
  where
    by : (o : Option Inquiry) → held_under n qs ≡ o → ((q : Inquiry) × (held_under n qs ≡ Some q)) ⊎ (held_under n qs ≡ None)
    by (Some q) e = inl (q, e)
    by None e = inr e

pub held_before : (n : ℕ) (qs more : List Inquiry) (q : Inquiry) → held_under n qs ≡ Some q → held_under n (qs ++ more) ≡ Some q
held_before n [] more q e = absurd (let z : ◌≡◌ {A = ℕ} 0 1 = cc in omega arith)
held_before n (x ∷ qs) more q e =
    cond_both (eqb x.number n) _ _ (λ o. o ≡ Some q → cond (eqb x.number n) (Some x) (held_under n (qs ++ more)) ≡ Some q)
    (λ t is. cond-true _ _ _ t ∙ is) (λ t is. cond-false _ _ _ t ∙ held_before n qs more q is) e

pub held_behind : (n : ℕ) (qs more : List Inquiry) → held_under n qs ≡ None → held_under n (qs ++ more) ≡ held_under n more
held_behind n [] more e = refl
held_behind n (x ∷ qs) more e =
    cond_both (eqb x.number n) _ _ (λ o. o ≡ None → cond (eqb x.number n) (Some x) (held_under n (qs ++ more)) ≡ held_under n more)
    (λ t is. absurd (let z : ◌≡◌ {A = ℕ} 0 1 = cc in omega arith)) (λ t is. cond-false _ _ _ t ∙ held_behind n qs more is) e

pub held_without : (n m : ℕ) (qs : List Inquiry) → (m ≡ n → ⊥) → held_under n (without m qs) ≡ held_under n qs
held_without n m [] apart = refl
held_without n m (x ∷ qs) apart =
    cond_both (eqb x.number m) _ _ (λ l. held_under n l ≡ held_under n (x ∷ qs))
    (λ t. sym (cond-false _ _ _ (ne_eqb x.number n (λ e. apart (sym (eqb-true x.number m t) ∙ e)))))
    (λ t. ap (λ o. cond (eqb x.number n) (Some x) o) (held_without n m qs apart))

-- an inquiry that has ended stays as it is
held_change : (passes : Stage → Bool) (f : Inquiry → Inquiry) → ((e : _) → passes (ended e) ≡ false) → ((q : Inquiry) → (f q).number ≡ q.number)
    → (n : ℕ) (qs : List Inquiry) (q : Inquiry) → held_under n qs ≡ Some q → Over q → held_under n (change passes f qs) ≡ Some q
held_change passes f fails keeps n [] q e over = e
held_change passes f fails keeps n (x ∷ qs) q e over =
    cond_both (eqb x.number n) _ _ (λ o. o ≡ Some q → held_under n (change passes f (x ∷ qs)) ≡ Some q)
    (λ t is. let same : q ≡ x = cc in
    ap (held_under n) (cond-false _ _ _ (over_fails passes fails x.stage (subst Over same over))) ∙ cond-true _ _ _ t ∙ is)
    (λ t is. cond_both (passes x.stage) _ _ (λ l. held_under n l ≡ Some q)
    (λ p. cond-false _ _ _ (ap (λ m. eqb m n) (keeps x) ∙ t) ∙ is) (λ p. cond-false _ _ _ t ∙ held_change passes f fails keeps n qs q is over))
    e

held_begin : (n : ℕ) (o : Option Inquiry) (qs : List Inquiry) (q : Inquiry) → held_under n qs ≡ Some q → Over q → held_under n (begins_unless o qs) ≡ Some q
held_begin n (Some x) qs q e over = e
held_begin n None qs q e over = held_change waits_still begun (λ e. refl) (λ q. refl) n qs q e over

pub held_pulse : (fs : List (ℕ × Found)) (capacity : ℕ) (outgoing : List ℕ) (n : ℕ) (qs : List Inquiry) (q : Inquiry) → held_under n qs ≡ Some q → Over q
    → held_under n (attempts capacity outgoing (up_to_step_three fs qs)) ≡ Some q
held_pulse fs capacity outgoing n qs q e over =
    let one = held_change under_way (heard fs) (λ e. refl) (λ q. refl) n qs q e over in
    let two = held_change under_way ticked (λ e. refl) (λ q. refl) n (hears fs qs) q one over in
    held_change is_due (tries capacity outgoing) (λ e. refl) (λ q. refl) n (up_to_step_three fs qs) q
    (held_begin n (first under_way (ends_periods (hears fs qs))) (ends_periods (hears fs qs)) q two over) over
