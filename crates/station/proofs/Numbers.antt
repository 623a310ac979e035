-- Numbers rise in the order lodged: what adding, changing and removing an inquiry does to them.
use Rattle.std.proofs.Common.{◌≡◌, ℕ, ◌+◌, ◌<◌, ◌≤◌, Bool, eqb, List, [], ◌∷◌, ◌++◌, Some, None, Option, sym, refl, ap, ◌∙◌, subst, inl, inr, ⊎_elim, arith}
use Rattle.std.specs.List.{AllByRecursion}
use Rattle.std.proofs.lemmas.Bool.{cond_both, cond-true, cond-false, eqb-true, eqb-false, ne_eqb}
use Rattle.frames.specs.Finding.{Found}
use Rattle.station.specs.Inquiries.{Stage, Inquiry, under_way, waits_still, has_ended, is_due}
use Rattle.station.specs.Exchange.{heard, ticked, begun}
use Rattle.station.specs.Stations.{change, first, begins_unless, attempts, up_to_step_three, hears, ends_periods, held_under, without}
use Rattle.station.specs.Promises.{In}
use Rattle.station.proofs.Turns.{Over, Unbegun, clash, over_fails, tries}
use Rattle.station.proofs.Pulses.{Queue}

abbrev pub numbers : List Inquiry → List ℕ
numbers [] = []
numbers (q ∷ qs) = q.number ∷ numbers qs

-- each number is above the one before, from `low` on, and all are below `high`
abbrev pub Rising : ℕ → List ℕ → ℕ → Type 0
Rising low [] high = low ≤ high
Rising low (n ∷ ns) high = (low ≤ n) × Rising (n + 1) ns high

pub rising_push : (low : ℕ) (ns : List ℕ) (high : ℕ) → Rising low ns high → Rising low (ns ++ (high ∷ [])) (high + 1)
rising_push low [] high r = (r, omega arith)
rising_push low (n ∷ ns) high r = (r.0, rising_push (n + 1) ns high r.1)

pub rising_from : (low less : ℕ) (ns : List ℕ) (high : ℕ) → less ≤ low → Rising low ns high → Rising less ns high
rising_from low less [] high le r = omega (arith, r)
rising_from low less (n ∷ ns) high le r = (omega (arith, r.0), r.1)

pub rising_above : (low : ℕ) (ns : List ℕ) (high n : ℕ) → Rising low ns high → In n ns → low ≤ n
rising_above low [] high n r i = elim i [ ]
rising_above low (m ∷ ns) high n r (inl e) = omega (arith, r.0)
rising_above low (m ∷ ns) high n r (inr i) = omega (arith, r.0, rising_above (m + 1) ns high n r.1 i)

pub rising_low : (low : ℕ) (ns : List ℕ) (high : ℕ) → Rising low ns high → low ≤ high
rising_low low [] high r = r
rising_low low (n ∷ ns) high r = omega (arith, r.0, rising_low (n + 1) ns high r.1)

pub rising_below : (low : ℕ) (ns : List ℕ) (high n : ℕ) → Rising low ns high → In n ns → n < high
rising_below low [] high n r i = elim i [ ]
rising_below low (m ∷ ns) high n r (inl e) = omega (arith, rising_low (m + 1) ns high r.1)
rising_below low (m ∷ ns) high n r (inr i) = rising_below (m + 1) ns high n r.1 i

numbers_change : (passes : Stage → Bool) (f : Inquiry → Inquiry) → ((q : Inquiry) → (f q).number ≡ q.number) → (qs : List Inquiry) → numbers (change passes f qs) ≡ numbers qs
numbers_change passes f keeps [] = refl
numbers_change passes f keeps (q ∷ qs) =
    cond_both (passes q.stage) _ _ (λ l. numbers l ≡ q.number ∷ numbers qs)
    (λ e. ap (λ n. n ∷ numbers qs) (keeps q)) (λ e. ap (λ l. q.number ∷ l) (numbers_change passes f keeps qs))

numbers_begin : (o : Option Inquiry) (qs : List Inquiry) → numbers (begins_unless o qs) ≡ numbers qs
numbers_begin (Some q) qs = refl
numbers_begin None qs = numbers_change waits_still begun (λ q. refl) qs

-- a pulse changes no number
pub numbers_pulse : (fs : List (ℕ × Found)) (capacity : ℕ) (outgoing : List ℕ) (qs : List Inquiry) → numbers (attempts capacity outgoing (up_to_step_three fs qs)) ≡ numbers qs
numbers_pulse fs capacity outgoing qs =
    numbers_change is_due (tries capacity outgoing) (λ q. refl) (up_to_step_three fs qs)
    ∙ numbers_begin (first under_way (ends_periods (hears fs qs))) (ends_periods (hears fs qs))
    ∙ numbers_change under_way ticked (λ q. refl) (hears fs qs)
    ∙ numbers_change under_way (heard fs) (λ q. refl) qs

pub numbers_join : (qs more : List Inquiry) → numbers (qs ++ more) ≡ numbers qs ++ numbers more
numbers_join [] more = refl
numbers_join (q ∷ qs) more = ap (λ l. q.number ∷ l) (numbers_join qs more)

-- removing one leaves the others
pub rising_without : (n low : ℕ) (qs : List Inquiry) (high : ℕ) → Rising low (numbers qs) high → Rising low (numbers (without n qs)) high
rising_without n low [] high r = r
rising_without n low (q ∷ qs) high r =
    cond_both (eqb q.number n) _ _ (λ l. Rising low (numbers l) high)
    (λ e. rising_from (q.number + 1) low (numbers qs) high (omega (arith, r.0)) r.1) (λ e. (r.0, rising_without n (q.number + 1) qs high r.1))

pub all_without : (P : Inquiry → Type 0) (n : ℕ) (qs : List Inquiry) → AllByRecursion P qs → AllByRecursion P (without n qs)
all_without P n [] a = tt
all_without P n (q ∷ qs) a = cond_both (eqb q.number n) _ _ (AllByRecursion P) (λ e. a.1) (λ e. (a.0, all_without P n qs a.1))

pub in_without : (n m : ℕ) (qs : List Inquiry) → In m (numbers (without n qs)) → In m (numbers qs)
in_without n m [] i = i
in_without n m (q ∷ qs) i =
    cond_both (eqb q.number n) _ _ (λ l. In m (numbers l) → In m (numbers (q ∷ qs))) (λ e j. inr j)
    (λ e. ⊎_elim inl (λ j. inr (in_without n m qs j))) i

pub without_in : (n m : ℕ) (qs : List Inquiry) → (m ≡ n → ⊥) → In m (numbers qs) → In m (numbers (without n qs))
without_in n m [] apart i = elim i [ ]
without_in n m (q ∷ qs) apart i =
    cond_both (eqb q.number n) _ _ (λ l. In m (numbers l))
    (λ e. ⊎_elim (λ is. absurd (apart (is ∙ eqb-true q.number n e))) (λ j. j) i)
    (λ e. ⊎_elim inl (λ j. inr (without_in n m qs apart j)) i)

pub gone_without : (n low : ℕ) (qs : List Inquiry) (high : ℕ) → Rising low (numbers qs) high → In n (numbers (without n qs)) → ⊥
gone_without n low [] high r i = i
gone_without n low (q ∷ qs) high r i =
    cond_both (eqb q.number n) _ _ (λ l. In n (numbers l) → ⊥)
    (λ e j. omega (arith, eqb-true q.number n e, rising_above (q.number + 1) (numbers qs) high n r.1 j))
    (λ e. ⊎_elim (λ is. eqb-false q.number n e (sym is)) (λ j. gone_without n (q.number + 1) qs high r.1 j)) i

-- what is looked up by a number
pub held_number : (n : ℕ) (qs : List Inquiry) (q : Inquiry) → held_under n qs ≡ Some q → (q.number ≡ n) × In n (numbers qs) × In q qs
held_number n (x ∷ qs) q =
    cond_both (eqb x.number n) _ _ (λ o. o ≡ Some q → (q.number ≡ n) × In n (numbers (x ∷ qs)) × In q (x ∷ qs))
    (λ e is. let same : x ≡ q = cc in (ap (λ y. y.number) (sym same) ∙ eqb-true x.number n e, inl (sym (eqb-true x.number n e)), inl (sym same)))
    (λ e is. let deeper = held_number n qs q is in (deeper.0, inr deeper.1, inr deeper.2))
held_number n [] q = λ is. absurd (let z : ◌≡◌ {A = ℕ} 0 1 = cc in omega arith)

pub not_held : (n : ℕ) (qs : List Inquiry) → (In n (numbers qs) → ⊥) → held_under n qs ≡ None
not_held n [] out = refl
not_held n (q ∷ qs) out = cond-false _ _ _ (ne_eqb q.number n (λ e. out (inl (sym e)))) ∙ not_held n qs (λ i. out (inr i))

pub in_held : (n : ℕ) (qs : List Inquiry) → In n (numbers qs) → (q : Inquiry) × (held_under n qs ≡ Some q)
in_held n [] i = elim i [ ]
in_held n (q ∷ qs) i =
    cond_both (eqb q.number n) _ _ (λ o. (x : Inquiry) × (o ≡ Some x)) (λ e. (q, refl))
    (λ e. in_held n qs (⊎_elim (λ is. absurd (eqb-false q.number n e (sym is))) (λ j. j) i))

pub all_in : {X : Type 0} (P : X → Type 0) (xs : List X) (x : X) → AllByRecursion P xs → In x xs → P x
all_in P [] x a i = elim i [ ]
all_in P (y ∷ xs) x a (inl e) = subst P (sym e) a.0
all_in P (y ∷ xs) x a (inr i) = all_in P xs x a.1 i

unbegun_not_over : (q : Inquiry) → Unbegun q → Over q → ⊥
unbegun_not_over q (e, n) over = clash (sym (ap has_ended e) ∙ over)

queued_not_over : (queue : List Inquiry) (q : Inquiry) → Queue queue → In q queue → Over q → ⊥
queued_not_over [] q queued i over = elim i [ ]
queued_not_over (x ∷ more) q (way, wait) (inl e) over =
    ⊎_elim (λ u. clash (sym (over_fails under_way (λ end. refl) x.stage (subst Over e over)) ∙ u)) (λ u. unbegun_not_over x u (subst Over e over)) way
queued_not_over (x ∷ more) q (way, wait) (inr i) over = unbegun_not_over q (all_in Unbegun more q wait i) over

-- an ended inquiry that is looked up and removed stands before the queue
pub remove_past : (n : ℕ) (es queue : List Inquiry) (q : Inquiry) → Queue queue → held_under n (es ++ queue) ≡ Some q → Over q
    → (without n (es ++ queue) ≡ without n es ++ queue) × In q es
remove_past n [] queue q queued is over = absurd (queued_not_over queue q queued (held_number n queue q is).2 over)
remove_past n (e ∷ es) queue q queued found ended =
    cond_both (eqb e.number n) _ _ (λ o. o ≡ Some q → Over q → (without n ((e ∷ es) ++ queue) ≡ without n (e ∷ es) ++ queue) × In q (e ∷ es))
    (λ t is over. let same : e ≡ q = cc in (cond-true _ _ _ t ∙ ap (λ l. l ++ queue) (sym (cond-true _ _ _ t)), inl (sym same)))
    (λ t is over. let deeper = remove_past n es queue q queued is over in
    (cond-false _ _ _ t ∙ ap (λ l. e ∷ l) deeper.0 ∙ ap (λ l. l ++ queue) (sym (cond-false _ _ _ t)), inr deeper.1))
    found ended
