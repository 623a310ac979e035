-- How long an inquiry still waits: the pulses left to it and to those before it, and that each call leaves no more.
use Rattle.std.proofs.Common.{◌≡◌, ℕ, ◌+◌, ◌<◌, ◌≤◌, true, false, cond, eqb, List, [], ◌∷◌, ◌++◌, Some, None, Option, sym, refl, ap, ◌∙◌, subst, ⊎_elim, arith}
use Rattle.std.specs.List.{AllByRecursion}
use Rattle.std.proofs.lemmas.Bool.{cond_both, cond-true, cond-false, eqb-true, eqb-false, eq-eqb, ne_eqb, cases_Bool, cases_eq}
use Rattle.frames.specs.Finding.{Found}
use Rattle.station.specs.Inquiries.{Stage, Inquiry, has_ended, under_way}
use Rattle.station.specs.Exchange.{begun}
use Rattle.station.specs.Stations.{first, new_inquiry, held_under, without}
use Rattle.station.proofs.Turns.{Over, clash, over_fails, first_none, first_behind, overs_fail, unbegun_fail, tries, moved}
use Rattle.station.proofs.Costs.{cost, moved_cost, ended_cost, running_cost}
use Rattle.station.proofs.Pulses.{Moves, rests, starts, continues, finishes, hands_over, opened_under_way, one_more}
use Rattle.station.proofs.Numbers.{numbers, Rising, held_number, gone_without, all_in}
use Rattle.station.proofs.Lookups.{looked, held_before, held_behind, held_without}
use Rattle.station.specs.Promises.{In}
use Rattle.station.proofs.Invariants.{all_split}
use Rattle.station.proofs.Counting.{total}

-- the inquiry of this number is held and unfinished
abbrev pub Open : ℕ → List Inquiry → Type 0
Open n qs = (q : Inquiry) × (held_under n qs ≡ Some q) × (has_ended q.stage ≡ false)

-- the pulses left to it and to those before it
abbrev pub sum_to : ℕ → List Inquiry → ℕ
sum_to n [] = 0
sum_to n (q ∷ qs) = cost q.stage + cond (eqb q.number n) 0 (sum_to n qs)

-- where none is under way, one pulse goes by before the first begins
abbrev pub pause : Option Inquiry → ℕ
pause None = 1
pause (Some q) = 0

abbrev pub wait_of : ℕ → List Inquiry → ℕ
wait_of n qs = sum_to n qs + pause (first under_way qs)

abbrev Apart : ℕ → Inquiry → Type 0
Apart n q = q.number ≡ n → ⊥

-- an inquiry that is unfinished stands behind those that have ended
past_apart : (n : ℕ) (es rest : List Inquiry) → AllByRecursion Over es → Open n (es ++ rest) → AllByRecursion (Apart n) es × Open n rest
past_apart n [] rest over is_open = (tt, is_open)
past_apart n (e ∷ es) rest over (q, held, still) =
    cond_both (eqb e.number n) _ _ (λ o. o ≡ Some q → AllByRecursion (Apart n) (e ∷ es) × Open n rest)
    (λ t is. let same : e ≡ q = cc in clash (sym still ∙ ap (λ x. has_ended x.stage) (sym same) ∙ over.0))
    (λ t is. let deeper = past_apart n es rest over.1 (q, is, still) in ((eqb-false e.number n t, deeper.0), deeper.1))
    held

sum_past : (n : ℕ) (es rest : List Inquiry) → AllByRecursion Over es → AllByRecursion (Apart n) es → sum_to n (es ++ rest) ≡ sum_to n rest
sum_past n [] rest over apart = refl
sum_past n (e ∷ es) rest over apart =
    let tail = cond-false (eqb e.number n) 0 (sum_to n (es ++ rest)) (ne_eqb e.number n apart.0) in
    omega (arith, ended_cost e.stage over.0, tail, sum_past n es rest over.1 apart.1)

open_past : (n : ℕ) (es rest : List Inquiry) → AllByRecursion (Apart n) es → Open n rest → Open n (es ++ rest)
open_past n [] rest apart is_open = is_open
open_past n (e ∷ es) rest apart is_open =
    let deeper = open_past n es rest apart.1 is_open in (deeper.0, cond-false _ _ _ (ne_eqb e.number n apart.0) ∙ deeper.1, deeper.2)

-- the first of a queue becomes another of the same number
open_head : (n : ℕ) (q new : Inquiry) (more : List Inquiry) → new.number ≡ q.number → has_ended q.stage ≡ false → Open n (new ∷ more) → Open n (q ∷ more)
open_head n q new more same still (x, held, is_open) =
    cond_both (eqb new.number n) _ _ (λ o. o ≡ Some x → Open n (q ∷ more))
    (λ t is. (q, cond-true _ _ _ (ap (λ m. eqb m n) (sym same) ∙ t), still))
    (λ t is. (x, cond-false _ _ _ (ap (λ m. eqb m n) (sym same) ∙ t) ∙ is, is_open))
    held

over_none : (n : ℕ) (es : List Inquiry) → AllByRecursion Over es → Open n es → ⊥
over_none n es over (q, held, still) = clash (sym still ∙ all_in Over es q over (held_number n es q held).2)

not_over : (now : Stage) → under_way now ≡ true → has_ended now ≡ false
not_over now e = ⊎_elim (λ over. clash (sym (over_fails under_way (λ end. refl) now over) ∙ e)) (λ f. f) (cases_Bool (has_ended now))

first_way : (es : List Inquiry) (q : Inquiry) (more : List Inquiry) → AllByRecursion Over es → under_way q.stage ≡ true → first under_way (es ++ (q ∷ more)) ≡ Some q
first_way es q more over way = first_behind under_way es (q ∷ more) (overs_fail under_way (λ e. refl) es over) ∙ cond-true _ _ _ way

-- unfinished before too, with a pulse more to wait
abbrev WaitsLess : ℕ → List Inquiry → List Inquiry → List Inquiry → Type 0
WaitsLess n es queue after = Open n (es ++ queue) × (wait_of n after + 1 ≤ wait_of n (es ++ queue))

-- a pulse leaves one pulse less, and makes nothing unfinished
pub pulse_waits : (n : ℕ) (fs : List (ℕ × Found)) (capacity : ℕ) (outgoing : List ℕ) {es queue after : List Inquiry} {attempt : Option Inquiry}
    → AllByRecursion Over es → Moves fs capacity outgoing es queue after attempt → Open n after → Open n (es ++ queue) × (wait_of n after + 1 ≤ wait_of n (es ++ queue))
pulse_waits n fs capacity outgoing {es} {queue} {after} over (rests e f a) is_open = absurd (over_none n es over (subst (Open n) f is_open))
pulse_waits n fs capacity outgoing {es} {queue} {after} over (finishes q e way done f a) is_open =
    absurd (over_none n (es ++ (moved fs q ∷ [])) (one_more es (moved fs q) over done) (subst (Open n) f is_open))
pulse_waits n fs capacity outgoing {es} {queue} {after} over (starts q more e unbegun wait f a) is_open =
    let new = tries capacity outgoing (begun q) in
    let parts = past_apart n es (new ∷ more) over (subst (Open n) f is_open) in
    let idle = ap pause (first_behind under_way es (q ∷ more) (overs_fail under_way (λ e. refl) es over)
    ∙ first_none under_way (q ∷ more) (ap under_way unbegun.0, unbegun_fail under_way refl more wait)) in
    let busy = ap pause (first_way es new more over refl) in
    subst (λ l. WaitsLess n es l after) (sym e) (subst (WaitsLess n es (q ∷ more)) (sym f) (
      open_past n es (q ∷ more) parts.0 (open_head n q new more refl (ap has_ended unbegun.0) parts.1),
      omega (arith, sum_past n es (q ∷ more) over parts.0, sum_past n es (new ∷ more) over parts.0, idle, busy, ap cost unbegun.0),
    ))
pulse_waits n fs capacity outgoing {es} {queue} {after} over (continues q more e way wait still f a) is_open =
    let new = tries capacity outgoing (moved fs q) in
    let parts = past_apart n es (new ∷ more) over (subst (Open n) f is_open) in
    let busy = ap pause (first_way es new more over (opened_under_way (moved fs q).stage still)) in
    subst (λ l. WaitsLess n es l after) (sym e) (subst (WaitsLess n es (q ∷ more)) (sym f) (
      open_past n es (q ∷ more) parts.0 (open_head n q new more refl (not_over q.stage way) parts.1),
      omega (arith, sum_past n es (q ∷ more) over parts.0, sum_past n es (new ∷ more) over parts.0, busy, moved_cost fs q still),
    ))
pulse_waits n fs capacity outgoing {es} {queue} {after} over (hands_over q next more e way wait done f a) is_open =
    let new = tries capacity outgoing (begun next) in
    let past = es ++ (moved fs q ∷ []) in
    let parts = past_apart n past (new ∷ more) (one_more es (moved fs q) over done) (subst (Open n) f is_open) in
    let early = all_split (Apart n) es (moved fs q ∷ []) parts.0 in
    let later = open_head n next new more refl (ap has_ended wait.0.0) parts.1 in
    let busy = ap pause (first_way past new more (one_more es (moved fs q) over done) refl) in
    let tail = cond-false (eqb q.number n) 0 (sum_to n (next ∷ more)) (ne_eqb q.number n early.1.0) in
    subst (λ l. WaitsLess n es l after) (sym e) (subst (WaitsLess n es (q ∷ (next ∷ more))) (sym f) (
      open_past n es (q ∷ (next ∷ more)) early.0 (later.0, cond-false _ _ _ (ne_eqb q.number n early.1.0) ∙ later.1, later.2),
      omega (
        arith,
        sum_past n es (q ∷ (next ∷ more)) over early.0,
        sum_past n past (new ∷ more) (one_more es (moved fs q) over done) parts.0,
        busy,
        tail,
        running_cost q.stage way,
        ap cost wait.0.0,
      ),
    ))

-- lodging adds nothing before it
sum_before : (n : ℕ) (qs more : List Inquiry) (q : Inquiry) → held_under n qs ≡ Some q → sum_to n (qs ++ more) ≡ sum_to n qs
sum_before n [] more q held = absurd (let z : ◌≡◌ {A = ℕ} 0 1 = cc in omega arith)
sum_before n (x ∷ qs) more q held =
    ap (λ k. cost x.stage + k)
    (cond_both (eqb x.number n) _ _ (λ o. o ≡ Some q → cond (eqb x.number n) 0 (sum_to n (qs ++ more)) ≡ cond (eqb x.number n) 0 (sum_to n qs))
    (λ t is. cond-true _ _ _ t ∙ sym (cond-true _ _ _ t)) (λ t is. ap (cond (eqb x.number n) 0) (sum_before n qs more q is)) held)

first_before : (qs : List Inquiry) (q : Inquiry) → under_way q.stage ≡ false → first under_way (qs ++ (q ∷ [])) ≡ first under_way qs
first_before [] q e = cond-false _ _ _ e
first_before (x ∷ qs) q e = ap (cond (under_way x.stage) (Some x)) (first_before qs q e)

pub lodge_waits : (n : ℕ) (qs : List Inquiry) (next c : ℕ) (d : List ℕ) → n < next → Open n (qs ++ (new_inquiry next c d ∷ []))
    → Open n qs × (wait_of n (qs ++ (new_inquiry next c d ∷ [])) ≡ wait_of n qs)
lodge_waits n qs next c d less (q, held, still) =
    ⊎_elim
    (λ it. let same : q ≡ it.0 = cc (held_before n qs (new_inquiry next c d ∷ []) it.0 it.1) in (
      (it.0, it.1, subst (λ x. has_ended x.stage ≡ false) same still),
      (λ i. sum_before n qs (new_inquiry next c d ∷ []) it.0 it.1 i + pause (first_before qs (new_inquiry next c d) refl i)),
    ))
    (λ none. let not_it = held_behind n qs (new_inquiry next c d ∷ []) none ∙ cond-false _ _ _ (ne_eqb next n (λ e. omega (arith, less, e))) in
    absurd (let z : ◌≡◌ {A = ℕ} 0 1 = cc in omega arith))
    (looked n qs)

-- one that has ended and is removed had no pulse left
sum_without : (n m : ℕ) (qs : List Inquiry) (q : Inquiry) → (m ≡ n → ⊥) → held_under m qs ≡ Some q → Over q → sum_to n (without m qs) ≡ sum_to n qs
sum_without n m [] q apart held over = refl
sum_without n m (x ∷ qs) q apart held over =
    cond_both (eqb x.number m) _ _ (λ o. o ≡ Some q → sum_to n (without m (x ∷ qs)) ≡ sum_to n (x ∷ qs))
    (λ t is. let same : q ≡ x = cc in
    let gone = ap (sum_to n) (cond-true (eqb x.number m) qs (x ∷ without m qs) t) in
    let tail = cond-false (eqb x.number n) 0 (sum_to n qs) (ne_eqb x.number n (λ e. apart (sym (eqb-true x.number m t) ∙ e))) in
    omega (arith, gone, tail, ended_cost x.stage (subst Over same over)))
    (λ t is. ap (sum_to n) (cond-false (eqb x.number m) qs (x ∷ without m qs) t) ∙ ap (λ k. cost x.stage + cond (eqb x.number n) 0 k) (sum_without n m qs q apart is over))
    held

first_without : (m : ℕ) (qs : List Inquiry) (q : Inquiry) → held_under m qs ≡ Some q → Over q → first under_way (without m qs) ≡ first under_way qs
first_without m [] q held over = refl
first_without m (x ∷ qs) q held over =
    cond_both (eqb x.number m) _ _ (λ o. o ≡ Some q → first under_way (without m (x ∷ qs)) ≡ first under_way (x ∷ qs))
    (λ t is. let same : q ≡ x = cc in
    ap (first under_way) (cond-true (eqb x.number m) qs (x ∷ without m qs) t)
    ∙ sym (cond-false _ _ _ (over_fails under_way (λ e. refl) x.stage (subst Over same over))))
    (λ t is. ap (first under_way) (cond-false (eqb x.number m) qs (x ∷ without m qs) t) ∙ ap (cond (under_way x.stage) (Some x)) (first_without m qs q is over))
    held

pub collect_waits : (n m low : ℕ) (qs : List Inquiry) (high : ℕ) (q : Inquiry) → Rising low (numbers qs) high → held_under m qs ≡ Some q → Over q → Open n (without m qs)
    → Open n qs × (wait_of n (without m qs) ≡ wait_of n qs)
collect_waits n m low qs high q rising held over (x, is, still) =
    ⊎_elim
    (λ same. absurd (gone_without m low qs high rising (subst (λ k. In k (numbers (without m qs))) (sym same) (held_number n (without m qs) x is).1)))
    (λ apart. ((x, sym (held_without n m qs apart) ∙ is, still), (λ i. sum_without n m qs q apart held over i + pause (first_without m qs q held over i))))
    (cases_eq m n)

-- behind all others
pub sum_new : (n : ℕ) (qs : List Inquiry) (c : ℕ) (d : List ℕ) → held_under n qs ≡ None → sum_to n (qs ++ (new_inquiry n c d ∷ [])) ≡ total qs + 70
sum_new n [] c d none = ap (λ k. 70 + k) (cond-true (eqb n n) 0 0 (eq-eqb n n refl))
sum_new n (x ∷ qs) c d none =
    cond_both (eqb x.number n) _ _ (λ o. o ≡ None → sum_to n ((x ∷ qs) ++ (new_inquiry n c d ∷ [])) ≡ total (x ∷ qs) + 70)
    (λ t is. absurd (let z : ◌≡◌ {A = ℕ} 0 1 = cc in omega arith))
    (λ t is. let tail = cond-false (eqb x.number n) 0 (sum_to n (qs ++ (new_inquiry n c d ∷ []))) t in omega (arith, tail, sum_new n qs c d is))
    none
