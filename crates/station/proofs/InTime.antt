-- Every inquiry ends in time.
use Rattle.std.proofs.Common.{◌≡◌, ℕ, ◌+◌, ◌*◌, ◌<◌, ◌≤◌, false, eqb, List, [], ◌∷◌, ◌++◌, length, Some, None, Ok, Err, Option, Result, sym, refl, ap, ◌∙◌, subst, inl, inr, ⊎_elim, arith}
use Rattle.std.proofs.lemmas.Bool.{cases_Bool, cond_both, cond-false}
use Rattle.station.proofs.Turns.{clash}
use Rattle.station.specs.declared.refusal.Refusal.{Refusal}
use Rattle.station.specs.declared.refusal.Refusal.TheVariants.{NotEnded}
use Rattle.station.specs.Inquiries.{Stage, waiting, due, acknowledging, answering, receiving, ended, Inquiry, Outcome, has_ended, under_way}
use Rattle.station.specs.Stations.{Slip, Station, first, new_inquiry, lodge_cause, lodge_after, lodge_answer, outcome_of, replies, attempts, up_to_step_three, collect_after}
use Rattle.station.specs.Histories.{Event, lodges, pulses, collects, History, ◌▸◌, ◌then◌, Run, Step, Given, pulses_in}
use Rattle.station.specs.Promises.{Always, Ended, ListsUnfinished, EndsInTime}
use Rattle.station.proofs.Costs.{cost}
use Rattle.station.proofs.Pulses.{pulse_moves}
use Rattle.station.proofs.Numbers.{numbers, rising_below, not_held, in_held}
use Rattle.station.proofs.Asking.{tells, told_own, Had, had, collected, told_unfinished, told_ended}
use Rattle.station.proofs.Invariants.{Good, good, first_number}
use Rattle.station.proofs.Slips.{slip_of, slips, given_on}
use Rattle.station.proofs.Counting.{no_more, open_numbers, rising_open, open_held, total_bounded}
use Rattle.station.proofs.Waiting.{Open, sum_to, pause, wait_of, pulse_waits, lodge_waits, collect_waits, sum_new}

-- after a call an inquiry is unfinished only if it was before, and a pulse leaves it a pulse less
Falls : ℕ → ℕ → List Inquiry → List Inquiry → Type 0
Falls n used before after = Open n after → Open n before × (wait_of n after + used ≤ wait_of n before)

one_pulse : Event → ℕ
one_pulse (lodges c d answer) = 0
one_pulse (pulses line line_after) = 1
one_pulse (collects slip memory answer) = 0

same_wait : (n : ℕ) (qs : List Inquiry) → Falls n 0 qs qs
unfolding Falls
same_wait n qs is_open = (is_open, omega arith)

lodge_falls : (n : ℕ) (b : Station) (c : ℕ) (d : List ℕ) (o : Option Refusal) → n < b.next → Falls n 0 b.places (lodge_after b c d o).places
unfolding Falls
lodge_falls n b c d (Some r) less is_open = (is_open, omega arith)
lodge_falls n b c d None less is_open = let it = lodge_waits n b.places b.next c d less is_open in (it.0, omega (arith, it.1))

collect_falls : (n low : ℕ) (b : Station) (slip : Slip) (r : Result Outcome Refusal) → ((o : Outcome) → r ≡ Ok o → Had b slip o) → Good low b → Falls n 0 b.places (collect_after b slip r).places
unfolding Falls
collect_falls n low b slip (Err r) has good is_open = (is_open, omega arith)
collect_falls n low b slip (Ok o) has good is_open =
    let had_it = has o refl in
    let it = collect_waits n slip.number low b.places b.next had_it.inquiry good.rising had_it.held (ap has_ended had_it.at) is_open in
    (it.0, omega (arith, it.1))

step_falls : (n low : ℕ) (b s : Station) (e : Event) → Step b e s → Good low b → n < b.next → Falls n (one_pulse e) b.places s.places
unfolding Falls one_pulse
step_falls n low b s (lodges c d answer) (a, e) good less =
    subst (λ t. Falls n 0 b.places t.places) (sym e) (lodge_falls n b c d (lodge_cause b c d) less)
step_falls n low b s (collects slip memory answer) (a, e) good less =
    subst (λ t. Falls n 0 b.places t.places) (sym e) (collect_falls n low b slip answer (λ o is. had b slip o (collected b slip memory o (sym is ∙ a))) good)
step_falls n low b s (pulses line line_after) p good less =
    let fs = p.findings in
    let out = replies line.capacity fs line.outgoing in
    let past = good.order.past in
    let queue = good.order.queue in
    let moves = pulse_moves fs line.capacity out past queue good.order.over good.order.queued in
    let list = p.places ∙ ap (λ l. attempts line.capacity out (up_to_step_three fs l)) good.order.split in
    subst (λ l. Falls n 1 l s.places) (sym good.order.split)
    (subst (Falls n 1 (past ++ queue)) (sym list) (pulse_waits n fs line.capacity out good.order.over moves))

lodge_next : (b : Station) (c : ℕ) (d : List ℕ) (o : Option Refusal) → b.next ≤ (lodge_after b c d o).next
lodge_next b c d None = omega arith
lodge_next b c d (Some r) = omega arith

collect_next : (b : Station) (slip : Slip) (r : Result Outcome Refusal) → b.next ≤ (collect_after b slip r).next
collect_next b slip (Ok o) = omega arith
collect_next b slip (Err r) = omega arith

step_next : (b s : Station) (e : Event) → Step b e s → b.next ≤ s.next
step_next b s (lodges c d answer) (a, e) = subst (λ t. b.next ≤ t.next) (sym e) (lodge_next b c d (lodge_cause b c d))
step_next b s (pulses line line_after) p = omega (arith, p.next)
step_next b s (collects slip memory answer) (a, e) = subst (λ t. b.next ≤ t.next) (sym e) (collect_next b slip answer)

count_more : (e : Event) (more : List Event) → pulses_in (e ∷ more) ≡ one_pulse e + pulses_in more
unfolding one_pulse
count_more (lodges c d answer) more = omega arith
count_more (pulses line line_after) more = omega arith
count_more (collects slip memory answer) more = omega arith

falls_on : (n one two : ℕ) (a b c : List Inquiry) → Falls n one a b → Falls n two b c → Falls n (one + two) a c
unfolding Falls
falls_on n one two a b c f g is_open = let late = g is_open in let early = f late.0 in (early.0, omega (arith, late.1, early.1))

-- through any calls
follow : (later : List Event) (h : History) (s : Station) (n : ℕ) → Run (h then later) s → ((b : Station) → Run h b → n < b.next)
    → (b : Station) × Run h b × Falls n (pulses_in later) b.places s.places
follow [] h s n run less = (s, run, same_wait n s.places)
follow (e ∷ more) h s n run less =
    let further = follow more (h ▸ e) s n run (λ c was. omega (arith, less was.0 was.1, step_next was.0 c e was.2)) in
    let middle = further.0 in
    let b = further.1.0 in
    let was = further.1.1 in
    let now = step_falls n (first_number h) b middle e further.1.2 (good h b was) (less b was) in
    (b, was, subst (λ k. Falls n k b.places s.places) (sym (count_more e more)) (falls_on n (one_pulse e) (pulses_in more) b.places middle.places s.places now further.2))

given_then : (slip : Slip) (h : History) (later : List Event) → Given slip h → Given slip (h then later)
given_then slip h [] was = was
given_then slip h (e ∷ more) was = given_then slip (h ▸ e) more (given_on slip h e was)

unfinished_cost : (now : Stage) → has_ended now ≡ false → 1 ≤ cost now
unfinished_cost waiting e = omega arith
unfinished_cost (due k) e = omega arith
unfinished_cost (acknowledging k left) e = omega arith
unfinished_cost (answering left) e = omega arith
unfinished_cost (receiving left) e = omega arith
unfinished_cost (ended end) e = clash (sym e)

-- an unfinished inquiry has a pulse left
open_cost : (n : ℕ) (qs : List Inquiry) → Open n qs → 1 ≤ sum_to n qs
open_cost n [] (q, held, still) = absurd (let z : ◌≡◌ {A = ℕ} 0 1 = cc in omega arith)
open_cost n (x ∷ qs) (q, held, still) =
    cond_both (eqb x.number n) _ _ (λ o. o ≡ Some q → 1 ≤ sum_to n (x ∷ qs))
    (λ t is. let same : q ≡ x = cc in omega (arith, unfinished_cost x.stage (subst (λ y. has_ended y.stage ≡ false) same still)))
    (λ t is. let tail = cond-false (eqb x.number n) 0 (sum_to n qs) t in omega (arith, tail, open_cost n qs (q, is, still)))
    held

short_pause : (o : Option Inquiry) → pause o ≤ 1
short_pause None = omega arith
short_pause (Some q) = omega arith

-- at its lodging an inquiry waits for those that are unfinished
lodged_wait : (h : History) (b : Station) (c : ℕ) (d : List ℕ) (slip : Slip) (o : Option Refusal) (unfinished : List Slip) → Run h b → Ok slip ≡ lodge_answer b o
    → ListsUnfinished h unfinished → wait_of slip.number (lodge_after b c d o).places ≤ 71 + 70 * length unfinished
lodged_wait h b c d slip (Some r) unfinished run a names = absurd (let z : ◌≡◌ {A = ℕ} 0 1 = cc in omega arith)
lodged_wait h b c d slip None unfinished run a names =
    let same : slip ≡ slip_of b.mark b.next = cc in
    let invariant = good h b run in
    let low = first_number h in
    let all = b.places ++ (new_inquiry b.next c d ∷ []) in
    let none = not_held b.next b.places (λ i. omega (arith, rising_below low (numbers b.places) b.next b.next invariant.rising i)) in
    let few = no_more b.mark low (open_numbers b.places) b.next unfinished (rising_open low b.places b.next invariant.rising)
    (λ m i. let it = open_held low b.places b.next m invariant.rising i in
    names (slip_of b.mark m) (tells h b (slip_of b.mark m) (Err NotEnded) run
    (told_own b (slip_of b.mark m) refl ∙ ap outcome_of it.1 ∙ told_unfinished it.0.copies it.0.stage it.2))) in
    let bound : wait_of b.next all ≤ 71 + 70 * length unfinished =
    omega (arith, sum_new b.next b.places c d none, total_bounded b.places invariant.bounded, few, short_pause (first under_way all)) in
    subst (λ x. wait_of x.number all ≤ 71 + 70 * length unfinished) (sym same) bound

ends : (others latest : ℕ) → 71 + 70 * others ≤ latest → (earlier : History) (c : ℕ) (d : List ℕ) (slip : Slip) (later : List Event) (unfinished : List Slip) (s : Station)
    → Run ((earlier ▸ lodges c d (Ok slip)) then later) s → ListsUnfinished earlier unfinished → length unfinished ≤ others → latest ≤ pulses_in later
    → Ended ((earlier ▸ lodges c d (Ok slip)) then later) slip
unfolding Falls
ends others latest enough earlier c d slip later unfinished s run names few long =
    let start = earlier ▸ lodges c d (Ok slip) in
    let whole = start then later in
    let given : Given slip start = (earlier, c, d, inl (refl, refl)) in
    let walked = follow later start s slip.number run (λ b was. ((slips start b was).given slip given).1) in
    let b = walked.1.0 in
    let lodged = walked.1.2 in
    let bound = subst (λ t. wait_of slip.number t.places ≤ 71 + 70 * length unfinished) (sym lodged.1)
    (lodged_wait earlier b c d slip (lodge_cause b c d) unfinished walked.1.1 lodged.0 names) in
    let known = (slips whole s run).given slip (given_then slip start later given) in
    ⊎_elim
    (λ i. let it = in_held slip.number s.places i in
    let q = it.0 in
    ⊎_elim
    (λ over. let out = told_ended q.copies q.stage over in
    inl (out.0, tells whole s slip (Ok out.0) run (told_own s slip known.0 ∙ ap outcome_of it.1 ∙ out.1)))
    (λ still. let fell = walked.2 (q, it.1, still) in
    absurd (omega (arith, fell.1, bound, open_cost slip.number s.places (q, it.1, still), long, few, enough)))
    (cases_Bool (has_ended q.stage)))
    (λ handed. inr handed)
    known.2

pub ends_in_time : (others latest : ℕ) → 71 + 70 * others ≤ latest → Always (EndsInTime others latest)
ends_in_time others latest enough whole (s, run) earlier c d slip later unfinished is names few long =
    subst (λ h. Ended h slip) (sym is) (ends others latest enough earlier c d slip later unfinished s (subst (λ h. Run h s) is run) names few long)
