-- No inquiry is given up untried: the attempts of each, put or without space.
use Rattle.std.proofs.Common.{◌≡◌, ℕ, ◌+◌, Bool, true, List, [], ◌∷◌, length, Some, None, Ok, Err, Option, Result, sym, refl, ap, ◌∙◌, subst, inl, inr, ⊎_elim, arith}
use Rattle.std.specs.List.{AllByRecursion}
use Rattle.std.proofs.lemmas.Bool.{cond_both, cond-false, leb-false}
use Rattle.lines.specs.Meaning.{Meaning}
use Rattle.station.specs.declared.refusal.Refusal.{Refusal}
use Rattle.station.specs.declared.fault.Fault.{Fault}
use Rattle.station.specs.Inquiries.{failed, Outcome, Stage, ended, Inquiry, written, own_frame, under_way, waits_still, is_due}
use Rattle.station.specs.Exchange.{heard, ticked, begun}
use Rattle.station.specs.Stations.{Slip, Station, first, hears, ends_periods, begins_unless, has_space, put, due_frame, replies, up_to_step_three, new_inquiry, lodge_cause, lodge_after, lodge_answer, Pulsed, collect_after}
use Rattle.station.specs.Histories.{Event, lodges, pulses, collects, History, made, ◌▸◌, Run, Step}
use Rattle.station.specs.Promises.{Always}
use Rattle.station.specs.Attempts.{LackedSpace, Earned, WasTried, FaultsAreEarned}
use Rattle.station.proofs.Turns.{all_map, all_join, tries}
use Rattle.station.proofs.Numbers.{all_without, all_in, held_number}
use Rattle.station.proofs.Asking.{Had, had, collected}
use Rattle.station.proofs.Slips.{slip_of, same_slip}
use Rattle.station.proofs.PulseEvidence.{change_all}
use Rattle.station.proofs.Balances.{Balance, hear_all_balance, tick_balance, attempt_balance, begun_balance}

-- the attempts of an inquiry so far
record Tried (h : History) (slip : Slip) (q : Inquiry) : Type 0 where
  lacking : ℕ
  lacked : LackedSpace h q.cmd q.sent slip lacking
  balance : Balance q.copies lacking q.stage

lacked_on : (h : History) (e : Event) (c : ℕ) (d : List ℕ) (slip : Slip) (n : ℕ) → LackedSpace h c d slip n → LackedSpace (h ▸ e) c d slip n
lacked_on h (lodges x y answer) c d slip n l = inr l
lacked_on h (pulses line line_after) c d slip n l = inl l
lacked_on h (collects other memory answer) c d slip n l = l

tried_on : (h : History) (e : Event) (slip : Slip) (q : Inquiry) → Tried h slip q → Tried (h ▸ e) slip q
tried_on h e slip q t = record { lacking = t.lacking; lacked = lacked_on h e q.cmd q.sent slip t.lacking t.lacked; balance = t.balance }

first_passes : (passes : Stage → Bool) (qs : List Inquiry) (q : Inquiry) → first passes qs ≡ Some q → passes q.stage ≡ true
first_passes passes [] q e = absurd (let z : ◌≡◌ {A = ℕ} 0 1 = cc in omega arith)
first_passes passes (x ∷ qs) q e =
    cond_both (passes x.stage) _ _ (λ o. o ≡ Some q → passes q.stage ≡ true)
    (λ t is. let same : x ≡ q = cc in subst (λ y. passes y.stage ≡ true) same t) (λ t is. first_passes passes qs q is) e

-- the attempts of each inquiry held
abbrev AllTried : History → ℕ → List Inquiry → Type 0
AllTried h mark qs = AllByRecursion (λ q. Tried h (slip_of mark q.number) q) qs

module _ (h : History) (b s : Station) (line line_after : Meaning) (p : Pulsed b line s line_after) where
  Before : Inquiry → Type 0
  Before q = Tried h (slip_of b.mark q.number) q

  After : Inquiry → Type 0
  After q = Tried (h ▸ pulses line line_after) (slip_of b.mark q.number) q

  begins_tried : (o : Option Inquiry) (qs : List Inquiry) → AllByRecursion Before qs → AllByRecursion Before (begins_unless o qs)
  unfolding Before
  begins_tried (Some q) qs a = a
  begins_tried None qs a =
      change_all waits_still begun Before Before qs (λ q x. x)
      (λ q is x. record { lacking = x.lacking; lacked = x.lacked; balance = begun_balance q.copies x.lacking q.stage (first_passes waits_still qs q is) x.balance }) a

  three_tried : AllByRecursion Before b.places → AllByRecursion Before (up_to_step_three p.findings b.places)
  unfolding Before
  three_tried a =
      let fs = p.findings in
      let one = change_all under_way (heard fs) Before Before b.places (λ q x. x)
      (λ q is x. record { lacking = x.lacking; lacked = x.lacked; balance = hear_all_balance q x.lacking fs q.stage x.balance }) a in
      let two = change_all under_way ticked Before Before (hears fs b.places) (λ q x. x)
      (λ q is x. record { lacking = x.lacking; lacked = x.lacked; balance = tick_balance q x.lacking q.stage x.balance }) one in
      begins_tried (first under_way (ends_periods (hears fs b.places))) (ends_periods (hears fs b.places)) two

  -- the attempt of this pulse
  tries_tried : (q : Inquiry) → first is_due (up_to_step_three p.findings b.places) ≡ Some q → Before q
      → After (tries line.capacity (replies line.capacity p.findings line.outgoing) q)
  unfolding Before After
  tries_tried q is x =
      let out = replies line.capacity p.findings line.outgoing in
      let space = has_space line.capacity out (written (own_frame q)) in
      let due_now = first_passes is_due (up_to_step_three p.findings b.places) q is in
      ⊎_elim
      (λ y. record { lacking = x.lacking; lacked = inl x.lacked; balance = y.1 })
      (λ n. let none = p.outgoing ∙ ap (λ o. put line.capacity out (due_frame o)) is ∙ cond-false _ _ _ n.0 in
      let short = leb-false (length out + length (written (own_frame q))) line.capacity n.0 in
      record { lacking = x.lacking + 1; lacked = inr (x.lacking, refl, omega (arith, ap length none, short, p.capacity), x.lacked); balance = n.1 })
      (attempt_balance space q.copies x.lacking q.stage due_now x.balance)

  pulse_tried : AllTried h b.mark b.places → AllTried (h ▸ pulses line line_after) s.mark s.places
  unfolding Before After
  pulse_tried a =
      let out = replies line.capacity p.findings line.outgoing in
      let final = change_all is_due (tries line.capacity out) Before After (up_to_step_three p.findings b.places)
      (λ q x. tried_on h (pulses line line_after) (slip_of b.mark q.number) q x) tries_tried (three_tried a) in
      subst (λ m. AllTried (h ▸ pulses line line_after) m s.places) (sym p.mark) (subst (AllTried (h ▸ pulses line line_after) b.mark) (sym p.places) final)

lodge_tried : (h : History) (b : Station) (c : ℕ) (d : List ℕ) (o : Option Refusal) → AllTried h b.mark b.places
    → AllTried (h ▸ lodges c d (lodge_answer b o)) (lodge_after b c d o).mark (lodge_after b c d o).places
lodge_tried h b c d (Some r) a = all_map (λ q. tried_on h (lodges c d (Err r)) (slip_of b.mark q.number) q) b.places a
lodge_tried h b c d None a =
    let e = lodges c d (Ok (slip_of b.mark b.next)) in
    all_join (λ q. Tried (h ▸ e) (slip_of b.mark q.number) q) b.places (new_inquiry b.next c d ∷ [])
    (all_map (λ q. tried_on h e (slip_of b.mark q.number) q) b.places a)
    (record { lacking = 0; lacked = inl (refl, refl); balance = omega arith }, tt)

collect_tried : (h : History) (b : Station) (slip : Slip) (memory : ℕ) (r : Result Outcome Refusal) → AllTried h b.mark b.places
    → AllTried (h ▸ collects slip memory r) (collect_after b slip r).mark (collect_after b slip r).places
collect_tried h b slip memory (Err r) a = all_map (λ q. tried_on h (collects slip memory (Err r)) (slip_of b.mark q.number) q) b.places a
collect_tried h b slip memory (Ok o) a =
    let e = collects slip memory (Ok o) in
    all_without (λ q. Tried (h ▸ e) (slip_of b.mark q.number) q) slip.number b.places (all_map (λ q. tried_on h e (slip_of b.mark q.number) q) b.places a)

tried : (h : History) (s : Station) → Run h s → AllTried h s.mark s.places
tried (made m n) s e = subst (λ t. AllTried (made m n) t.mark t.places) (sym e) tt
tried (h ▸ lodges c d answer) s (b, run, (a, e)) =
    subst (λ t. AllTried (h ▸ lodges c d answer) t.mark t.places) (sym e)
    (subst (λ r. AllTried (h ▸ lodges c d r) (lodge_after b c d (lodge_cause b c d)).mark (lodge_after b c d (lodge_cause b c d)).places) (sym a)
    (lodge_tried h b c d (lodge_cause b c d) (tried h b run)))
tried (h ▸ pulses line line_after) s (b, run, p) = pulse_tried h b s line line_after p (tried h b run)
tried (h ▸ collects slip memory answer) s (b, run, (a, e)) =
    subst (λ t. AllTried (h ▸ collects slip memory answer) t.mark t.places) (sym e) (collect_tried h b slip memory answer (tried h b run))

was_tried_on : (h : History) (e : Event) (slip : Slip) (copies : ℕ) (f : Fault) → WasTried 4 h slip copies f → WasTried 4 (h ▸ e) slip copies f
was_tried_on h e slip copies f t = record { cmd = t.cmd; sent = t.sent; lacking = t.lacking; lacked = lacked_on h e t.cmd t.sent slip t.lacking t.lacked; earned = t.earned }

handed_tried : (h : History) (b : Station) (slip : Slip) (o : Outcome) (f : Fault) → Run h b → Had b slip o → o.ending ≡ failed f → WasTried 4 h slip o.copies f
handed_tried h b slip o f run it is =
    let q = it.inquiry in
    let number = held_number slip.number b.places q it.held in
    let t = all_in (λ x. Tried h (slip_of b.mark x.number) x) b.places q (tried h b run) number.2 in
    let own = same_slip (slip_of b.mark q.number) slip (sym it.own) number.0 in
    let balance = subst (Balance q.copies t.lacking) (it.at ∙ ap ended is) t.balance in
    record {
      cmd = q.cmd;
      sent = q.sent;
      lacking = t.lacking;
      lacked = subst (λ x. LackedSpace h q.cmd q.sent x t.lacking) own t.lacked;
      earned = subst (λ n. Earned 4 n t.lacking f) it.copies balance;
    }

pub faults_are_earned : Always (FaultsAreEarned 4)
faults_are_earned (made m n) (s, run) slip o f was is = absurd was.2
faults_are_earned (h ▸ e) (s, (b, run, step)) slip o f (earlier, memory, inr at) is =
    was_tried_on h e slip o.copies f (faults_are_earned h (b, run) slip o f (earlier, memory, at) is)
faults_are_earned (h ▸ e) (s, (b, run, step)) slip o f (earlier, memory, inl (at, same_event)) is =
    let collecting = subst (λ x. Step b x s) (sym same_event) step in
    was_tried_on h e slip o.copies f (handed_tried h b slip o f run (had b slip o (collected b slip memory o collecting.0)) is)
