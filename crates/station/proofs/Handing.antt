-- Each slip is handed its outcome once: what collecting tells, from call to call.
use Rattle.std.proofs.Common.{◌≡◌, ℕ, ◌⊎◌, List, [], ◌∷◌, ◌++◌, Some, None, Ok, Err, Option, Result, sym, refl, ap, ◌∙◌, subst, inl, inr, ⊎_elim, arith}
use Rattle.std.proofs.lemmas.Bool.{cases_eq, cases_Bool, cond-true, eq-eqb}
use Rattle.station.specs.declared.refusal.Refusal.{Refusal}
use Rattle.station.specs.declared.refusal.Refusal.TheVariants.{OtherMark, NumberNotHeld, NotEnded}
use Rattle.station.specs.Inquiries.{Inquiry, Outcome, has_ended}
use Rattle.station.specs.Stations.{Slip, Station, new_inquiry, lodge_cause, lodge_after, lodge_answer, held_under, outcome_of, replies, collect_after}
use Rattle.station.specs.Histories.{Event, lodges, pulses, collects, History, made, ◌▸◌, Run, Step, Given, Tells, Unfinished}
use Rattle.station.specs.Promises.{Always, In, AnswersOneWay, Gives, Hands, IsPulse, CollectsByTheRules}
use Rattle.station.proofs.Numbers.{numbers, rising_below, numbers_pulse, held_number, not_held, in_held}
use Rattle.station.proofs.Lookups.{held_before, held_behind, held_without, held_pulse}
use Rattle.station.proofs.Turns.{clash}
use Rattle.station.proofs.Asking.{told, tells, told_so, told_own, told_other, Had, had, collected, told_unfinished, told_ended, open_slip, lodge_mark, collect_mark}
use Rattle.station.proofs.Invariants.{good, first_number}
use Rattle.station.proofs.Slips.{slip_of, same_slip, slips}

answers_one_way : (h : History) (s : Station) → Run h s → AnswersOneWay h
answers_one_way h s run = record {
  some_answer = λ slip. (told s slip, tells h s slip (told s slip) run refl);
  no_other = λ slip a b says other. sym (told_so h s slip a run says) ∙ told_so h s slip b run other;
  strangers = λ slip stranger. ⊎_elim (own slip stranger) (λ other. inl (tells h s slip _ run (told_other s slip other))) (cases_eq slip.mark s.mark);
  handed_before = λ slip o was. let known = (slips h s run).handed slip o was in gone slip known.0 known.2;
}
  where
    gone : (slip : Slip) → slip.mark ≡ s.mark → (In slip.number (numbers s.places) → ⊥) → Tells h slip (Err NumberNotHeld)
    gone slip mark out = tells h s slip _ run (told_own s slip mark ∙ ap outcome_of (not_held slip.number s.places out))

    own : (slip : Slip) → (Given slip h → ⊥) → slip.mark ≡ s.mark → Tells h slip (Err OtherMark) ⊎ Tells h slip (Err NumberNotHeld)
    own slip stranger mark =
        inr (gone slip mark (λ i. stranger (subst (λ x. Given x h) (same_slip _ slip (sym mark) refl) ((slips h s run).placed slip.number i))))

module _ (h : History) (b s : Station) (run : Run h b) where
  -- the same inquiry is looked up after the call, under the same mark
  keeps_telling : (e : Event) → Step b e s → (slip : Slip) (q : Inquiry) → slip.mark ≡ b.mark → s.mark ≡ b.mark → held_under slip.number s.places ≡ Some q
      → (answer : Result Outcome Refusal) → outcome_of (Some q) ≡ answer → Tells (h ▸ e) slip answer
  keeps_telling e step slip q own mark held answer is =
      tells (h ▸ e) s slip answer (b, run, step) (told_own s slip (own ∙ sym mark) ∙ ap outcome_of held ∙ is)

  lodge_held : (c : ℕ) (d : List ℕ) (o : Option Refusal) (n : ℕ) (q : Inquiry) → held_under n b.places ≡ Some q → held_under n (lodge_after b c d o).places ≡ Some q
  lodge_held c d None n q e = held_before n b.places (new_inquiry b.next c d ∷ []) q e
  lodge_held c d (Some r) n q e = e

  collect_held : (slip : Slip) (r : Result Outcome Refusal) (n : ℕ) (q : Inquiry) → held_under n b.places ≡ Some q
      → (held_under n (collect_after b slip r).places ≡ Some q) ⊎ ((n ≡ slip.number) × ((o : Outcome) × (r ≡ Ok o)))
  collect_held slip (Err r) n q e = inl e
  collect_held slip (Ok o) n q e =
      ⊎_elim (λ same. inr (same, (o, refl))) (λ apart. inl (held_without n slip.number b.places (λ x. apart (sym x)) ∙ e)) (cases_eq n slip.number)

  new_held : (c : ℕ) (d : List ℕ) → held_under b.next (b.places ++ (new_inquiry b.next c d ∷ [])) ≡ Some (new_inquiry b.next c d)
  new_held c d =
      held_behind b.next b.places (new_inquiry b.next c d ∷ [])
      (not_held b.next b.places (λ i. omega (arith, rising_below (first_number h) (numbers b.places) b.next b.next (good h b run).rising i)))
      ∙ cond-true _ _ _ (eq-eqb b.next b.next refl)

  gives_new : (c : ℕ) (d : List ℕ) (o : Option Refusal) (answer : Result Slip Refusal) → answer ≡ lodge_answer b o → s ≡ lodge_after b c d o
      → Step b (lodges c d answer) s → Gives h (lodges c d answer)
  gives_new c d o (Err r) a e step = tt
  gives_new c d (Some r) (Ok slip) a e step = absurd (let z : ◌≡◌ {A = ℕ} 0 1 = cc in omega arith)
  gives_new c d None (Ok slip) a e step =
      let same : slip ≡ slip_of b.mark b.next = cc in
      let number = ap (λ x. x.number) same in (
        λ was. omega (arith, number, ((slips h b run).given slip was).1),
        keeps_telling (lodges c d (Ok slip)) step slip (new_inquiry b.next c d) (ap (λ x. x.mark) same) (ap (λ t. t.mark) e)
            (ap (λ n. held_under n s.places) number ∙ ap (λ t. held_under b.next t.places) e ∙ new_held c d) (Err NotEnded) refl,
      )

  gives : (e : Event) → Step b e s → Gives h e
  gives (lodges c d answer) (a, e) = gives_new c d (lodge_cause b c d) answer a e (a, e)
  gives (pulses line line_after) p = tt
  gives (collects slip memory answer) p = tt

  hands : (e : Event) → Step b e s → Hands h e
  hands (lodges c d answer) p = tt
  hands (pulses line line_after) p = tt
  hands (collects slip memory (Err r)) p = tt
  hands (collects slip memory (Ok o)) (a, e) =
      let says = collected b slip memory o a in
      let it = had b slip o says in (
        subst (λ x. Given x h) (same_slip (slip_of b.mark slip.number) slip (sym it.own) refl)
            ((slips h b run).placed slip.number (held_number slip.number b.places it.inquiry it.held).1),
        tells h b slip (Ok o) run says,
      )

  until_ended : (e : Event) → Step b e s → (slip : Slip) → Unfinished h slip → Unfinished (h ▸ e) slip ⊎ (IsPulse e × ((o : Outcome) × Tells (h ▸ e) slip (Ok o)))
  until_ended (lodges c d answer) (a, e) slip says =
      let it = open_slip b slip (told_so h b slip (Err NotEnded) run says) in
      inl (keeps_telling (lodges c d answer) (a, e) slip it.1.0 it.0 (ap (λ t. t.mark) e ∙ lodge_mark b c d (lodge_cause b c d))
      (ap (λ t. held_under slip.number t.places) e ∙ lodge_held c d (lodge_cause b c d) slip.number it.1.0 it.1.1) (Err NotEnded) (told_unfinished it.1.0.copies it.1.0.stage it.1.2))
  until_ended (pulses line line_after) p slip says =
      let it = open_slip b slip (told_so h b slip (Err NotEnded) run says) in
      let list = ap numbers p.places ∙ numbers_pulse p.findings line.capacity (replies line.capacity p.findings line.outgoing) b.places in
      let now = in_held slip.number s.places (subst (In slip.number) (sym list) (held_number slip.number b.places it.1.0 it.1.1).1) in
      let q = now.0 in
      ⊎_elim
      (λ over. let out = told_ended q.copies q.stage over in inr (tt, (out.0, keeps_telling (pulses line line_after) p slip q it.0 p.mark now.1 (Ok out.0) out.1)))
      (λ still. inl (keeps_telling (pulses line line_after) p slip q it.0 p.mark now.1 (Err NotEnded) (told_unfinished q.copies q.stage still)))
      (cases_Bool (has_ended q.stage))
  until_ended (collects other memory answer) (a, e) slip says =
      let it = open_slip b slip (told_so h b slip (Err NotEnded) run says) in
      ⊎_elim
      (λ held. inl (keeps_telling (collects other memory answer) (a, e) slip it.1.0 it.0 (ap (λ t. t.mark) e ∙ collect_mark b other answer)
      (ap (λ t. held_under slip.number t.places) e ∙ held) (Err NotEnded) (told_unfinished it.1.0.copies it.1.0.stage it.1.2)))
      (λ same. let had_it = had b other same.1.0 (collected b other memory same.1.0 (sym same.1.1 ∙ a)) in
      let one : Some it.1.0 ≡ Some had_it.inquiry = sym it.1.1 ∙ ap (λ n. held_under n b.places) same.0 ∙ had_it.held in
      let q_is : it.1.0 ≡ had_it.inquiry = cc in
      clash (sym it.1.2 ∙ ap (λ x. has_ended x.stage) q_is ∙ ap has_ended had_it.at))
      (collect_held other answer slip.number it.1.0 it.1.1)

  told_had : (slip : Slip) (o : Outcome) (it : Had b slip o) → told b slip ≡ Ok o → outcome_of (Some it.inquiry) ≡ Ok o
  told_had slip o it says = ap outcome_of (sym it.held) ∙ sym (told_own b slip it.own) ∙ says

  until_handed : (e : Event) → Step b e s → (slip : Slip) (o : Outcome) → Tells h slip (Ok o)
      → Tells (h ▸ e) slip (Ok o) ⊎ ((memory : ℕ) × (e ≡ collects slip memory (Ok o)))
  until_handed (lodges c d answer) (a, e) slip o says =
      let t = told_so h b slip (Ok o) run says in
      let it = had b slip o t in
      inl (keeps_telling (lodges c d answer) (a, e) slip it.inquiry it.own (ap (λ t. t.mark) e ∙ lodge_mark b c d (lodge_cause b c d))
      (ap (λ t. held_under slip.number t.places) e ∙ lodge_held c d (lodge_cause b c d) slip.number it.inquiry it.held) (Ok o) (told_had slip o it t))
  until_handed (pulses line line_after) p slip o says =
      let t = told_so h b slip (Ok o) run says in
      let it = had b slip o t in
      inl (keeps_telling (pulses line line_after) p slip it.inquiry it.own p.mark
      (ap (held_under slip.number) p.places
      ∙ held_pulse p.findings line.capacity (replies line.capacity p.findings line.outgoing) slip.number b.places it.inquiry it.held (ap has_ended it.at))
      (Ok o) (told_had slip o it t))
  until_handed (collects other memory answer) (a, e) slip o says =
      let t = told_so h b slip (Ok o) run says in
      let it = had b slip o t in
      ⊎_elim
      (λ held. inl (keeps_telling (collects other memory answer) (a, e) slip it.inquiry it.own (ap (λ t. t.mark) e ∙ collect_mark b other answer)
      (ap (λ t. held_under slip.number t.places) e ∙ held) (Ok o) (told_had slip o it t)))
      (λ same. let said = collected b other memory same.1.0 (sym same.1.1 ∙ a) in
      let had_it = had b other same.1.0 said in
      let slips_same = same_slip other slip (had_it.own ∙ sym it.own) (sym same.0) in
      let answers : answer ≡ Ok o = same.1.1 ∙ sym said ∙ ap (told b) slips_same ∙ t in
      inr (memory, (λ i. collects (slips_same i) memory (answers i))))
      (collect_held other answer slip.number it.inquiry it.held)

pub collects_by_the_rules : Always CollectsByTheRules
collects_by_the_rules (made m n) (s, run) = answers_one_way (made m n) s run
collects_by_the_rules (h ▸ e) (s, (b, run, step)) = (
  answers_one_way (h ▸ e) s (b, run, step),
  record { gives = gives h b s run e step; hands = hands h b s run e step; until_ended = until_ended h b s run e step; until_handed = until_handed h b s run e step },
)
