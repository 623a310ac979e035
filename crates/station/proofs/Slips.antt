-- Which slips were given and handed their outcome, told by the places that are held.
use Rattle.std.proofs.Common.{◌≡◌, ℕ, ◌+◌, ◌<◌, ◌⊎◌, List, [], ◌∷◌, ◌++◌, Some, None, Ok, Err, Option, Result, sym, refl, ap, ◌∙◌, subst, inl, inr, ⊎_elim, arith}
use Rattle.std.proofs.lemmas.Bool.{cases_eq}
use Rattle.station.specs.declared.refusal.Refusal.{Refusal}
use Rattle.station.specs.Inquiries.{Outcome}
use Rattle.station.specs.Stations.{Slip, Station, new_inquiry, lodge_cause, lodge_after, lodge_answer, without, replies, collect_after}
use Rattle.station.specs.Histories.{Event, lodges, pulses, collects, History, made, ◌▸◌, Run, Step, Given, Handed}
use Rattle.station.specs.Promises.{In}
use Rattle.station.proofs.Numbers.{numbers, rising_below, numbers_pulse, numbers_join, in_without, without_in, gone_without, held_number}
use Rattle.station.proofs.Lookups.{in_left, in_right, in_parts}
use Rattle.station.proofs.Asking.{Had, had, collected}
use Rattle.station.proofs.Invariants.{Good, good, first_number}

abbrev pub slip_of : ℕ → ℕ → Slip
slip_of m n = record { mark = m; number = n }

-- no slip has two halves that differ
pub same_slip : (a b : Slip) → a.mark ≡ b.mark → a.number ≡ b.number → a ≡ b
same_slip a b m n = λ i. record { mark = m i; number = n i }

pub record Slips (h : History) (s : Station) : Type 0 where
  pub given : (slip : Slip) → Given slip h
      → (slip.mark ≡ s.mark) × (slip.number < s.next) × (In slip.number (numbers s.places) ⊎ ((o : Outcome) × Handed slip o h))
  pub placed : (n : ℕ) → In n (numbers s.places) → Given (slip_of s.mark n) h
  pub handed : (slip : Slip) (o : Outcome) → Handed slip o h → (slip.mark ≡ s.mark) × (slip.number < s.next) × (In slip.number (numbers s.places) → ⊥)

pub given_on : (slip : Slip) (h : History) (e : Event) → Given slip h → Given slip (h ▸ e)
given_on slip h e (earlier, c, d, at) = (earlier, c, d, inr at)

pub handed_on : (slip : Slip) (o : Outcome) (h : History) (e : Event) → Handed slip o h → Handed slip o (h ▸ e)
handed_on slip o h e (earlier, memory, at) = (earlier, memory, inr at)

-- a call that gives no slip, hands none its outcome and keeps every number
unchanged : (h : History) (e : Event) (b s : Station) → s.mark ≡ b.mark → s.next ≡ b.next → numbers s.places ≡ numbers b.places
    → ((c : ℕ) (d : List ℕ) (slip : Slip) → lodges c d (Ok slip) ≡ e → ⊥) → ((slip : Slip) (memory : ℕ) (o : Outcome) → collects slip memory (Ok o) ≡ e → ⊥)
    → Slips h b → Slips (h ▸ e) s
unchanged h e b s mark next list gives hands before = record {
  given = λ slip was. by_given slip was;
  placed = λ n i. subst (λ m. Given (slip_of m n) (h ▸ e)) (sym mark) (given_on _ h e (before.placed n (subst (In n) list i)));
  handed = λ slip o was. by_handed slip o was;
}
  where
    by_given : (slip : Slip) → Given slip (h ▸ e) → (slip.mark ≡ s.mark) × (slip.number < s.next) × (In slip.number (numbers s.places) ⊎ ((o : Outcome) × Handed slip o (h ▸ e)))
    by_given slip (earlier, c, d, inl (at, is)) = absurd (gives c d slip is)
    by_given slip (earlier, c, d, inr at) =
        let old = before.given slip (earlier, c, d, at) in
        (old.0 ∙ sym mark, omega (arith, old.1, next), ⊎_elim (λ i. inl (subst (In slip.number) (sym list) i)) (λ x. inr (x.0, handed_on slip x.0 h e x.1)) old.2)

    by_handed : (slip : Slip) (o : Outcome) → Handed slip o (h ▸ e) → (slip.mark ≡ s.mark) × (slip.number < s.next) × (In slip.number (numbers s.places) → ⊥)
    by_handed slip o (earlier, memory, inl (at, is)) = absurd (hands slip memory o is)
    by_handed slip o (earlier, memory, inr at) =
        let old = before.handed slip o (earlier, memory, at) in (old.0 ∙ sym mark, omega (arith, old.1, next), λ i. old.2 (subst (In slip.number) list i))

lodge_slips : (h : History) (b : Station) (c : ℕ) (d : List ℕ) (o : Option Refusal) → Slips h b → Slips (h ▸ lodges c d (lodge_answer b o)) (lodge_after b c d o)
lodge_slips h b c d (Some r) before =
    unchanged h (lodges c d (Err r)) b b refl refl refl (λ c d slip e. let z : ◌≡◌ {A = ℕ} 0 1 = cc in omega arith) (λ slip memory o e. let z : ◌≡◌ {A = ℕ} 0 1 = cc in omega arith) before
lodge_slips h b c d None before = record { given = by_given; placed = by_placed; handed = by_handed }
  where
    joined : numbers (b.places ++ (new_inquiry b.next c d ∷ [])) ≡ numbers b.places ++ (b.next ∷ [])
    joined = numbers_join b.places (new_inquiry b.next c d ∷ [])

    by_given : (slip : Slip) → Given slip (h ▸ lodges c d (Ok (slip_of b.mark b.next)))
        → (slip.mark ≡ b.mark) × (slip.number < b.next + 1) × (In slip.number (numbers (b.places ++ (new_inquiry b.next c d ∷ []))) ⊎ ((o : Outcome) × Handed slip o (h ▸ lodges c d (Ok (slip_of b.mark b.next)))))
    by_given slip (earlier, x, y, inl (at, is)) =
        let same : slip ≡ slip_of b.mark b.next = cc in (
          ap (λ z. z.mark) same,
          omega (arith, ap (λ z. z.number) same),
          inl (subst (In slip.number) (sym joined) (in_right slip.number (numbers b.places) (b.next ∷ []) (inl (ap (λ z. z.number) same)))),
        )
    by_given slip (earlier, x, y, inr at) =
        let old = before.given slip (earlier, x, y, at) in (
          old.0,
          omega (arith, old.1),
          ⊎_elim (λ i. inl (subst (In slip.number) (sym joined) (in_left slip.number (numbers b.places) (b.next ∷ []) i))) (λ z. inr (z.0, handed_on slip z.0 h _ z.1)) old.2,
        )

    by_placed : (n : ℕ) → In n (numbers (b.places ++ (new_inquiry b.next c d ∷ []))) → Given (slip_of b.mark n) (h ▸ lodges c d (Ok (slip_of b.mark b.next)))
    by_placed n i =
        ⊎_elim (λ j. given_on _ h _ (before.placed n j))
        (⊎_elim (λ e. (h, c, d, inl (refl, ap (λ m. lodges c d (Ok (slip_of b.mark m))) e))) (λ j. absurd j))
        (in_parts n (numbers b.places) (b.next ∷ []) (subst (In n) joined i))

    by_handed : (slip : Slip) (o : Outcome) → Handed slip o (h ▸ lodges c d (Ok (slip_of b.mark b.next)))
        → (slip.mark ≡ b.mark) × (slip.number < b.next + 1) × (In slip.number (numbers (b.places ++ (new_inquiry b.next c d ∷ []))) → ⊥)
    by_handed slip o (earlier, memory, inl (at, is)) = absurd (let z : ◌≡◌ {A = ℕ} 0 1 = cc in omega arith)
    by_handed slip o (earlier, memory, inr at) =
        let old = before.handed slip o (earlier, memory, at) in (
          old.0,
          omega (arith, old.1),
          λ i. ⊎_elim old.2 (⊎_elim (λ e. omega (arith, old.1, e)) (λ j. j)) (in_parts slip.number (numbers b.places) (b.next ∷ []) (subst (In slip.number) joined i)),
        )

collect_slips : (h : History) (b : Station) (low : ℕ) (slip : Slip) (memory : ℕ) (r : Result Outcome Refusal) → ((o : Outcome) → r ≡ Ok o → Had b slip o) → Good low b
    → Slips h b → Slips (h ▸ collects slip memory r) (collect_after b slip r)
collect_slips h b low slip memory (Err r) has good before =
    unchanged h (collects slip memory (Err r)) b b refl refl refl (λ c d slip e. let z : ◌≡◌ {A = ℕ} 0 1 = cc in omega arith) (λ slip memory o e. let z : ◌≡◌ {A = ℕ} 0 1 = cc in omega arith) before
collect_slips h b low slip memory (Ok o) has good before = record { given = by_given; placed = by_placed; handed = by_handed }
  where
    by_given : (x : Slip) → Given x (h ▸ collects slip memory (Ok o))
        → (x.mark ≡ b.mark) × (x.number < b.next) × (In x.number (numbers (without slip.number b.places)) ⊎ ((p : Outcome) × Handed x p (h ▸ collects slip memory (Ok o))))
    by_given x (earlier, c, d, inl (at, is)) = absurd (let z : ◌≡◌ {A = ℕ} 0 1 = cc in omega arith)
    by_given x (earlier, c, d, inr at) =
        let old = before.given x (earlier, c, d, at) in (
          old.0,
          old.1,
          ⊎_elim
              (λ i. ⊎_elim
              (λ e. let same = same_slip x slip (old.0 ∙ sym (has o refl).own) e in inr (o, (h, memory, inl (refl, ap (λ y. collects y memory (Ok o)) same))))
              (λ apart. inl (without_in slip.number x.number b.places apart i))
              (cases_eq x.number slip.number))
              (λ z. inr (z.0, handed_on x z.0 h _ z.1))
              old.2,
        )

    by_placed : (n : ℕ) → In n (numbers (without slip.number b.places)) → Given (slip_of b.mark n) (h ▸ collects slip memory (Ok o))
    by_placed n i = given_on _ h _ (before.placed n (in_without slip.number n b.places i))

    by_handed : (x : Slip) (p : Outcome) → Handed x p (h ▸ collects slip memory (Ok o))
        → (x.mark ≡ b.mark) × (x.number < b.next) × (In x.number (numbers (without slip.number b.places)) → ⊥)
    by_handed x p (earlier, m, inl (at, is)) =
        let same : x ≡ slip = cc in
        let it = has o refl in
        let number = ap (λ y. y.number) same in (
          ap (λ y. y.mark) same ∙ it.own,
          omega (arith, number, rising_below low (numbers b.places) b.next slip.number good.rising (held_number slip.number b.places it.inquiry it.held).1),
          λ i. gone_without slip.number low b.places b.next good.rising (subst (λ n. In n (numbers (without slip.number b.places))) number i),
        )
    by_handed x p (earlier, m, inr at) =
        let old = before.handed x p (earlier, m, at) in (old.0, old.1, λ i. old.2 (in_without slip.number x.number b.places i))

step_slips : (h : History) (b s : Station) (low : ℕ) (e : Event) → Step b e s → Good low b → Slips h b → Slips (h ▸ e) s
step_slips h b s low (lodges c d answer) (a, e) good before =
    subst (λ r. Slips (h ▸ lodges c d r) s) (sym a) (subst (Slips (h ▸ lodges c d (lodge_answer b (lodge_cause b c d)))) (sym e) (lodge_slips h b c d (lodge_cause b c d) before))
step_slips h b s low (pulses line line_after) p good before =
    unchanged h (pulses line line_after) b s p.mark p.next
    (ap numbers p.places ∙ numbers_pulse p.findings line.capacity (replies line.capacity p.findings line.outgoing) b.places)
    (λ c d slip e. let z : ◌≡◌ {A = ℕ} 0 1 = cc in omega arith) (λ slip memory o e. let z : ◌≡◌ {A = ℕ} 0 1 = cc in omega arith) before
step_slips h b s low (collects slip memory answer) (a, e) good before =
    subst (Slips (h ▸ collects slip memory answer)) (sym e) (collect_slips h b low slip memory answer (λ o is. had b slip o (collected b slip memory o (sym is ∙ a))) good before)

pub slips : (h : History) (s : Station) → Run h s → Slips h s
slips (made m n) s e = record {
  given = λ slip was. absurd was.3;
  placed = λ n i. absurd (subst (λ t. In n (numbers t.places)) e i);
  handed = λ slip o was. absurd was.2;
}
slips (h ▸ e) s (b, run, step) = step_slips h b s (first_number h) e step (good h b run) (slips h b run)
