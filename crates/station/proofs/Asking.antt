-- What collecting a slip comes to on a station, and what a history tells of it.
use Rattle.std.proofs.Common.{◌≡◌, ℕ, true, false, cond, eqb, ltb, List, Some, None, Ok, Err, Option, Result, sym, refl, ap, ◌∙◌, arith}
use Rattle.std.proofs.lemmas.Bool.{cond_both, cond-true, cond-false, le-ltb, eqb-true, eq-eqb, ne_eqb}
use Rattle.station.specs.declared.refusal.Refusal.{Refusal}
use Rattle.station.specs.declared.refusal.Refusal.TheVariants.{OtherMark, NotEnded}
use Rattle.station.specs.Inquiries.{Outcome, Stage, waiting, due, acknowledging, answering, receiving, ended, Inquiry, has_ended}
use Rattle.station.specs.Stations.{Slip, Station, least_memory, held_under, outcome_at, outcome_of, collect_answer, collect_after, lodge_after}
use Rattle.station.specs.Histories.{History, Run, Tells}
use Rattle.station.proofs.Turns.{clash}
use Rattle.station.proofs.Determined.{determined}

-- what collecting answers where the memory suffices
abbrev pub told : Station → Slip → Result Outcome Refusal
told s slip = cond (eqb slip.mark s.mark) (outcome_of (held_under slip.number s.places)) (Err OtherMark)

pub tells : (h : History) (s : Station) (slip : Slip) (answer : Result Outcome Refusal) → Run h s → told s slip ≡ answer → Tells h slip answer
tells h s slip answer run is memory enough =
    (collect_after s slip answer, (s, run, (sym (cond-false _ _ _ (le-ltb memory least_memory enough) ∙ is), refl)))

pub told_so : (h : History) (s : Station) (slip : Slip) (answer : Result Outcome Refusal) → Run h s → Tells h slip answer → told s slip ≡ answer
told_so h s slip answer run says =
    let happens = says least_memory (omega arith) in
    let before = happens.1.0 in
    ap (λ x. told x slip) (determined h s before run happens.1.1) ∙ sym happens.1.2.0

-- a slip of this mark
pub told_own : (s : Station) (slip : Slip) → slip.mark ≡ s.mark → told s slip ≡ outcome_of (held_under slip.number s.places)
told_own s slip e = cond-true _ _ _ (eq-eqb slip.mark s.mark e)

pub told_other : (s : Station) (slip : Slip) → (slip.mark ≡ s.mark → ⊥) → told s slip ≡ Err OtherMark
told_other s slip e = cond-false _ _ _ (ne_eqb slip.mark s.mark e)

-- what an answered collecting says of the station
pub record Had (s : Station) (slip : Slip) (o : Outcome) : Type 0 where
  pub inquiry : Inquiry
  pub own : slip.mark ≡ s.mark
  pub held : held_under slip.number s.places ≡ Some inquiry
  pub at : inquiry.stage ≡ ended o.ending
  pub copies : inquiry.copies ≡ o.copies

had_at : (n : ℕ) (now : Stage) (o : Outcome) → outcome_at n now ≡ Ok o → (now ≡ ended o.ending) × (n ≡ o.copies)
had_at n waiting o e = absurd (let z : ◌≡◌ {A = ℕ} 0 1 = cc in omega arith)
had_at n (due k) o e = absurd (let z : ◌≡◌ {A = ℕ} 0 1 = cc in omega arith)
had_at n (acknowledging k left) o e = absurd (let z : ◌≡◌ {A = ℕ} 0 1 = cc in omega arith)
had_at n (answering left) o e = absurd (let z : ◌≡◌ {A = ℕ} 0 1 = cc in omega arith)
had_at n (receiving left) o e = absurd (let z : ◌≡◌ {A = ℕ} 0 1 = cc in omega arith)
had_at n (ended end) o e =
    let same : record { copies = n; ending = end } ≡ o = cc in (ap (λ x. ended x.ending) same, ap (λ x. x.copies) same)

had_of : (found : Option Inquiry) (o : Outcome) → outcome_of found ≡ Ok o → (q : Inquiry) × (found ≡ Some q) × (q.stage ≡ ended o.ending) × (q.copies ≡ o.copies)
had_of None o e = absurd (let z : ◌≡◌ {A = ℕ} 0 1 = cc in omega arith)
had_of (Some q) o e = let at = had_at q.copies q.stage o e in (q, refl, at.0, at.1)

pub had : (s : Station) (slip : Slip) (o : Outcome) → told s slip ≡ Ok o → Had s slip o
had s slip o =
    cond_both (eqb slip.mark s.mark) _ _ (λ r. r ≡ Ok o → Had s slip o)
    (λ own e. let q = had_of (held_under slip.number s.places) o e in
    record { inquiry = q.0; own = eqb-true slip.mark s.mark own; held = q.1; at = q.2; copies = q.3 })
    (λ other e. absurd (let z : ◌≡◌ {A = ℕ} 0 1 = cc in omega arith))

pub collected : (s : Station) (slip : Slip) (memory : ℕ) (o : Outcome) → Ok o ≡ collect_answer s slip memory → told s slip ≡ Ok o
collected s slip memory o =
    cond_both (ltb memory least_memory) _ _ (λ r. Ok o ≡ r → told s slip ≡ Ok o)
    (λ short e. absurd (let z : ◌≡◌ {A = ℕ} 0 1 = cc in omega arith)) (λ enough e. sym e)

-- an inquiry that is held and has not ended, or has
pub told_unfinished : (n : ℕ) (now : Stage) → has_ended now ≡ false → outcome_at n now ≡ Err NotEnded
told_unfinished n waiting e = refl
told_unfinished n (due k) e = refl
told_unfinished n (acknowledging k left) e = refl
told_unfinished n (answering left) e = refl
told_unfinished n (receiving left) e = refl
told_unfinished n (ended end) e = clash (sym e)

pub told_ended : (n : ℕ) (now : Stage) → has_ended now ≡ true → (o : Outcome) × (outcome_at n now ≡ Ok o)
told_ended n waiting e = clash e
told_ended n (due k) e = clash e
told_ended n (acknowledging k left) e = clash e
told_ended n (answering left) e = clash e
told_ended n (receiving left) e = clash e
told_ended n (ended end) e = (record { copies = n; ending = end }, refl)

not_ended_at : (n : ℕ) (now : Stage) → outcome_at n now ≡ Err NotEnded → has_ended now ≡ false
not_ended_at n waiting e = refl
not_ended_at n (due k) e = refl
not_ended_at n (acknowledging k left) e = refl
not_ended_at n (answering left) e = refl
not_ended_at n (receiving left) e = refl
not_ended_at n (ended end) e = absurd (let z : ◌≡◌ {A = ℕ} 0 1 = cc in omega arith)

not_ended_of : (found : Option Inquiry) → outcome_of found ≡ Err NotEnded → (q : Inquiry) × (found ≡ Some q) × (has_ended q.stage ≡ false)
not_ended_of None e = absurd (let z : ◌≡◌ {A = ℕ} 0 1 = cc in omega arith)
not_ended_of (Some q) e = (q, refl, not_ended_at q.copies q.stage e)

-- a slip whose inquiry has not ended
pub open_slip : (s : Station) (slip : Slip) → told s slip ≡ Err NotEnded
    → (slip.mark ≡ s.mark) × ((q : Inquiry) × (held_under slip.number s.places ≡ Some q) × (has_ended q.stage ≡ false))
open_slip s slip =
    cond_both (eqb slip.mark s.mark) _ _
    (λ r. r ≡ Err NotEnded → (slip.mark ≡ s.mark) × ((q : Inquiry) × (held_under slip.number s.places ≡ Some q) × (has_ended q.stage ≡ false)))
    (λ own e. (eqb-true slip.mark s.mark own, not_ended_of (held_under slip.number s.places) e))
    (λ other e. absurd (let z : ◌≡◌ {A = ℕ} 0 1 = cc in omega arith))

-- no call changes the mark
pub lodge_mark : (b : Station) (c : ℕ) (d : List ℕ) (o : Option Refusal) → (lodge_after b c d o).mark ≡ b.mark
lodge_mark b c d None = refl
lodge_mark b c d (Some r) = refl

pub collect_mark : (b : Station) (slip : Slip) (r : Result Outcome Refusal) → (collect_after b slip r).mark ≡ b.mark
collect_mark b slip (Ok o) = refl
collect_mark b slip (Err r) = refl
