-- How the attempts that an inquiry has made stand to its copies and to the pulses without space.
use Rattle.std.proofs.Common.{◌≡◌, ℕ, ◌+◌, ◌≤◌, Bool, true, false, eqb, ltb, leb, ◌⊎◌, List, [], ◌∷◌, sym, subst, inl, inr, arith}
use Rattle.std.proofs.lemmas.Bool.{cond_both, ltb-true, ltb-false, eqb-true, eqb-false}
use Rattle.frames.specs.Finding.{Found}
use Rattle.station.specs.Inquiries.{answered, failed, Stage, waiting, due, acknowledging, answering, receiving, ended, Inquiry, waits_still, is_due}
use Rattle.station.specs.Exchange.{after_attempt, hear, hear_all, tick, opened, counted}
use Rattle.station.specs.Attempts.{Earned}
use Rattle.station.proofs.Turns.{clash}
use Rattle.station.proofs.Hearing.{Hears, same, acknowledged, refused, cut_off, goes_by_radio, gets_answer, gets_radio, hear_cases}

-- how the attempts made stand to copies put and pulses without space
abbrev pub Balance : ℕ → ℕ → Stage → Type 0
Balance copies lacking waiting = copies + lacking ≡ 0
Balance copies lacking (due k) = (copies + lacking + 1 ≡ k) × (k ≤ 4)
Balance copies lacking (acknowledging k left) = (copies + lacking ≡ k) × (k ≤ 4)
Balance copies lacking (answering left) = copies ≡ 0 → ⊥
Balance copies lacking (receiving left) = copies ≡ 0 → ⊥
Balance copies lacking (ended (answered d)) = Unit {0}
Balance copies lacking (ended (failed f)) = Earned 4 copies lacking f

balance_after : (copies lacking k : ℕ) → copies + lacking ≡ k → k ≤ 4 → Balance copies lacking (after_attempt copies k)
balance_after copies lacking k e few =
    cond_both (ltb k 4) _ _ (Balance copies lacking) (λ t. (omega (arith, e), omega (arith, ltb-true k 4 t)))
    (λ t. let last : copies + lacking ≡ 4 = omega (arith, e, few, ltb-false k 4 t) in
    cond_both (eqb copies 0) _ _ (Earned 4 copies lacking)
    (λ u. (eqb-true copies 0 u, omega (arith, last, eqb-true copies 0 u))) (λ u. (eqb-false copies 0 u, last)))

module _ (q : Inquiry) (lacking : ℕ) where
  heard_balance : {v : Found} {now later : Stage} → Hears q v now later → Balance q.copies lacking now → Balance q.copies lacking later
  heard_balance (same e) b = subst (Balance q.copies lacking) (sym e) b
  heard_balance (acknowledged k left e some f) b = subst (Balance q.copies lacking) (sym f) some
  heard_balance (refused k left e some f g) b =
      let here = subst (Balance q.copies lacking) e b in subst (Balance q.copies lacking) (sym g) (balance_after q.copies lacking k here.0 here.1)
  heard_balance (cut_off k left e some f) b = subst (Balance q.copies lacking) (sym f) some
  heard_balance (goes_by_radio left e is f) b = subst (Balance q.copies lacking) (sym f) (subst (Balance q.copies lacking) e b)
  heard_balance (gets_answer left c d e is answers lawful apart f) b = subst (Balance q.copies lacking) (sym f) tt
  heard_balance (gets_radio left c d e is answers lawful from f) b = subst (Balance q.copies lacking) (sym f) tt

  pub hear_all_balance : (fs : List (ℕ × Found)) (now : Stage) → Balance q.copies lacking now → Balance q.copies lacking (hear_all q fs now)
  hear_all_balance [] now b = b
  hear_all_balance ((place, v) ∷ fs) now b = hear_all_balance fs (hear q v now) (heard_balance (hear_cases q v now) b)

  pub tick_balance : (now : Stage) → Balance q.copies lacking now → Balance q.copies lacking (tick q.copies now)
  tick_balance waiting b = b
  tick_balance (due k) b = b
  tick_balance (acknowledging k left) b = cond_both (leb left 1) _ _ (Balance q.copies lacking) (λ e. balance_after q.copies lacking k b.0 b.1) (λ e. b)
  tick_balance (answering left) b = cond_both (leb left 1) _ _ (Balance q.copies lacking) (λ e. b) (λ e. b)
  tick_balance (receiving left) b = cond_both (leb left 1) _ _ (Balance q.copies lacking) (λ e. b) (λ e. b)
  tick_balance (ended e) b = b

-- an attempt that is due is put, or lacks space
pub attempt_balance : (space : Bool) (copies lacking : ℕ) (now : Stage) → is_due now ≡ true → Balance copies lacking now
    → ((space ≡ true) × Balance (counted space now copies) lacking (opened now)) ⊎ ((space ≡ false) × Balance (counted space now copies) (lacking + 1) (opened now))
attempt_balance space copies lacking waiting e b = clash e
attempt_balance space copies lacking (due k) e b =
    cond_both space _ _ (λ n. ((space ≡ true) × ((n + lacking ≡ k) × (k ≤ 4))) ⊎ ((space ≡ false) × ((n + (lacking + 1) ≡ k) × (k ≤ 4))))
    (λ t. inl (t, (omega (arith, b.0), b.1))) (λ t. inr (t, (omega (arith, b.0), b.1)))
attempt_balance space copies lacking (acknowledging k left) e b = clash e
attempt_balance space copies lacking (answering left) e b = clash e
attempt_balance space copies lacking (receiving left) e b = clash e
attempt_balance space copies lacking (ended x) e b = clash e

pub begun_balance : (copies lacking : ℕ) (now : Stage) → waits_still now ≡ true → Balance copies lacking now → Balance copies lacking (due 1)
begun_balance copies lacking waiting e b = (omega (arith, b), omega arith)
begun_balance copies lacking (due k) e b = clash e
begun_balance copies lacking (acknowledging k left) e b = clash e
begun_balance copies lacking (answering left) e b = clash e
begun_balance copies lacking (receiving left) e b = clash e
begun_balance copies lacking (ended x) e b = clash e
