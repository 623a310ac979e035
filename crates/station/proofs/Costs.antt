-- How many pulses an inquiry has left at most, and that each pulse takes one of them.
use Rattle.std.proofs.Common.{◌≡◌, ℕ, ◌+◌, ◌-◌, ◌*◌, ◌≤◌, true, leb, List, [], ◌∷◌, sym, refl, ap, subst, arith}
use Rattle.std.proofs.lemmas.Bool.{cond_both, leb-false}
use Rattle.frames.specs.Finding.{Found}
use Rattle.station.specs.Inquiries.{Stage, waiting, due, acknowledging, answering, receiving, ended, Inquiry, under_way, has_ended}
use Rattle.station.specs.Exchange.{hear, hear_all, tick, opened}
use Rattle.station.proofs.Hearing.{FailsAt, again, gives_up, after_cases, Hears, same, acknowledged, refused, cut_off, goes_by_radio, gets_answer, gets_radio, hear_cases}
use Rattle.station.proofs.Turns.{clash, moved}

-- the pulses that an inquiry has left once it is under way; a waiting one has as many left when it begins
abbrev pub cost : Stage → ℕ
cost waiting = 70
cost (due k) = 56 + 5 * (4 - k)
cost (acknowledging k left) = 51 + (left - 1) + 5 * (4 - k)
cost (answering left) = 31 + (left - 1)
cost (receiving left) = 1 + (left - 1)
cost (ended e) = 0

fails_cost : (k : ℕ) {now : Stage} → FailsAt k now → (cost now ≤ 51 + 5 * (4 - k)) × (cost (opened now) + 1 ≤ 51 + 5 * (4 - k))
fails_cost k (again lt e) = (subst (λ s. cost s ≤ 51 + 5 * (4 - k)) (sym e) (omega arith), subst (λ s. cost (opened s) + 1 ≤ 51 + 5 * (4 - k)) (sym e) (omega arith))
fails_cost k (gives_up f e) = (subst (λ s. cost s ≤ 51 + 5 * (4 - k)) (sym e) (omega arith), subst (λ s. cost (opened s) + 1 ≤ 51 + 5 * (4 - k)) (sym e) (omega arith))

heard_cost : {q : Inquiry} {v : Found} {now later : Stage} → Hears q v now later → cost later ≤ cost now
heard_cost {now = now} {later = later} (same e) = omega (arith, ap cost e)
heard_cost (acknowledged k left e some f) = omega (arith, ap cost e, ap cost f)
heard_cost (refused k left e some f g) = omega (arith, ap cost e, (fails_cost k f).0)
heard_cost (cut_off k left e some f) = omega (arith, ap cost e, ap cost f)
heard_cost (goes_by_radio left e is f) = omega (arith, ap cost e, ap cost f)
heard_cost (gets_answer left c d e is answers lawful apart f) = omega (arith, ap cost e, ap cost f)
heard_cost (gets_radio left c d e is answers lawful from f) = omega (arith, ap cost e, ap cost f)

hear_all_cost : (q : Inquiry) (fs : List (ℕ × Found)) (now : Stage) → cost (hear_all q fs now) ≤ cost now
hear_all_cost q [] now = omega arith
hear_all_cost q ((place, v) ∷ fs) now = omega (arith, hear_all_cost q fs (hear q v now), heard_cost (hear_cases q v now))

tick_cost : (n : ℕ) (now : Stage) → under_way now ≡ true → cost (opened (tick n now)) + 1 ≤ cost now
tick_cost n waiting e = clash e
tick_cost n (due k) e = omega arith
tick_cost n (acknowledging k left) e =
    cond_both (leb left 1) _ _ (λ s. cost (opened s) + 1 ≤ 51 + (left - 1) + 5 * (4 - k))
    (λ f. omega (arith, (fails_cost k (after_cases n k)).1)) (λ f. omega (arith, leb-false left 1 f))
tick_cost n (answering left) e = cond_both (leb left 1) _ _ (λ s. cost (opened s) + 1 ≤ 31 + (left - 1)) (λ f. omega arith) (λ f. omega (arith, leb-false left 1 f))
tick_cost n (receiving left) e = cond_both (leb left 1) _ _ (λ s. cost (opened s) + 1 ≤ 1 + (left - 1)) (λ f. omega arith) (λ f. omega (arith, leb-false left 1 f))
tick_cost n (ended end) e = clash e

pub ended_cost : (now : Stage) → has_ended now ≡ true → cost now ≡ 0
ended_cost waiting e = clash e
ended_cost (due k) e = clash e
ended_cost (acknowledging k left) e = clash e
ended_cost (answering left) e = clash e
ended_cost (receiving left) e = clash e
ended_cost (ended end) e = refl

-- what is under way after the periods' end was so before
tick_from : (n : ℕ) (now : Stage) → under_way (tick n now) ≡ true → under_way now ≡ true
tick_from n waiting e = e
tick_from n (due k) e = e
tick_from n (acknowledging k left) e = refl
tick_from n (answering left) e = refl
tick_from n (receiving left) e = refl
tick_from n (ended end) e = e

-- under way, and a pulse later
pub moved_cost : (fs : List (ℕ × Found)) (q : Inquiry) → under_way (moved fs q).stage ≡ true → cost (opened (moved fs q).stage) + 1 ≤ cost q.stage
moved_cost fs q e = omega (arith, hear_all_cost q fs q.stage, tick_cost q.copies (hear_all q fs q.stage) (tick_from q.copies (hear_all q fs q.stage) e))

-- what is under way has a pulse left
pub running_cost : (now : Stage) → under_way now ≡ true → 1 ≤ cost now
running_cost now e = omega (arith, tick_cost 0 now e)
