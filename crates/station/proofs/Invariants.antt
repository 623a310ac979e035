-- What holds of every station that a history leads to: rising numbers, the order of the inquiries, and pulses left.
use Rattle.std.proofs.Common.{◌≡◌, ℕ, ◌+◌, ◌≤◌, List, [], ◌∷◌, ◌++◌, Some, None, Ok, Err, Option, Result, sym, refl, ap, ◌∙◌, subst, inr, append_assoc, arith}
use Rattle.std.specs.List.{AllByRecursion}
use Rattle.frames.specs.Finding.{Found}
use Rattle.lines.specs.Meaning.{Meaning}
use Rattle.station.specs.declared.refusal.Refusal.{Refusal}
use Rattle.station.specs.Inquiries.{Inquiry, has_ended, Outcome}
use Rattle.station.specs.Stations.{Slip, Station, new_inquiry, lodge_cause, lodge_after, without, held_under, replies, attempts, up_to_step_three, Pulsed, collect_after}
use Rattle.station.specs.Histories.{Event, lodges, pulses, collects, History, made, ◌▸◌, Run, Step}
use Rattle.station.proofs.Turns.{Over, Unbegun, all_join, moved}
use Rattle.station.proofs.Costs.{cost, moved_cost, ended_cost}
use Rattle.station.proofs.Pulses.{Queue, Orderly, Moves, rests, starts, continues, finishes, hands_over, pulse_moves, moves_orderly}
use Rattle.station.proofs.Numbers.{numbers, Rising, rising_push, numbers_pulse, numbers_join, rising_without, all_without, remove_past}
use Rattle.station.proofs.Asking.{Had, had, collected}

pub all_split : {X : Type 0} (P : X → Type 0) (xs ys : List X) → AllByRecursion P (xs ++ ys) → AllByRecursion P xs × AllByRecursion P ys
all_split P [] ys a = (tt, a)
all_split P (x ∷ xs) ys a = let deeper = all_split P xs ys a.1 in ((a.0, deeper.0), deeper.1)

-- no inquiry has more than 70 pulses left
abbrev pub Bounded : Inquiry → Type 0
Bounded q = cost q.stage ≤ 70

pub record Good (low : ℕ) (s : Station) : Type 0 where
  pub rising : Rising low (numbers s.places) s.next
  pub order : Orderly s.places
  pub bounded : AllByRecursion Bounded s.places

pub queue_push : (queue : List Inquiry) (q : Inquiry) → Queue queue → Unbegun q → Queue (queue ++ (q ∷ []))
queue_push [] q queued u = (inr u, tt)
queue_push (x ∷ more) q queued u = (queued.0, all_join Unbegun more (q ∷ []) queued.1 (u, tt))

-- lodging adds one behind the queue
lodge_good : (low : ℕ) (s : Station) (c : ℕ) (d : List ℕ) (o : Option Refusal) → Good low s → Good low (lodge_after s c d o)
lodge_good low s c d (Some r) good = good
lodge_good low s c d None good = record {
  rising = subst (λ ns. Rising low ns (s.next + 1)) (sym (numbers_join s.places (new_inquiry s.next c d ∷ []))) (rising_push low (numbers s.places) s.next good.rising);
  order = record {
    past = good.order.past;
    queue = good.order.queue ++ (new_inquiry s.next c d ∷ []);
    split = ap (λ l. l ++ (new_inquiry s.next c d ∷ [])) good.order.split ∙ append_assoc good.order.past good.order.queue (new_inquiry s.next c d ∷ []);
    over = good.order.over;
    queued = queue_push good.order.queue (new_inquiry s.next c d) good.order.queued (refl, refl);
  };
  bounded = all_join Bounded s.places (new_inquiry s.next c d ∷ []) good.bounded (omega arith, tt);
}

-- an ended inquiry that is collected leaves the others in order
collect_good : (low : ℕ) (s : Station) (slip : Slip) (r : Result Outcome Refusal) → ((o : Outcome) → r ≡ Ok o → Had s slip o) → Good low s → Good low (collect_after s slip r)
collect_good low s slip (Err e) has good = good
collect_good low s slip (Ok o) has good =
    let n = slip.number in
    let it = has o refl in
    let split = good.order.split in
    let removed = remove_past n good.order.past good.order.queue it.inquiry good.order.queued (subst (λ l. held_under n l ≡ Some it.inquiry) split it.held) (ap has_ended it.at) in
    record {
      rising = rising_without n low s.places s.next good.rising;
      order = record {
        past = without n good.order.past;
        queue = good.order.queue;
        split = ap (without n) split ∙ removed.0;
        over = all_without Over n good.order.past good.order.over;
        queued = good.order.queued;
      };
      bounded = all_without Bounded n s.places good.bounded;
    }

module _ (fs : List (ℕ × Found)) (capacity : ℕ) (outgoing : List ℕ) where
  -- no pulse makes an inquiry's time longer
  moves_bounded : {es queue after : List Inquiry} {attempt : Option Inquiry} → AllByRecursion Bounded es → AllByRecursion Bounded queue → Moves fs capacity outgoing es queue after attempt → AllByRecursion Bounded after
  moves_bounded {es} a b (rests e f t) = subst (AllByRecursion Bounded) (sym f) a
  moves_bounded {es} a b (starts q more e u w f t) =
      subst (AllByRecursion Bounded) (sym f) (all_join Bounded es _ a (omega arith, (subst (AllByRecursion Bounded) e b).1))
  moves_bounded {es} a b (continues q more e way w still f t) =
      let both = subst (AllByRecursion Bounded) e b in
      subst (AllByRecursion Bounded) (sym f) (all_join Bounded es _ a (omega (arith, moved_cost fs q still, both.0), both.1))
  moves_bounded {es} a b (finishes q e way done f t) =
      subst (AllByRecursion Bounded) (sym f) (all_join Bounded es _ a (omega (arith, ended_cost (moved fs q).stage done), tt))
  moves_bounded {es} a b (hands_over q next more e way w done f t) =
      subst (AllByRecursion Bounded) (sym f)
      (all_join Bounded (es ++ (moved fs q ∷ [])) _ (all_join Bounded es (moved fs q ∷ []) a (omega (arith, ended_cost (moved fs q).stage done), tt))
      (omega arith, (subst (AllByRecursion Bounded) e b).1.1))

pulse_good : (low : ℕ) (s t : Station) (line line_after : Meaning) → Pulsed s line t line_after → Good low s → Good low t
pulse_good low s t line line_after p good =
    let fs = p.findings in
    let out = replies line.capacity fs line.outgoing in
    let past = good.order.past in
    let queue = good.order.queue in
    let moves = pulse_moves fs line.capacity out past queue good.order.over good.order.queued in
    let list = p.places ∙ ap (λ l. attempts line.capacity out (up_to_step_three fs l)) good.order.split in
    let bounds = all_split Bounded past queue (subst (AllByRecursion Bounded) good.order.split good.bounded) in
    record {
      rising = subst (Rising low (numbers t.places)) (sym p.next)
          (subst (λ ns. Rising low ns s.next) (sym (ap numbers p.places ∙ numbers_pulse fs line.capacity out s.places)) good.rising);
      order = subst Orderly (sym list) (moves_orderly fs line.capacity out good.order.over moves);
      bounded = subst (AllByRecursion Bounded) (sym list) (moves_bounded fs line.capacity out bounds.0 bounds.1 moves);
    }

pub step_good : (low : ℕ) (s t : Station) (e : Event) → Step s e t → Good low s → Good low t
step_good low s t (lodges c d answer) (a, e) good = subst (Good low) (sym e) (lodge_good low s c d (lodge_cause s c d) good)
step_good low s t (pulses line line_after) p good = pulse_good low s t line line_after p good
step_good low s t (collects slip memory answer) (a, e) good =
    subst (Good low) (sym e) (collect_good low s slip answer (λ o is. had s slip o (collected s slip memory o (sym is ∙ a))) good)

-- the first number of a history's station
abbrev pub first_number : History → ℕ
first_number (made m n) = n
first_number (h ▸ e) = first_number h

pub good : (h : History) (s : Station) → Run h s → Good (first_number h) s
good (made m n) s e = subst (Good n) (sym e) (record { rising = omega arith; order = record { past = []; queue = []; split = refl; over = tt; queued = tt }; bounded = tt })
good (h ▸ e) s (b, run, step) = step_good (first_number h) b s e step (good h b run)
