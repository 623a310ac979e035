-- What a pulse does to the list of inquiries: the first unfinished one moves, and where it ends the next begins.
use Rattle.std.proofs.Common.{◌≡◌, ℕ, Bool, true, false, cond, List, [], ◌∷◌, ◌++◌, Some, None, Option, sym, refl, ap, ◌∙◌, ⊎_elim, arith}
use Rattle.std.specs.List.{AllByRecursion}
use Rattle.std.proofs.lemmas.Bool.{cond-true, cond-false, cases_Bool}
use Rattle.frames.specs.Finding.{Found, frame, dropped}
use Rattle.station.specs.Inquiries.{Stage, waiting, due, acknowledging, answering, receiving, ended, Inquiry, written, own_frame, at_stage, waits_still, has_ended, under_way, is_due}
use Rattle.station.specs.Exchange.{hear, hear_all, heard, tick, ticked, begun, opened, counted, attempted}
use Rattle.station.specs.Stations.{change, first, hears, ends_periods, begins_unless, begins, up_to_step_three, has_space, attempts}

-- an inquiry that has ended
abbrev pub Over : Inquiry → Type 0
Over q = has_ended q.stage ≡ true

-- an inquiry that has not begun
abbrev pub Unbegun : Inquiry → Type 0
Unbegun q = (q.stage ≡ waiting) × (q.copies ≡ 0)

-- the stage does not pass the test
abbrev Fails : (Stage → Bool) → Inquiry → Type 0
Fails passes q = passes q.stage ≡ false

pub all_map : {X : Type 0} {P Q : X → Type 0} → ((x : X) → P x → Q x) → (xs : List X) → AllByRecursion P xs → AllByRecursion Q xs
all_map f [] a = tt
all_map f (x ∷ xs) a = (f x a.0, all_map f xs a.1)

pub all_join : {X : Type 0} (P : X → Type 0) (xs ys : List X) → AllByRecursion P xs → AllByRecursion P ys → AllByRecursion P (xs ++ ys)
all_join P [] ys a b = b
all_join P (x ∷ xs) ys a b = (a.0, all_join P xs ys a.1 b)

pub clash : {X : Type 0} → false ≡ true → X
clash e = absurd (let z : ◌≡◌ {A = ℕ} 0 1 = ap (λ b. cond b 1 0) e in omega arith)

pub over_fails : (passes : Stage → Bool) → ((e : _) → passes (ended e) ≡ false) → (now : Stage) → has_ended now ≡ true → passes now ≡ false
over_fails passes f waiting e = clash e
over_fails passes f (due k) e = clash e
over_fails passes f (acknowledging k left) e = clash e
over_fails passes f (answering left) e = clash e
over_fails passes f (receiving left) e = clash e
over_fails passes f (ended end) e = f end

change_none : (passes : Stage → Bool) (f : Inquiry → Inquiry) (qs : List Inquiry) → AllByRecursion (Fails passes) qs → change passes f qs ≡ qs
change_none passes f [] a = refl
change_none passes f (q ∷ qs) a = cond-false _ _ _ a.0 ∙ ap (λ l. q ∷ l) (change_none passes f qs a.1)

change_behind : (passes : Stage → Bool) (f : Inquiry → Inquiry) (qs more : List Inquiry) → AllByRecursion (Fails passes) qs → change passes f (qs ++ more) ≡ qs ++ change passes f more
change_behind passes f [] more a = refl
change_behind passes f (q ∷ qs) more a = cond-false _ _ _ a.0 ∙ ap (λ l. q ∷ l) (change_behind passes f qs more a.1)

pub first_none : (passes : Stage → Bool) (qs : List Inquiry) → AllByRecursion (Fails passes) qs → first passes qs ≡ None
first_none passes [] a = refl
first_none passes (q ∷ qs) a = cond-false _ _ _ a.0 ∙ first_none passes qs a.1

pub first_behind : (passes : Stage → Bool) (qs more : List Inquiry) → AllByRecursion (Fails passes) qs → first passes (qs ++ more) ≡ first passes more
first_behind passes [] more a = refl
first_behind passes (q ∷ qs) more a = cond-false _ _ _ a.0 ∙ first_behind passes qs more a.1

-- one inquiry changes, if the others fail the test and the change leaves it alone where it fails too
change_one : (passes : Stage → Bool) (f : Inquiry → Inquiry) (qs : List Inquiry) (q : Inquiry) (more : List Inquiry) → AllByRecursion (Fails passes) qs → AllByRecursion (Fails passes) more
    → (passes q.stage ≡ false → f q ≡ q) → change passes f (qs ++ (q ∷ more)) ≡ qs ++ (f q ∷ more)
change_one passes f qs q more a b alone =
    change_behind passes f qs (q ∷ more) a
    ∙ ap (λ l. qs ++ l)
    (⊎_elim
    (λ e. cond-true _ _ _ e)
    (λ e. cond-false _ _ _ e ∙ (λ i. sym (alone e) i ∷ change_none passes f more b i))
    (cases_Bool (passes q.stage)))

-- frames that come while an inquiry is not under way leave it alone
hear_alone : (q : Inquiry) (v : Found) (now : Stage) → under_way now ≡ false → hear q v now ≡ now
hear_alone q (dropped cause n) now e = refl
hear_alone q (frame c d) waiting e = refl
hear_alone q (frame c d) (due k) e = clash (sym e)
hear_alone q (frame c d) (acknowledging k left) e = clash (sym e)
hear_alone q (frame c d) (answering left) e = clash (sym e)
hear_alone q (frame c d) (receiving left) e = clash (sym e)
hear_alone q (frame c d) (ended end) e = refl

pub hear_all_alone : (q : Inquiry) (fs : List (ℕ × Found)) (now : Stage) → under_way now ≡ false → hear_all q fs now ≡ now
hear_all_alone q [] now e = refl
hear_all_alone q ((place, v) ∷ fs) now e =
    ap (hear_all q fs) (hear_alone q v now e) ∙ hear_all_alone q fs now e

tick_alone : (n : ℕ) (now : Stage) → under_way now ≡ false → tick n now ≡ now
tick_alone n waiting e = refl
tick_alone n (due k) e = refl
tick_alone n (acknowledging k left) e = clash (sym e)
tick_alone n (answering left) e = clash (sym e)
tick_alone n (receiving left) e = clash (sym e)
tick_alone n (ended end) e = refl

opened_alone : (now : Stage) → is_due now ≡ false → opened now ≡ now
opened_alone waiting e = refl
opened_alone (due k) e = clash (sym e)
opened_alone (acknowledging k left) e = refl
opened_alone (answering left) e = refl
opened_alone (receiving left) e = refl
opened_alone (ended end) e = refl

counted_alone : (b : Bool) (n : ℕ) (now : Stage) → is_due now ≡ false → counted b now n ≡ n
counted_alone b n waiting e = refl
counted_alone b n (due k) e = clash (sym e)
counted_alone b n (acknowledging k left) e = refl
counted_alone b n (answering left) e = refl
counted_alone b n (receiving left) e = refl
counted_alone b n (ended end) e = refl

-- an attempt on this line, if one is due
abbrev pub tries : ℕ → List ℕ → Inquiry → Inquiry
tries capacity outgoing q = attempted (has_space capacity outgoing (written (own_frame q))) q

attempted_alone : (b : Bool) (q : Inquiry) → is_due q.stage ≡ false → attempted b q ≡ q
attempted_alone b q e i =
    record { number = q.number; cmd = q.cmd; sent = q.sent; copies = counted_alone b q.copies q.stage e i; stage = opened_alone q.stage e i }

unbegun_fails : (passes : Stage → Bool) → passes waiting ≡ false → (q : Inquiry) → Unbegun q → Fails passes q
unbegun_fails passes f q (e, n) = ap passes e ∙ f

pub overs_fail : (passes : Stage → Bool) → ((e : _) → passes (ended e) ≡ false) → (qs : List Inquiry) → AllByRecursion Over qs → AllByRecursion (Fails passes) qs
overs_fail passes f qs = all_map (λ q. over_fails passes f q.stage) qs

pub unbegun_fail : (passes : Stage → Bool) → passes waiting ≡ false → (qs : List Inquiry) → AllByRecursion Unbegun qs → AllByRecursion (Fails passes) qs
unbegun_fail passes f qs = all_map (unbegun_fails passes f) qs

-- what has become of an inquiry after steps 1 and 2
abbrev pub moved : List (ℕ × Found) → Inquiry → Inquiry
moved fs q = ticked (heard fs q)

module _ (fs : List (ℕ × Found)) (qs : List Inquiry) (over : AllByRecursion Over qs) where
  -- nothing unfinished is left: nothing moves
  pub still_over : up_to_step_three fs qs ≡ qs
  still_over =
      let none = overs_fail under_way (λ e. refl) qs over in
      let one = change_none under_way (heard fs) qs none in
      let two = ap (change under_way ticked) one ∙ change_none under_way ticked qs none in
      ap begins two ∙ ap (λ o. begins_unless o qs) (first_none under_way qs none) ∙ change_none waits_still begun qs (overs_fail waits_still (λ e. refl) qs over)

  module _ (q : Inquiry) (more : List Inquiry) (wait : AllByRecursion Unbegun more) where
    two_steps : ends_periods (hears fs (qs ++ (q ∷ more))) ≡ qs ++ (moved fs q ∷ more)
    two_steps =
        let none = overs_fail under_way (λ e. refl) qs over in
        let rest = unbegun_fail under_way refl more wait in
        ap ends_periods (change_one under_way (heard fs) qs q more none rest (λ e. ap (at_stage q) (hear_all_alone q fs q.stage e)))
        ∙ change_one under_way ticked qs (heard fs q) more none rest (λ e. ap (at_stage q) (tick_alone q.copies (heard fs q).stage e))

    none_under_way : under_way (moved fs q).stage ≡ false → first under_way (qs ++ (moved fs q ∷ more)) ≡ None
    none_under_way e = first_behind under_way qs _ (overs_fail under_way (λ e. refl) qs over) ∙ first_none under_way (moved fs q ∷ more) (e, unbegun_fail under_way refl more wait)

    -- it goes on
    pub goes_on : under_way (moved fs q).stage ≡ true → up_to_step_three fs (qs ++ (q ∷ more)) ≡ qs ++ (moved fs q ∷ more)
    goes_on e =
        ap begins two_steps
        ∙ ap (λ o. begins_unless o (qs ++ (moved fs q ∷ more))) (first_behind under_way qs _ (overs_fail under_way (λ e. refl) qs over) ∙ cond-true _ _ _ e)

    -- it was the first to wait, and begins
    pub begins_now : (moved fs q).stage ≡ waiting → up_to_step_three fs (qs ++ (q ∷ more)) ≡ qs ++ (begun q ∷ more)
    begins_now e =
        ap begins two_steps
        ∙ ap (λ o. begins_unless o (qs ++ (moved fs q ∷ more))) (none_under_way (ap under_way e))
        ∙ change_behind waits_still begun qs _ (overs_fail waits_still (λ e. refl) qs over) ∙ ap (λ l. qs ++ l) (cond-true _ _ _ (ap waits_still e))

  -- it has ended, and nothing waits
  pub ends_last : (q : Inquiry) → has_ended (moved fs q).stage ≡ true → up_to_step_three fs (qs ++ (q ∷ [])) ≡ qs ++ (moved fs q ∷ [])
  ends_last q e =
      ap begins (two_steps q [] tt)
      ∙ ap (λ o. begins_unless o (qs ++ (moved fs q ∷ []))) (none_under_way q [] tt (over_fails under_way (λ e. refl) (moved fs q).stage e))
      ∙ change_none waits_still begun (qs ++ (moved fs q ∷ [])) (all_join (Fails waits_still) qs _ (overs_fail waits_still (λ e. refl) qs over) (over_fails waits_still (λ e. refl) (moved fs q).stage e, tt))

  -- it has ended, and the next begins
  pub ends_next : (q next : Inquiry) (more : List Inquiry) → AllByRecursion Unbegun (next ∷ more) → has_ended (moved fs q).stage ≡ true
      → up_to_step_three fs (qs ++ (q ∷ (next ∷ more))) ≡ qs ++ (moved fs q ∷ (begun next ∷ more))
  ends_next q next more wait e =
      ap begins (two_steps q (next ∷ more) wait)
      ∙ ap (λ o. begins_unless o (qs ++ (moved fs q ∷ (next ∷ more)))) (none_under_way q (next ∷ more) wait (over_fails under_way (λ e. refl) (moved fs q).stage e))
      ∙ change_behind waits_still begun qs _ (overs_fail waits_still (λ e. refl) qs over)
      ∙ ap (λ l. qs ++ l) (cond-false _ _ _ (over_fails waits_still (λ e. refl) (moved fs q).stage e) ∙ ap (λ l. moved fs q ∷ l) (cond-true _ _ _ (ap waits_still wait.0.0)))

-- the one attempt that can be due
abbrev pub if_due : Inquiry → Option Inquiry
if_due q = cond (is_due q.stage) (Some q) None

pub attempt_at : (capacity : ℕ) (outgoing : List ℕ) (qs : List Inquiry) (q : Inquiry) (more : List Inquiry) → AllByRecursion Over qs → AllByRecursion Unbegun more
    → attempts capacity outgoing (qs ++ (q ∷ more)) ≡ qs ++ (tries capacity outgoing q ∷ more)
attempt_at capacity outgoing qs q more over wait =
    change_one is_due (tries capacity outgoing) qs q more (overs_fail is_due (λ e. refl) qs over) (unbegun_fail is_due refl more wait)
    (attempted_alone (has_space capacity outgoing (written (own_frame q))) q)

pub due_at : (qs : List Inquiry) (q : Inquiry) (more : List Inquiry) → AllByRecursion Over qs → AllByRecursion Unbegun more → first is_due (qs ++ (q ∷ more)) ≡ if_due q
due_at qs q more over wait =
    first_behind is_due qs (q ∷ more) (overs_fail is_due (λ e. refl) qs over) ∙ ap (λ o. cond (is_due q.stage) (Some q) o) (first_none is_due more (unbegun_fail is_due refl more wait))

pub attempt_none : (capacity : ℕ) (outgoing : List ℕ) (qs : List Inquiry) → AllByRecursion Over qs → (attempts capacity outgoing qs ≡ qs) × (first is_due qs ≡ None)
attempt_none capacity outgoing qs over =
    let none = overs_fail is_due (λ e. refl) qs over in (change_none is_due (tries capacity outgoing) qs none, first_none is_due qs none)
