-- The list of inquiries stays in order through a pulse: those that have ended, one under way, those that wait.
use Rattle.std.proofs.Common.{◌≡◌, ℕ, true, false, leb, ◌⊎◌, List, [], ◌∷◌, ◌++◌, Some, None, Option, sym, refl, ap, ◌∙◌, inl, inr, ⊎_elim, append_assoc, append-nil}
use Rattle.std.specs.List.{AllByRecursion}
use Rattle.std.proofs.lemmas.Bool.{cond_both}
use Rattle.frames.specs.Finding.{Found}
use Rattle.station.specs.Inquiries.{Stage, waiting, due, acknowledging, answering, receiving, ended, Inquiry, waits_still, has_ended, under_way, is_due}
use Rattle.station.specs.Exchange.{hear, hear_all, tick, begun, opened}
use Rattle.station.specs.Stations.{first, up_to_step_three, attempts}
use Rattle.station.proofs.Hearing.{FailsAt, again, gives_up, after_cases, Hears, same, acknowledged, refused, cut_off, goes_by_radio, gets_answer, gets_radio, hear_cases}
use Rattle.station.proofs.Turns.{Over, Unbegun, all_join, clash, tries, moved, still_over, goes_on, begins_now, ends_last, ends_next, if_due, attempt_at, due_at, attempt_none, hear_all_alone}

-- one that is under way or next to begin, then those that wait
abbrev pub Queue : List Inquiry → Type 0
Queue [] = Unit {0}
Queue (q ∷ more) = ((under_way q.stage ≡ true) ⊎ Unbegun q) × AllByRecursion Unbegun more

-- ended ones first, then the queue
pub record Orderly (qs : List Inquiry) : Type 0 where
  pub past : List Inquiry
  pub queue : List Inquiry
  pub split : qs ≡ past ++ queue
  pub over : AllByRecursion Over past
  pub queued : Queue queue

fails_not_waiting : (k : ℕ) {now : Stage} → FailsAt k now → waits_still now ≡ false
fails_not_waiting k (again lt e) = ap waits_still e
fails_not_waiting k (gives_up f e) = ap waits_still e

heard_not_waiting : {q : Inquiry} {v : Found} {now later : Stage} → Hears q v now later → waits_still now ≡ false → waits_still later ≡ false
heard_not_waiting (same e) w = ap waits_still e ∙ w
heard_not_waiting (acknowledged k left e some f) w = ap waits_still f
heard_not_waiting (refused k left e some f g) w = fails_not_waiting k f
heard_not_waiting (cut_off k left e some f) w = ap waits_still f
heard_not_waiting (goes_by_radio left e is f) w = ap waits_still f
heard_not_waiting (gets_answer left c d e is answers lawful apart f) w = ap waits_still f
heard_not_waiting (gets_radio left c d e is answers lawful from f) w = ap waits_still f

hear_all_not_waiting : (q : Inquiry) (fs : List (ℕ × Found)) (now : Stage) → waits_still now ≡ false → waits_still (hear_all q fs now) ≡ false
hear_all_not_waiting q [] now w = w
hear_all_not_waiting q ((place, v) ∷ fs) now w = hear_all_not_waiting q fs (hear q v now) (heard_not_waiting (hear_cases q v now) w)

tick_not_waiting : (n : ℕ) (now : Stage) → waits_still now ≡ false → waits_still (tick n now) ≡ false
tick_not_waiting n waiting w = w
tick_not_waiting n (due k) w = refl
tick_not_waiting n (acknowledging k left) w = cond_both (leb left 1) _ _ (λ s. waits_still s ≡ false) (λ e. fails_not_waiting k (after_cases n k)) (λ e. refl)
tick_not_waiting n (answering left) w = cond_both (leb left 1) _ _ (λ s. waits_still s ≡ false) (λ e. refl) (λ e. refl)
tick_not_waiting n (receiving left) w = cond_both (leb left 1) _ _ (λ s. waits_still s ≡ false) (λ e. refl) (λ e. refl)
tick_not_waiting n (ended end) w = refl

begun_or_over : (now : Stage) → waits_still now ≡ false → (under_way now ≡ true) ⊎ (has_ended now ≡ true)
begun_or_over waiting w = clash (sym w)
begun_or_over (due k) w = inl refl
begun_or_over (acknowledging k left) w = inl refl
begun_or_over (answering left) w = inl refl
begun_or_over (receiving left) w = inl refl
begun_or_over (ended end) w = inr refl

under_way_waits_not : (now : Stage) → under_way now ≡ true → waits_still now ≡ false
under_way_waits_not waiting e = clash e
under_way_waits_not (due k) e = refl
under_way_waits_not (acknowledging k left) e = refl
under_way_waits_not (answering left) e = refl
under_way_waits_not (receiving left) e = refl
under_way_waits_not (ended end) e = refl

-- what was under way still is, or has ended
pub moves_on : (fs : List (ℕ × Found)) (q : Inquiry) → under_way q.stage ≡ true → (under_way (moved fs q).stage ≡ true) ⊎ (has_ended (moved fs q).stage ≡ true)
moves_on fs q e =
    begun_or_over (moved fs q).stage (tick_not_waiting q.copies (hear_all q fs q.stage) (hear_all_not_waiting q fs q.stage (under_way_waits_not q.stage e)))

-- what waits still does
pub waits_on : (fs : List (ℕ × Found)) (q : Inquiry) → Unbegun q → (moved fs q).stage ≡ waiting
waits_on fs q (e, n) = ap (tick q.copies) (hear_all_alone q fs q.stage (ap under_way e) ∙ e)

pub opened_under_way : (now : Stage) → under_way now ≡ true → under_way (opened now) ≡ true
opened_under_way waiting e = e
opened_under_way (due k) e = refl
opened_under_way (acknowledging k left) e = refl
opened_under_way (answering left) e = refl
opened_under_way (receiving left) e = refl
opened_under_way (ended end) e = e

-- what one pulse makes of the ended ones and the queue, and which attempt is due in it
pub data Moves (fs : List (ℕ × Found)) (capacity : ℕ) (outgoing : List ℕ) (es queue after : List Inquiry) (attempt : Option Inquiry) : Type 0 where
  rests : queue ≡ [] → after ≡ es → attempt ≡ None → Moves fs capacity outgoing es queue after attempt
  starts : (q : Inquiry) (more : List Inquiry) → queue ≡ q ∷ more → Unbegun q → AllByRecursion Unbegun more
      → after ≡ es ++ (tries capacity outgoing (begun q) ∷ more) → attempt ≡ Some (begun q) → Moves fs capacity outgoing es queue after attempt
  continues : (q : Inquiry) (more : List Inquiry) → queue ≡ q ∷ more → under_way q.stage ≡ true → AllByRecursion Unbegun more
      → under_way (moved fs q).stage ≡ true → after ≡ es ++ (tries capacity outgoing (moved fs q) ∷ more) → attempt ≡ if_due (moved fs q)
      → Moves fs capacity outgoing es queue after attempt
  finishes : (q : Inquiry) → queue ≡ q ∷ [] → under_way q.stage ≡ true
      → has_ended (moved fs q).stage ≡ true → after ≡ es ++ (moved fs q ∷ []) → attempt ≡ None → Moves fs capacity outgoing es queue after attempt
  hands_over : (q next : Inquiry) (more : List Inquiry) → queue ≡ q ∷ (next ∷ more) → under_way q.stage ≡ true
      → AllByRecursion Unbegun (next ∷ more) → has_ended (moved fs q).stage ≡ true
      → after ≡ (es ++ (moved fs q ∷ [])) ++ (tries capacity outgoing (begun next) ∷ more) → attempt ≡ Some (begun next)
      → Moves fs capacity outgoing es queue after attempt

pub one_more : (es : List Inquiry) (q : Inquiry) → AllByRecursion Over es → has_ended q.stage ≡ true → AllByRecursion Over (es ++ (q ∷ []))
one_more es q over e = all_join Over es (q ∷ []) over (e, tt)

module _ (fs : List (ℕ × Found)) (capacity : ℕ) (outgoing : List ℕ) where
  ends : (es : List Inquiry) (q : Inquiry) (more : List Inquiry) → AllByRecursion Over es → under_way q.stage ≡ true → AllByRecursion Unbegun more → has_ended (moved fs q).stage ≡ true
      → Moves fs capacity outgoing es (q ∷ more) (attempts capacity outgoing (up_to_step_three fs (es ++ (q ∷ more)))) (first is_due (up_to_step_three fs (es ++ (q ∷ more))))
  ends es q [] over way wait done =
      let three = ends_last fs es over q done in
      let none = attempt_none capacity outgoing (es ++ (moved fs q ∷ [])) (one_more es (moved fs q) over done) in
      finishes q refl way done (ap (attempts capacity outgoing) three ∙ none.0) (ap (first is_due) three ∙ none.1)
  ends es q (next ∷ more) over way wait done =
      let three = ends_next fs es over q next more wait done ∙ sym (append_assoc es (moved fs q ∷ []) (begun next ∷ more)) in
      let both = one_more es (moved fs q) over done in
      hands_over q next more refl way wait done
      (ap (attempts capacity outgoing) three ∙ attempt_at capacity outgoing (es ++ (moved fs q ∷ [])) (begun next) more both wait.1)
      (ap (first is_due) three ∙ due_at (es ++ (moved fs q ∷ [])) (begun next) more both wait.1)

  works : (es : List Inquiry) (q : Inquiry) (more : List Inquiry) → AllByRecursion Over es → (under_way q.stage ≡ true) ⊎ Unbegun q → AllByRecursion Unbegun more
      → Moves fs capacity outgoing es (q ∷ more) (attempts capacity outgoing (up_to_step_three fs (es ++ (q ∷ more)))) (first is_due (up_to_step_three fs (es ++ (q ∷ more))))
  works es q more over (inr unbegun) wait =
      let three = begins_now fs es over q more wait (waits_on fs q unbegun) in
      starts q more refl unbegun wait
      (ap (attempts capacity outgoing) three ∙ attempt_at capacity outgoing es (begun q) more over wait)
      (ap (first is_due) three ∙ due_at es (begun q) more over wait)
  works es q more over (inl way) wait =
      ⊎_elim
      (λ still. let three = goes_on fs es over q more wait still in
      continues q more refl way wait still
      (ap (attempts capacity outgoing) three ∙ attempt_at capacity outgoing es (moved fs q) more over wait)
      (ap (first is_due) three ∙ due_at es (moved fs q) more over wait))
      (λ done. ends es q more over way wait done)
      (moves_on fs q way)

  pub pulse_moves : (es queue : List Inquiry) → AllByRecursion Over es → Queue queue
      → Moves fs capacity outgoing es queue (attempts capacity outgoing (up_to_step_three fs (es ++ queue))) (first is_due (up_to_step_three fs (es ++ queue)))
  pulse_moves es [] over queued =
      let three = ap (up_to_step_three fs) (append-nil es) ∙ still_over fs es over in
      let none = attempt_none capacity outgoing es over in
      rests refl (ap (attempts capacity outgoing) three ∙ none.0) (ap (first is_due) three ∙ none.1)
  pulse_moves es (q ∷ more) over queued = works es q more over queued.0 queued.1

  -- the order is kept
  pub moves_orderly : {es queue after : List Inquiry} {attempt : Option Inquiry} → AllByRecursion Over es → Moves fs capacity outgoing es queue after attempt → Orderly after
  moves_orderly {es} over (rests e f a) = record { past = es; queue = []; split = f ∙ sym (append-nil es); over = over; queued = tt }
  moves_orderly {es} over (starts q more e unbegun wait f a) =
      record { past = es; queue = tries capacity outgoing (begun q) ∷ more; split = f; over = over; queued = (inl refl, wait) }
  moves_orderly {es} over (continues q more e way wait still f a) =
      record { past = es; queue = tries capacity outgoing (moved fs q) ∷ more; split = f; over = over; queued = (inl (opened_under_way (moved fs q).stage still), wait) }
  moves_orderly {es} over (finishes q e way done f a) =
      record { past = es ++ (moved fs q ∷ []); queue = []; split = f ∙ sym (append-nil (es ++ (moved fs q ∷ []))); over = one_more es (moved fs q) over done; queued = tt }
  moves_orderly {es} over (hands_over q next more e way wait done f a) =
      record { past = es ++ (moved fs q ∷ []); queue = tries capacity outgoing (begun next) ∷ more; split = f; over = one_more es (moved fs q) over done; queued = (inl refl, wait.1) }
