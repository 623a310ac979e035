-- The books are kept through a pulse.
use Rattle.std.proofs.Common.{◌≡◌, ℕ, ◌≤◌, false, List, [], ◌∷◌, ◌++◌, map, Some, None, Option, sym, refl, ap, ◌∙◌, subst, inl, inr, append_assoc, append-nil, arith}
use Rattle.std.specs.List.{AllByRecursion}
use Rattle.std.proofs.lemmas.Bool.{cond_both}
use Rattle.lines.specs.Meaning.{Meaning}
use Rattle.std.proofs.lemmas.List.{map-append}
use Rattle.station.specs.Inquiries.{Outcome, Inquiry, written, own_frame, is_due}
use Rattle.station.specs.Exchange.{begun}
use Rattle.station.specs.Stations.{Slip, Station, has_space, first, replies, attempts, up_to_step_three, Pulsed}
use Rattle.station.specs.Histories.{pulses, History, ◌▸◌, Handed}
use Rattle.station.specs.Promises.{In, is_control, requests, Tally, all_copies}
use Rattle.station.proofs.Turns.{Over, Unbegun, all_map, all_join, tries, moved, if_due}
use Rattle.station.proofs.Pulses.{Queue, Moves, rests, starts, continues, finishes, hands_over, pulse_moves, opened_under_way, one_more}
use Rattle.station.proofs.Lookups.{in_left, in_right}
use Rattle.station.proofs.Copies.{at_most_four, moved_counted, attempt_counted, sent_now}
use Rattle.station.proofs.Books.{tally_of, tallies, Sound, Books, last_sends, page}

some_is : {x y : Inquiry} → Some x ≡ Some y → x ≡ y
some_is e = cc

module _ (h : History) (b s : Station) (line line_after : Meaning) (books : Books h b.mark b.places) (p : Pulsed b line s line_after) where
  handed_later : (done : List Tally) → ((t : Tally) → In t books.done → In t done) → (slip : Slip) (o : Outcome) → Handed slip o (h ▸ pulses line line_after)
      → (t : Tally) × In t done × (t.lodging.slip ≡ slip) × (t.copies ≡ o.copies)
  handed_later done more slip o (earlier, memory, inl (at, is)) = absurd (let z : ◌≡◌ {A = ℕ} 0 1 = cc in omega arith)
  handed_later done more slip o (earlier, memory, inr at) = let it = books.handed slip o (earlier, memory, at) in (it.0, more it.0 it.1, it.2, it.3)

  -- the ended ones move on to `done`, and one inquiry tries
  turned : (done : List Tally) (past : List Inquiry) (q : Inquiry) (more : List Inquiry)
      → s.places ≡ past ++ (tries line.capacity (replies line.capacity p.findings line.outgoing) q ∷ more)
      → first is_due (up_to_step_three p.findings b.places) ≡ if_due q → AllByRecursion Over past → Queue (tries line.capacity (replies line.capacity p.findings line.outgoing) q ∷ more)
      → AllByRecursion Unbegun more → Sound q → AllByRecursion Sound more → AllByRecursion (λ t. t.copies ≤ 4) done → AllByRecursion (λ x. In (tally_of b.mark x) done) past
      → ((t : Tally) → In t books.done → In t done) → books.done ++ tallies b.mark books.queue ≡ done ++ tallies b.mark (q ∷ more)
      → Books (h ▸ pulses line line_after) b.mark s.places
  turned done past q more list attempt over queued wait sound sounds few entered grown same =
      let out = replies line.capacity p.findings line.outgoing in
      let plain : (x : Inquiry) → if_due q ≡ Some x → is_control (own_frame x) ≡ false =
      λ x. cond_both (is_due q.stage) _ _ (λ o. o ≡ Some x → is_control (own_frame x) ≡ false)
      (λ t e. subst (λ y. is_control (own_frame y) ≡ false) (some_is e) sound.1) (λ t e. absurd (let z : ◌≡◌ {A = ℕ} 0 1 = cc in omega arith)) in
      let new = page h b s line line_after books.frames books.puts p (if_due q) attempt plain in
      record {
        frames = new.frames;
        puts = new.puts;
        done = done;
        past = past;
        queue = tries line.capacity out q ∷ more;
        split = list;
        over = over;
        queued = queued;
        sound = ((attempt_counted (has_space line.capacity out (written (own_frame q))) q.stage q.copies sound.0, sound.1), sounds);
        few = few;
        entered = entered;
        lodged = books.lodged ∙ ap (map (λ t. t.lodging)) same ∙ map-append _ done (tallies b.mark (q ∷ more)) ∙ sym (map-append _ done (tallies b.mark (tries line.capacity out q ∷ more)));
        sent = new.sent ∙ ap (λ l. l ++ sent_now line.capacity out (if_due q)) (books.sent ∙ ap all_copies same) ∙ sym (last_sends b.mark line.capacity out done q more wait);
        handed = handed_later done grown;
      }

  -- nothing was due
  settled : (done : List Tally) (past : List Inquiry) → s.places ≡ past → first is_due (up_to_step_three p.findings b.places) ≡ None → AllByRecursion Over past
      → AllByRecursion (λ t. t.copies ≤ 4) done → AllByRecursion (λ x. In (tally_of b.mark x) done) past → ((t : Tally) → In t books.done → In t done)
      → books.done ++ tallies b.mark books.queue ≡ done → Books (h ▸ pulses line line_after) b.mark s.places
  settled done past list attempt over few entered grown same =
      let new = page h b s line line_after books.frames books.puts p None attempt (λ q e. absurd (let z : ◌≡◌ {A = ℕ} 0 1 = cc in omega arith)) in
      record {
        frames = new.frames;
        puts = new.puts;
        done = done;
        past = past;
        queue = [];
        split = list ∙ sym (append-nil past);
        over = over;
        queued = tt;
        sound = tt;
        few = few;
        entered = entered;
        lodged = books.lodged ∙ ap (map (λ t. t.lodging)) (same ∙ sym (append-nil done));
        sent = new.sent ∙ append-nil (requests books.frames) ∙ books.sent ∙ ap all_copies (same ∙ sym (append-nil done));
        handed = handed_later done grown;
      }

  -- one more has ended
  module _ (q : Inquiry) (way : Sound q) where
    few_more : AllByRecursion (λ t. t.copies ≤ 4) (books.done ++ (tally_of b.mark q ∷ []))
    few_more = all_join (λ t. t.copies ≤ 4) books.done _ books.few (at_most_four q.stage q.copies way.0, tt)

    entered_more : AllByRecursion (λ x. In (tally_of b.mark x) (books.done ++ (tally_of b.mark q ∷ []))) (books.past ++ (moved p.findings q ∷ []))
    entered_more =
        all_join (λ x. In (tally_of b.mark x) (books.done ++ (tally_of b.mark q ∷ []))) books.past (moved p.findings q ∷ [])
        (all_map (λ x i. in_left (tally_of b.mark x) books.done (tally_of b.mark q ∷ []) i) books.past books.entered)
        (in_right (tally_of b.mark q) books.done (tally_of b.mark q ∷ []) (inl refl), tt)

    grown_more : (t : Tally) → In t books.done → In t (books.done ++ (tally_of b.mark q ∷ []))
    grown_more t i = in_left t books.done (tally_of b.mark q ∷ []) i

  moves_books : {after : List Inquiry} {attempt : Option Inquiry} → Moves p.findings line.capacity (replies line.capacity p.findings line.outgoing) books.past books.queue after attempt
      → s.places ≡ after → first is_due (up_to_step_three p.findings b.places) ≡ attempt → Books (h ▸ pulses line line_after) b.mark s.places
  moves_books (rests e f a) list attempt =
      settled books.done books.past (list ∙ f) (attempt ∙ a) books.over books.few books.entered (λ t i. i)
      (ap (λ l. books.done ++ tallies b.mark l) e ∙ append-nil books.done)
  moves_books (starts q more e unbegun wait f a) list attempt =
      let sound = subst (AllByRecursion Sound) e books.sound in
      turned books.done books.past (begun q) more (list ∙ f) (attempt ∙ a) books.over (inl refl, wait) wait
      ((omega (arith, unbegun.1), omega arith), sound.0.1) sound.1 books.few books.entered (λ t i. i) (ap (λ l. books.done ++ tallies b.mark l) e)
  moves_books (continues q more e way wait still f a) list attempt =
      let sound = subst (AllByRecursion Sound) e books.sound in
      turned books.done books.past (moved p.findings q) more (list ∙ f) (attempt ∙ a) books.over (inl (opened_under_way (moved p.findings q).stage still), wait) wait
      (moved_counted p.findings q sound.0.0, sound.0.1) sound.1 books.few books.entered (λ t i. i) (ap (λ l. books.done ++ tallies b.mark l) e)
  moves_books (finishes q e way over f a) list attempt =
      let sound = subst (AllByRecursion Sound) e books.sound in
      settled (books.done ++ (tally_of b.mark q ∷ [])) (books.past ++ (moved p.findings q ∷ [])) (list ∙ f) (attempt ∙ a) (one_more books.past (moved p.findings q) books.over over)
      (few_more q sound.0) (entered_more q sound.0) (grown_more q sound.0) (ap (λ l. books.done ++ tallies b.mark l) e)
  moves_books (hands_over q next more e way wait over f a) list attempt =
      let sound = subst (AllByRecursion Sound) e books.sound in
      turned (books.done ++ (tally_of b.mark q ∷ [])) (books.past ++ (moved p.findings q ∷ [])) (begun next) more (list ∙ f) (attempt ∙ a)
      (one_more books.past (moved p.findings q) books.over over) (inl refl, wait.1) wait.1
      ((omega (arith, wait.0.1), omega arith), sound.1.0.1) sound.1.1 (few_more q sound.0) (entered_more q sound.0) (grown_more q sound.0)
      (ap (λ l. books.done ++ tallies b.mark l) e ∙ sym (append_assoc books.done (tally_of b.mark q ∷ []) (tallies b.mark (next ∷ more))))

  pub pulse_books : Books (h ▸ pulses line line_after) b.mark s.places
  pulse_books =
      let fs = p.findings in
      let out = replies line.capacity fs line.outgoing in
      moves_books (pulse_moves fs line.capacity out books.past books.queue books.over books.queued)
      (p.places ∙ ap (λ l. attempts line.capacity out (up_to_step_three fs l)) books.split) (ap (λ l. first is_due (up_to_step_three fs l)) books.split)
