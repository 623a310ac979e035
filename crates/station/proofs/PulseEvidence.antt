-- The evidence of each inquiry is kept through a pulse.
use Rattle.std.proofs.Common.{◌≡◌, ℕ, Bool, true, false, List, [], ◌∷◌, ◌++◌, Some, None, Option, sym, refl, ap, ◌∙◌, subst, inl, inr, ⊎_elim, append_assoc, arith}
use Rattle.std.specs.List.{AllByRecursion}
use Rattle.std.proofs.lemmas.Bool.{cond_both, cond-true, cond-false, cases_Bool}
use Rattle.frames.specs.Finding.{frame}
use Rattle.lines.specs.Meaning.{Meaning}
use Rattle.station.specs.Commands.{lawful_answer}
use Rattle.station.specs.Inquiries.{Stage, waiting, due, acknowledging, answering, receiving, ended, Inquiry, written, own_frame, under_way, waits_still, is_due}
use Rattle.station.specs.Exchange.{heard, ticked, begun, counted}
use Rattle.station.specs.Stations.{Station, change, first, hears, ends_periods, begins_unless, has_space, put, due_frame, replies, up_to_step_three, taken, Pulsed}
use Rattle.station.specs.Histories.{pulses, History, ◌▸◌, Run}
use Rattle.station.specs.Promises.{In, all_written, bytes_heard, ReadsFrame, AnswersRequest, WasRead}
use Rattle.station.proofs.Turns.{all_map, tries}
use Rattle.station.proofs.Slips.{slip_of}
use Rattle.station.proofs.Copies.{replies_control}
use Rattle.station.proofs.Lookups.{in_right}
use Rattle.station.proofs.Readings.{joined, heard_so_far}
use Rattle.station.proofs.Evidence.{Copied, Rests, Evidence, rests_map, read_on, copied_on, hear_all_rests, tick_rests, opened_rests}

-- what holds of each inquiry, where the first that passes a test changes
pub change_all : (passes : Stage → Bool) (f : Inquiry → Inquiry) (P Q : Inquiry → Type 0) (qs : List Inquiry) → ((q : Inquiry) → P q → Q q)
    → ((q : Inquiry) → first passes qs ≡ Some q → P q → Q (f q)) → AllByRecursion P qs → AllByRecursion Q (change passes f qs)
change_all passes f P Q [] keep move a = tt
change_all passes f P Q (q ∷ qs) keep move a =
    cond_both (passes q.stage) _ _ (λ l. AllByRecursion Q l) (λ e. (move q (cond-true _ _ _ e) a.0, all_map keep qs a.1))
    (λ e. (keep q a.0, change_all passes f P Q qs keep (λ x is. move x (cond-false _ _ _ e ∙ is)) a.1))

uncounted : (b : Bool) (now : Stage) (n : ℕ) → b ≡ false → counted b now n ≡ n
uncounted b waiting n e = refl
uncounted b (due k) n e = cond-false _ _ _ e
uncounted b (acknowledging k left) n e = refl
uncounted b (answering left) n e = refl
uncounted b (receiving left) n e = refl
uncounted b (ended x) n e = refl

module _ (h : History) (b s : Station) (line line_after : Meaning) (run : Run h b) (p : Pulsed b line s line_after) where
  -- lodged and copied before this pulse, and answered in it or before
  Known : Inquiry → Type 0
  Known q = Evidence h (h ▸ pulses line line_after) (slip_of b.mark q.number) q

  -- a frame found in this pulse was read in it
  read_now : (place c : ℕ) (d : List ℕ) → In (place, frame c d) p.findings → ReadsFrame h line c d
  read_now place c d i =
      let old = heard_so_far h b run in
      let both = joined 0 (bytes_heard h) b.held (taken line) old.0 p.findings p.open_end old.1 p.reads in
      let it = both.each place (frame c d) i in
      record {
        findings = old.0 ++ both.extra;
        open_end = p.open_end;
        place = it.0;
        reading = both.reading;
        found = in_right (it.0, frame c d) old.0 both.extra it.1;
        in_this_pulse = omega (arith, it.2);
      }

  answered_now : (q : Inquiry) → Known q → (place c : ℕ) (d : List ℕ) → In (place, frame c d) p.findings → (q.copies ≡ 0 → ⊥) → lawful_answer c d ≡ true
      → AnswersRequest q.cmd q.sent c d 6 → WasRead 6 (h ▸ pulses line line_after) (slip_of b.mark q.number) d
  unfolding Known
  answered_now q known place c d i some lawful answers =
      let copy = known.copied some in
      record {
        cmd = q.cmd;
        sent = q.sent;
        before_lodging = copy.before_lodging;
        before_copy = copy.before_copy;
        before_answer = h;
        copy_line = copy.line;
        copy_line_after = copy.line_after;
        answer_line = line;
        answer_line_after = line_after;
        answer_cmd = c;
        replied = copy.replied;
        was_lodged = copy.was_lodged;
        copy_pulse = copy.copy_pulse;
        copy_put = copy.copy_put;
        answer_pulse = inl (refl, refl);
        answer_read = read_now place c d i;
        lawful = lawful;
        answers = answers;
      }

  start : (q : Inquiry) → Evidence h h (slip_of b.mark q.number) q → Known q
  unfolding Known
  start q x = record {
    before_lodging = x.before_lodging;
    was_lodged = x.was_lodged;
    copied = x.copied;
    rests = rests_map q.copies q.cmd q.stage (read_on h (pulses line line_after) (slip_of b.mark q.number)) x.rests;
  }

  restaged : (q : Inquiry) (now : Stage) → Known q → Rests (λ d. WasRead 6 (h ▸ pulses line line_after) (slip_of b.mark q.number) d) q.copies q.cmd now
      → Known (record { number = q.number; cmd = q.cmd; sent = q.sent; copies = q.copies; stage = now })
  unfolding Known
  restaged q now x r = record { before_lodging = x.before_lodging; was_lodged = x.was_lodged; copied = x.copied; rests = r }

  hears_known : (q : Inquiry) → Known q → Known (heard p.findings q)
  unfolding Known
  hears_known q x =
      restaged q _ x (hear_all_rests (λ d. WasRead 6 (h ▸ pulses line line_after) (slip_of b.mark q.number) d) q p.findings (answered_now q x) p.findings q.stage (λ y i. i) x.rests)

  ticks_known : (q : Inquiry) → Known q → Known (ticked q)
  unfolding Known
  ticks_known q x =
      restaged q _ x (tick_rests (λ d. WasRead 6 (h ▸ pulses line line_after) (slip_of b.mark q.number) d) q p.findings (answered_now q x) q.stage x.rests)

  begins_known : (o : Option Inquiry) (qs : List Inquiry) → AllByRecursion Known qs → AllByRecursion Known (begins_unless o qs)
  begins_known (Some q) qs a = a
  begins_known None qs a = change_all waits_still begun Known Known qs (λ q x. x) (λ q is x. restaged q (due 1) x tt) a

  three_known : AllByRecursion Known b.places → AllByRecursion Known (up_to_step_three p.findings b.places)
  three_known a =
      let one = change_all under_way (heard p.findings) Known Known b.places (λ q x. x) (λ q is x. hears_known q x) a in
      let two = change_all under_way ticked Known Known (hears p.findings b.places) (λ q x. x) (λ q is x. ticks_known q x) one in
      begins_known (first under_way (ends_periods (hears p.findings b.places))) (ends_periods (hears p.findings b.places)) two

  Proved : Inquiry → Type 0
  Proved q = Evidence (h ▸ pulses line line_after) (h ▸ pulses line line_after) (slip_of b.mark q.number) q

  finish : (q : Inquiry) → Known q → Proved q
  unfolding Known Proved
  finish q x = record {
    before_lodging = x.before_lodging;
    was_lodged = inr x.was_lodged;
    copied = λ some. copied_on h (pulses line line_after) (slip_of b.mark q.number) q.cmd q.sent (x.copied some);
    rests = x.rests;
  }

  -- the copy that this pulse put
  copy_now : (q : Inquiry) → Known q → first is_due (up_to_step_three p.findings b.places) ≡ Some q
      → has_space line.capacity (replies line.capacity p.findings line.outgoing) (written (own_frame q)) ≡ true
      → Copied (h ▸ pulses line line_after) (slip_of b.mark q.number) q.cmd q.sent
  unfolding Known
  copy_now q x is space =
      let out = replies line.capacity p.findings line.outgoing in
      let rs = replies_control line.capacity p.findings line.outgoing in
      record {
        before_lodging = x.before_lodging;
        before_copy = h;
        line = line;
        line_after = line_after;
        replied = all_written rs.0;
        was_lodged = x.was_lodged;
        copy_pulse = inl (refl, refl);
        copy_put = p.outgoing ∙ ap (λ o. put line.capacity out (due_frame o)) is ∙ cond-true _ _ _ space ∙ ap (λ l. l ++ written (own_frame q)) rs.1
            ∙ append_assoc line.outgoing (all_written rs.0) (written (own_frame q));
      }

  tries_proved : (q : Inquiry) → first is_due (up_to_step_three p.findings b.places) ≡ Some q → Known q
      → Proved (tries line.capacity (replies line.capacity p.findings line.outgoing) q)
  unfolding Known Proved
  tries_proved q is x =
      let out = replies line.capacity p.findings line.outgoing in
      let space = has_space line.capacity out (written (own_frame q)) in
      record {
        before_lodging = x.before_lodging;
        was_lodged = inr x.was_lodged;
        copied = λ some. ⊎_elim (λ e. copy_now q x is e)
            (λ e. copied_on h (pulses line line_after) (slip_of b.mark q.number) q.cmd q.sent (x.copied (λ zero. some (uncounted space q.stage q.copies e ∙ zero))))
            (cases_Bool space);
        rests = opened_rests (λ d. WasRead 6 (h ▸ pulses line line_after) (slip_of b.mark q.number) d) space q.copies q.cmd q.stage x.rests;
      }

  pub pulse_evidence : AllByRecursion (λ q. Evidence h h (slip_of b.mark q.number) q) b.places
      → AllByRecursion (λ q. Evidence (h ▸ pulses line line_after) (h ▸ pulses line line_after) (slip_of s.mark q.number) q) s.places
  unfolding Known Proved
  pulse_evidence a =
      let out = replies line.capacity p.findings line.outgoing in
      let known = three_known (all_map start b.places a) in
      let final = change_all is_due (tries line.capacity out) Known Proved (up_to_step_three p.findings b.places) finish tries_proved known in
      let P : ℕ → Inquiry → Type 0 = λ m q. Evidence (h ▸ pulses line line_after) (h ▸ pulses line line_after) (slip_of m q.number) q in
      subst (λ m. AllByRecursion (P m) s.places) (sym p.mark) (subst (AllByRecursion (P b.mark)) (sym p.places) final)
