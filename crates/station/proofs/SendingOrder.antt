-- The books are kept through every call, and so requests go out in the order lodged.
use Rattle.std.proofs.Common.{◌≡◌, ℕ, ◌≤◌, false, List, [], ◌∷◌, ◌++◌, map, length, Some, None, Ok, Err, Option, Result, sym, refl, ap, ◌∙◌, subst, inl, inr, append_assoc, append-nil, arith}
use Rattle.std.specs.List.{AllByRecursion}
use Rattle.std.proofs.lemmas.List.{map-append}
use Rattle.station.specs.declared.refusal.Refusal.{Refusal}
use Rattle.station.specs.Commands.{request_cause}
use Rattle.station.specs.Inquiries.{Outcome, Inquiry, Frame, has_ended}
use Rattle.station.specs.Stations.{Slip, Station, new_inquiry, by_room, lodge_cause, lodge_after, lodge_answer, without, held_under, collect_after}
use Rattle.station.specs.Histories.{Event, lodges, pulses, collects, History, made, ◌▸◌, Run, Step, Handed}
use Rattle.station.specs.Promises.{Always, In, Puts, is_control, lodgings, Tally, all_copies, SendsInOrder}
use Rattle.station.proofs.Turns.{Over, all_join}
use Rattle.station.proofs.Numbers.{all_without, all_in, held_number, remove_past}
use Rattle.station.proofs.Lookups.{in_left}
use Rattle.station.proofs.Asking.{Had, had, collected, lodge_mark, collect_mark}
use Rattle.station.proofs.Invariants.{queue_push}
use Rattle.station.proofs.Slips.{slip_of, same_slip}
use Rattle.station.proofs.Copies.{at_most_four, request_plain}
use Rattle.station.proofs.Books.{tally_of, tallies, Sound, Books, copies_join, tallies_join}
use Rattle.station.proofs.Bookkeeping.{pulse_books}

-- a call that neither lodges nor puts nor hands anything out
carried : (h later : History) (mark : ℕ) (places : List Inquiry) → ((frames : List Frame) → Puts h frames → Puts later frames) → lodgings later ≡ lodgings h
    → ((slip : Slip) (o : Outcome) → Handed slip o later → Handed slip o h) → Books h mark places → Books later mark places
carried h later mark places puts lodged handed books = record {
  frames = books.frames;
  puts = puts books.frames books.puts;
  done = books.done;
  past = books.past;
  queue = books.queue;
  split = books.split;
  over = books.over;
  queued = books.queued;
  sound = books.sound;
  few = books.few;
  entered = books.entered;
  lodged = lodged ∙ books.lodged;
  sent = books.sent;
  handed = λ slip o was. books.handed slip o (handed slip o was);
}

not_handed : (h : History) (e : Event) → ((slip : Slip) (memory : ℕ) (o : Outcome) → collects slip memory (Ok o) ≡ e → ⊥) → (slip : Slip) (o : Outcome) → Handed slip o (h ▸ e) → Handed slip o h
not_handed h e never slip o (earlier, memory, inl (at, is)) = absurd (never slip memory o is)
not_handed h e never slip o (earlier, memory, inr at) = (earlier, memory, at)

room_none : (b : Station) (o : Option Refusal) → by_room b o ≡ None → o ≡ None
room_none b None e = refl
room_none b (Some r) e = e

lodge_books : (h : History) (b : Station) (c : ℕ) (d : List ℕ) (o : Option Refusal) → (o ≡ None → is_control (record { cmd = c; body = d }) ≡ false) → Books h b.mark b.places
    → Books (h ▸ lodges c d (lodge_answer b o)) b.mark (lodge_after b c d o).places
lodge_books h b c d (Some r) plain books =
    carried h (h ▸ lodges c d (Err r)) b.mark b.places (λ frames puts. puts) refl (not_handed h (lodges c d (Err r)) (λ slip memory o e. let z : ◌≡◌ {A = ℕ} 0 1 = cc in omega arith)) books
lodge_books h b c d None plain books =
    let new = new_inquiry b.next c d in
    let t = tally_of b.mark new in
    let more = ap (λ l. books.done ++ l) (tallies_join b.mark books.queue (new ∷ [])) ∙ sym (append_assoc books.done (tallies b.mark books.queue) (t ∷ [])) in
    record {
      frames = books.frames;
      puts = books.puts;
      done = books.done;
      past = books.past;
      queue = books.queue ++ (new ∷ []);
      split = ap (λ l. l ++ (new ∷ [])) books.split ∙ append_assoc books.past books.queue (new ∷ []);
      over = books.over;
      queued = queue_push books.queue new books.queued (refl, refl);
      sound = all_join Sound books.queue (new ∷ []) books.sound ((omega arith, plain refl), tt);
      few = books.few;
      entered = books.entered;
      lodged = ap (λ l. l ++ (t.lodging ∷ [])) books.lodged ∙ sym (map-append _ (books.done ++ tallies b.mark books.queue) (t ∷ [])) ∙ ap (map (λ x. x.lodging)) (sym more);
      sent = books.sent ∙ sym (append-nil _) ∙ sym (copies_join (books.done ++ tallies b.mark books.queue) (t ∷ [])) ∙ ap all_copies (sym more);
      handed = λ slip o was. books.handed slip o (not_handed h _ (λ slip memory o e. let z : ◌≡◌ {A = ℕ} 0 1 = cc in omega arith) slip o was);
    }

collect_books : (h : History) (b : Station) (slip : Slip) (memory : ℕ) (r : Result Outcome Refusal) → ((o : Outcome) → r ≡ Ok o → Had b slip o) → Books h b.mark b.places
    → Books (h ▸ collects slip memory r) b.mark (collect_after b slip r).places
collect_books h b slip memory (Err r) has books =
    carried h (h ▸ collects slip memory (Err r)) b.mark b.places (λ frames puts. puts) refl (not_handed h (collects slip memory (Err r)) (λ slip memory o e. let z : ◌≡◌ {A = ℕ} 0 1 = cc in omega arith)) books
collect_books h b slip memory (Ok o) has books = record {
  frames = books.frames;
  puts = books.puts;
  done = books.done;
  past = without slip.number books.past;
  queue = books.queue;
  split = ap (without slip.number) books.split ∙ removed.0;
  over = all_without Over slip.number books.past books.over;
  queued = books.queued;
  sound = books.sound;
  few = books.few;
  entered = all_without (λ q. In (tally_of b.mark q) books.done) slip.number books.past books.entered;
  lodged = books.lodged;
  sent = books.sent;
  handed = by_handed;
}
  where
    removed : (without slip.number (books.past ++ books.queue) ≡ without slip.number books.past ++ books.queue) × In (has o refl).inquiry books.past
    removed =
        remove_past slip.number books.past books.queue (has o refl).inquiry books.queued
        (subst (λ l. held_under slip.number l ≡ Some (has o refl).inquiry) books.split (has o refl).held) (ap has_ended (has o refl).at)

    by_handed : (x : Slip) (v : Outcome) → Handed x v (h ▸ collects slip memory (Ok o)) → (t : Tally) × In t books.done × (t.lodging.slip ≡ x) × (t.copies ≡ v.copies)
    by_handed x v (earlier, m, inr at) = books.handed x v (earlier, m, at)
    by_handed x v (earlier, m, inl (at, is)) =
        let q = (has o refl).inquiry in
        let slips_same : slip ≡ x = cc in
        let outcomes_same : o ≡ v = cc in
        let number = (held_number slip.number b.places q (has o refl).held).0 in (
          tally_of b.mark q,
          all_in (λ y. In (tally_of b.mark y) books.done) books.past q books.entered removed.1,
          same_slip (slip_of b.mark q.number) slip (sym (has o refl).own) number ∙ slips_same,
          (has o refl).copies ∙ ap (λ y. y.copies) outcomes_same,
        )

step_books : (h : History) (b s : Station) (e : Event) → Step b e s → Books h b.mark b.places → Books (h ▸ e) s.mark s.places
step_books h b s (lodges c d answer) (a, e) books =
    let o = lodge_cause b c d in
    subst (λ t. Books (h ▸ lodges c d answer) t.mark t.places) (sym e)
    (subst (λ m. Books (h ▸ lodges c d answer) m (lodge_after b c d o).places) (sym (lodge_mark b c d o))
    (subst (λ r. Books (h ▸ lodges c d r) b.mark (lodge_after b c d o).places) (sym a)
    (lodge_books h b c d o (λ none. request_plain c d (room_none b (request_cause c (length d)) none)) books)))
step_books h b s (pulses line line_after) p books = subst (λ m. Books (h ▸ pulses line line_after) m s.places) (sym p.mark) (pulse_books h b s line line_after books p)
step_books h b s (collects slip memory answer) (a, e) books =
    subst (λ t. Books (h ▸ collects slip memory answer) t.mark t.places) (sym e)
    (subst (λ m. Books (h ▸ collects slip memory answer) m (collect_after b slip answer).places) (sym (collect_mark b slip answer))
    (collect_books h b slip memory answer (λ o is. had b slip o (collected b slip memory o (sym is ∙ a))) books))

books_of : (h : History) (s : Station) → Run h s → Books h s.mark s.places
books_of (made m n) s e =
    subst (λ t. Books (made m n) t.mark t.places) (sym e)
    (record {
      frames = [];
      puts = refl;
      done = [];
      past = [];
      queue = [];
      split = refl;
      over = tt;
      queued = tt;
      sound = tt;
      few = tt;
      entered = tt;
      lodged = refl;
      sent = refl;
      handed = λ slip o was. absurd was.2;
    })
books_of (h ▸ e) s (b, run, step) = step_books h b s e step (books_of h b run)

few_queued : (mark : ℕ) (qs : List Inquiry) → AllByRecursion Sound qs → AllByRecursion (λ t. t.copies ≤ 4) (tallies mark qs)
few_queued mark [] a = tt
few_queued mark (q ∷ qs) a = (at_most_four q.stage q.copies a.0.0, few_queued mark qs a.1)

pub sends_in_order : Always (SendsInOrder 4)
sends_in_order h (s, run) =
    let books = books_of h s run in
    let rest = tallies s.mark books.queue in
    record {
      frames = books.frames;
      puts = books.puts;
      tally = books.done ++ rest;
      all_lodged = books.lodged;
      in_order = books.sent;
      at_most = all_join (λ t. t.copies ≤ 4) books.done rest books.few (few_queued s.mark books.queue books.sound);
      counted = λ slip o was. let it = books.handed slip o was in (it.0, in_left it.0 books.done rest it.1, it.2, it.3);
    }
