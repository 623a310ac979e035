-- Handling findings one after another is handling all that the bytes hold.
use Rattle.std.proofs.lemmas.List.{nil_from_length}
use Rattle.std.proofs.Common.{◌≡◌, ℕ, ◌+◌, List, [], ◌∷◌, ◌++◌, false, cond, length, take, drop, Some, sym, refl, ap, ◌∙◌, subst, append_assoc, append-nil, arith, take-append-drop}
use Rattle.frames.specs.declared.finding.Finding.{Finding}
use Rattle.frames.specs.declared.finding.Finding.TheVariants.{Frame, Dropped}
use Rattle.frames.specs.declared.frame.Frame as rust
use Rattle.frames.specs.Reading.{thing}
use Rattle.frames.specs.Finding.{Found, frame, dropped, Begun}
use Rattle.frames.specs.Promises.{Reading, CutAnywhere}
use Rattle.frames.proofs.Holding.{waits_held}
use Rattle.lines.specs.Meaning.{Meaning}
use Rattle.station.specs.Inquiries as rules
use Rattle.station.specs.Inquiries.{Stage, waiting, due, acknowledging, answering, receiving, ended, at_stage, under_way}
use Rattle.station.specs.Exchange.{hear, hear_all, heard, reply}
use Rattle.station.specs.Stations as rules_of
use Rattle.std.proofs.lemmas.Bool.{cond_both, cond-true, cond-false}
use Rattle.station.specs.Stations.{change, hears, put, replies, taken, unless_silent}
use Rattle.station.specs.Intakes.{Drained}
use Rattle.station.specs.Tables.{OneAtATime}
use Rattle.station.specs.Steps.{hears_one}
use Rattle.station.specs.Working.{Handled, Heard}
use Rattle.station.proofs.Firsts.{none_changes}

-- What a frame does to an inquiry goes by its command, data and copies, whatever stage it is put at.
hear_kept : (q : rules.Inquiry) (s : Stage) (v : Found) (now : Stage) → hear (at_stage q s) v now ≡ hear q v now
hear_kept q s (dropped cause n) now = refl
hear_kept q s (frame c d) waiting = refl
hear_kept q s (frame c d) (due k) = refl
hear_kept q s (frame c d) (acknowledging k left) = refl
hear_kept q s (frame c d) (answering left) = refl
hear_kept q s (frame c d) (receiving left) = refl
hear_kept q s (frame c d) (ended e) = refl

hear_last : (q : rules.Inquiry) (fs : List (ℕ × Found)) (p : ℕ) (v : Found) (now : Stage) → hear_all q (fs ++ ((p, v) ∷ [])) now ≡ hear q v (hear_all q fs now)
hear_last q [] p v now = refl
hear_last q ((place, w) ∷ fs) p v now = hear_last q fs p v (hear q w now)

heard_more : (fs : List (ℕ × Found)) (p : ℕ) (v : Found) (q : rules.Inquiry) → heard (fs ++ ((p, v) ∷ [])) q ≡ hears_one (heard fs q) v
heard_more fs p v q =
    let s = hear_all q fs q.stage in
    ap (at_stage q) (hear_last q fs p v q.stage ∙ sym (hear_kept q s v s))

-- What is not under way hears nothing.
unheard_at_rest : (q : rules.Inquiry) (v : Found) (now : Stage) → under_way now ≡ false → hear q v now ≡ now
unheard_at_rest q (dropped cause n) now e = refl
unheard_at_rest q (frame c d) waiting e = refl
unheard_at_rest q (frame c d) (due k) e = refl
unheard_at_rest q (frame c d) (acknowledging k left) e = absurd (let z : ◌≡◌ {A = ℕ} 0 1 = cc in omega arith)
unheard_at_rest q (frame c d) (answering left) e = absurd (let z : ◌≡◌ {A = ℕ} 0 1 = cc in omega arith)
unheard_at_rest q (frame c d) (receiving left) e = absurd (let z : ◌≡◌ {A = ℕ} 0 1 = cc in omega arith)
unheard_at_rest q (frame c d) (ended x) e = refl

-- One finding more is heard by the inquiry that was under way, for no other is.
hears_more : (fs : List (ℕ × Found)) (p : ℕ) (v : Found) (qs : List rules.Inquiry) → OneAtATime qs
    → change under_way (λ q. hears_one q v) (change under_way (heard fs) qs) ≡ change under_way (heard (fs ++ ((p, v) ∷ []))) qs
hears_more fs p v [] a = refl
hears_more fs p v (q ∷ qs) a =
    let now = heard fs q in
    let one : rules.Inquiry → rules.Inquiry = λ x. hears_one x v in
    cond_both (under_way q.stage) (now ∷ qs) (q ∷ change under_way (heard fs) qs)
    (λ l. change under_way one l ≡ cond (under_way q.stage) (heard (fs ++ ((p, v) ∷ [])) q ∷ qs) (q ∷ change under_way (heard (fs ++ ((p, v) ∷ []))) qs))
    (λ t. cond_both (under_way now.stage) (one now ∷ qs) (now ∷ change under_way one qs) (λ l. l ≡ one now ∷ qs)
    (λ u. refl) (λ u. (λ i. sym (ap (at_stage now) (unheard_at_rest now v now.stage u)) i ∷ sym (none_changes under_way one qs (a.0 t)) i))
    ∙ ap (λ x. x ∷ qs) (sym (heard_more fs p v q)) ∙ sym (cond-true (under_way q.stage) _ _ t))
    (λ t. cond-false (under_way q.stage) (one q ∷ change under_way (heard fs) qs) _ t ∙ ap (λ l. q ∷ l) (hears_more fs p v qs a.1) ∙ sym (cond-false (under_way q.stage) _ _ t))

replies_more : (capacity : ℕ) (fs : List (ℕ × Found)) (p : ℕ) (v : Found) (outgoing : List ℕ)
    → replies capacity (fs ++ ((p, v) ∷ [])) outgoing ≡ put capacity (replies capacity fs outgoing) (reply v)
replies_more capacity [] p v outgoing = refl
replies_more capacity ((place, w) ∷ fs) p v outgoing = replies_more capacity fs p v (put capacity outgoing (reply w))

changes_none : (qs : List rules.Inquiry) → change under_way (heard []) qs ≡ qs
changes_none [] = refl
changes_none (q ∷ qs) = cond_both (under_way q.stage) (heard [] q ∷ qs) (q ∷ change under_way (heard []) qs) (λ l. l ≡ q ∷ qs) (λ t. refl) (λ t. ap (λ l. q ∷ l) (changes_none qs))

-- What was found and handled so far, from where the reading started.
pub record SoHeard (start : rules_of.Station) (line : Meaning) (all unread : List ℕ) (now : rules_of.Station) (line_now : Meaning) : Type 0 where
  pub findings : List (ℕ × Found)
  pub done : List ℕ
  pub split : done ++ unread ≡ all
  pub reads : Reading 0 (start.held ++ done) findings now.held
  pub places : now.places ≡ hears findings start.places
  pub mark : now.mark ≡ start.mark
  pub next : now.next ≡ start.next
  pub outgoing : line_now.outgoing ≡ replies line.capacity findings line.outgoing
  pub waiting : line_now.waiting ≡ line.waiting
  pub capacity : line_now.capacity ≡ line.capacity

pub none_heard : (start : rules_of.Station) (line : Meaning) (all : List ℕ) → Begun start.held → SoHeard start line all all start line
none_heard start line all begun =
    record {
      findings = [];
      done = [];
      split = refl;
      reads = subst (λ l. Reading 0 l [] start.held) (sym (append-nil start.held)) (waits_held begun);
      places = sym (changes_none start.places);
      mark = refl;
      next = refl;
      outgoing = refl;
      waiting = refl;
      capacity = refl;
    }

not_silent : (bytes held : List ℕ) → (length bytes ≡ 0 → ⊥) → unless_silent bytes held ≡ held
not_silent [] held e = absurd (e refl)
not_silent (b ∷ bytes) held e = refl

module _ (start : rules_of.Station) (line : Meaning) (all unread : List ℕ) (now : rules_of.Station) (line_now : Meaning)
    (used : ℕ) (read : rules_of.Station) (alone : OneAtATime start.places) (so : SoHeard start line all unread now line_now)
    (same_places : read.places ≡ now.places) (same_mark : read.mark ≡ now.mark) (same_next : read.next ≡ now.next) where
  -- The bytes read on join those done.
  joined : (so.done ++ take used unread) ++ drop used unread ≡ all
  joined = append_assoc so.done (take used unread) (drop used unread) ∙ ap (λ l. so.done ++ l) (take-append-drop used unread) ∙ so.split

  -- One finding more.
  pub one_heard : (v : Found) (after : rules_of.Station) (line_after : Meaning) → CutAnywhere now.held unread (Some v) used read.held
      → Handled v read after line_now line_after → SoHeard start line all (drop used unread) after line_after
  one_heard v after line_after cut h =
      let fs = so.findings in
      let bytes = start.held ++ so.done in
      let place = length bytes + used in
      record {
        findings = fs ++ ((place, v) ∷ []);
        done = so.done ++ take used unread;
        split = joined;
        reads = subst (Reading 0 (start.held ++ (so.done ++ take used unread)) (fs ++ ((place, v) ∷ []))) (ap (λ s. s.held) (sym h.station))
            (subst (λ l. Reading 0 l (fs ++ ((place, v) ∷ [])) read.held) (append_assoc start.held so.done (take used unread)) (cut bytes fs so.reads));
        places = ap (λ s. s.places) h.station ∙ ap (change under_way (λ q. hears_one q v)) (same_places ∙ so.places) ∙ hears_more fs place v start.places alone;
        mark = ap (λ s. s.mark) h.station ∙ same_mark ∙ so.mark;
        next = ap (λ s. s.next) h.station ∙ same_next ∙ so.next;
        outgoing = h.puts.outgoing ∙ (λ i. put (so.capacity i) (so.outgoing i) (reply v)) ∙ sym (replies_more line.capacity fs place v line.outgoing);
        waiting = h.puts.waiting ∙ so.waiting;
        capacity = h.puts.capacity ∙ so.capacity;
      }

-- What is no frame leaves an inquiry as it is.
pub none_unheard : (v : Finding) → ((f : rust.Frame) → v ≡ Frame f → ⊥) → (qs : List rules.Inquiry) → qs ≡ change under_way (λ q. hears_one q (thing v)) qs
none_unheard (Frame f) other qs = absurd (other f refl)
none_unheard (Dropped cause size) other qs = sym (changes_none qs)

-- In a silence nothing is found, and the reader forgets what it held.
pub none_taken : (before after : rules_of.Station) (line line_after : Meaning) → Begun before.held → length (taken line) ≡ 0 → after.held ≡ []
    → after.places ≡ before.places → after.mark ≡ before.mark → after.next ≡ before.next → Drained line line_after → Heard before after line line_after
none_taken before after line line_after begun none forgot same_places same_mark same_next drained =
    let silent : taken line ≡ [] = nil_from_length (taken line) none in
    record {
      findings = [];
      open_end = before.held;
      reads = subst (λ l. Reading 0 (before.held ++ l) [] before.held) (sym silent) (subst (λ l. Reading 0 l [] before.held) (sym (append-nil before.held)) (waits_held begun));
      held = forgot ∙ ap (λ l. unless_silent l before.held) (sym silent);
      places = same_places ∙ sym (changes_none before.places);
      mark = same_mark;
      next = same_next;
      outgoing = drained.outgoing;
      waiting = drained.waiting;
      capacity = drained.capacity;
    }

-- All was read: this is step 1.
pub all_heard : (before after : rules_of.Station) (line line_start line_after : Meaning) (unread all : List ℕ)
    → length unread ≡ 0 → all ≡ taken line → (length all ≡ 0 → ⊥) → Drained line line_start
    → SoHeard before line_start all unread after line_after → Heard before after line line_after
all_heard before after line line_start line_after [] all over is_all some drained so =
    let done : so.done ≡ taken line = sym (append-nil so.done) ∙ so.split ∙ is_all in
    record {
      findings = so.findings;
      open_end = after.held;
      reads = subst (λ l. Reading 0 (before.held ++ l) so.findings after.held) done so.reads;
      held = sym (not_silent (taken line) after.held (λ e. some (ap length is_all ∙ e)));
      places = so.places;
      mark = so.mark;
      next = so.next;
      outgoing = so.outgoing ∙ (λ i. replies (drained.capacity i) so.findings (drained.outgoing i));
      waiting = so.waiting ∙ drained.waiting;
      capacity = so.capacity ∙ drained.capacity;
    }
all_heard before after line line_start line_after (b ∷ unread) all over is_all some drained so = absurd (omega arith)
