-- What an inquiry's stage rests on: its lodging, the copy put, and the frame that answered it.
use Rattle.std.proofs.Common.{◌≡◌, ℕ, Bool, true, leb, List, [], ◌∷◌, ◌++◌, Ok, sym, refl, subst, inl, inr}
use Rattle.std.proofs.lemmas.Bool.{cond_both}
use Rattle.frames.specs.Finding.{Found, frame}
use Rattle.lines.specs.Meaning.{Meaning}
use Rattle.station.specs.Commands.{lawful_answer}
use Rattle.station.specs.Inquiries.{answered, failed, Stage, waiting, due, acknowledging, answering, receiving, ended, Inquiry, written}
use Rattle.station.specs.Exchange.{hear, hear_all, tick, opened, counted}
use Rattle.station.specs.Stations.{Slip}
use Rattle.station.specs.Histories.{Event, lodges, pulses, History, ◌▸◌, Occurs}
use Rattle.station.specs.Promises.{In, AnswersRequest, awaited, by_radio, WasRead}
use Rattle.station.proofs.Hearing.{FailsAt, again, gives_up, after_cases, Hears, same, acknowledged, refused, cut_off, goes_by_radio, gets_answer, gets_radio, hear_cases}

-- a pulse after the lodging put a copy
pub record Copied (h : History) (slip : Slip) (cmd : ℕ) (sent : List ℕ) : Type 0 where
  pub before_lodging : History
  pub before_copy : History
  pub line : Meaning
  pub line_after : Meaning
  pub replied : List ℕ
  pub was_lodged : Occurs before_lodging (lodges cmd sent (Ok slip)) before_copy
  pub copy_pulse : Occurs before_copy (pulses line line_after) h
  pub copy_put : line_after.outgoing ≡ line.outgoing ++ (replied ++ written (record { cmd = cmd; body = sent }))

-- what a stage rests on, where P says what an answer does
abbrev pub Rests : (List ℕ → Type 0) → ℕ → ℕ → Stage → Type 0
Rests P copies cmd waiting = Unit {0}
Rests P copies cmd (due k) = Unit {0}
Rests P copies cmd (acknowledging k left) = Unit {0}
Rests P copies cmd (answering left) = copies ≡ 0 → ⊥
Rests P copies cmd (receiving left) = (copies ≡ 0 → ⊥) × (cmd ≡ 0x20)
Rests P copies cmd (ended (answered d)) = P d
Rests P copies cmd (ended (failed f)) = Unit {0}

-- lodged and copied in the one history, and answered in the other
pub record Evidence (h whole : History) (slip : Slip) (q : Inquiry) : Type 0 where
  pub before_lodging : History
  pub was_lodged : Occurs before_lodging (lodges q.cmd q.sent (Ok slip)) h
  pub copied : (q.copies ≡ 0 → ⊥) → Copied h slip q.cmd q.sent
  pub rests : Rests (λ d. WasRead 6 whole slip d) q.copies q.cmd q.stage

pub rests_map : {P Q : List ℕ → Type 0} (copies cmd : ℕ) (now : Stage) → ((d : List ℕ) → P d → Q d) → Rests P copies cmd now → Rests Q copies cmd now
rests_map copies cmd waiting f r = tt
rests_map copies cmd (due k) f r = tt
rests_map copies cmd (acknowledging k left) f r = tt
rests_map copies cmd (answering left) f r = r
rests_map copies cmd (receiving left) f r = r
rests_map copies cmd (ended (answered d)) f r = f d r
rests_map copies cmd (ended (failed x)) f r = tt

pub read_on : (h : History) (e : Event) (slip : Slip) (d : List ℕ) → WasRead 6 h slip d → WasRead 6 (h ▸ e) slip d
read_on h e slip d r = record {
  cmd = r.cmd;
  sent = r.sent;
  before_lodging = r.before_lodging;
  before_copy = r.before_copy;
  before_answer = r.before_answer;
  copy_line = r.copy_line;
  copy_line_after = r.copy_line_after;
  answer_line = r.answer_line;
  answer_line_after = r.answer_line_after;
  answer_cmd = r.answer_cmd;
  replied = r.replied;
  was_lodged = r.was_lodged;
  copy_pulse = r.copy_pulse;
  copy_put = r.copy_put;
  answer_pulse = inr r.answer_pulse;
  answer_read = r.answer_read;
  lawful = r.lawful;
  answers = r.answers;
}

pub copied_on : (h : History) (e : Event) (slip : Slip) (cmd : ℕ) (sent : List ℕ) → Copied h slip cmd sent → Copied (h ▸ e) slip cmd sent
copied_on h e slip cmd sent c = record {
  before_lodging = c.before_lodging;
  before_copy = c.before_copy;
  line = c.line;
  line_after = c.line_after;
  replied = c.replied;
  was_lodged = c.was_lodged;
  copy_pulse = inr c.copy_pulse;
  copy_put = c.copy_put;
}

pub evidence_on : (h : History) (e : Event) (slip : Slip) (q : Inquiry) → Evidence h h slip q → Evidence (h ▸ e) (h ▸ e) slip q
evidence_on h e slip q x = record {
  before_lodging = x.before_lodging;
  was_lodged = inr x.was_lodged;
  copied = λ some. copied_on h e slip q.cmd q.sent (x.copied some);
  rests = rests_map q.copies q.cmd q.stage (read_on h e slip) x.rests;
}

module _ (P : List ℕ → Type 0) (q : Inquiry) (all : List (ℕ × Found))
    (reads : (place c : ℕ) (d : List ℕ) → In (place, frame c d) all → (q.copies ≡ 0 → ⊥) → lawful_answer c d ≡ true → AnswersRequest q.cmd q.sent c d 6 → P d) where
  fails_rests : (k : ℕ) {now : Stage} → FailsAt k now → Rests P q.copies q.cmd now
  fails_rests k (again lt e) = subst (Rests P q.copies q.cmd) (sym e) tt
  fails_rests k (gives_up f e) = subst (Rests P q.copies q.cmd) (sym e) tt

  heard_rests : (place : ℕ) {v : Found} {now later : Stage} → In (place, v) all → Hears q v now later → Rests P q.copies q.cmd now → Rests P q.copies q.cmd later
  heard_rests place i (same e) r = subst (Rests P q.copies q.cmd) (sym e) r
  heard_rests place i (acknowledged k left e some f) r = subst (Rests P q.copies q.cmd) (sym f) some
  heard_rests place i (refused k left e some f g) r = fails_rests k f
  heard_rests place i (cut_off k left e some f) r = subst (Rests P q.copies q.cmd) (sym f) tt
  heard_rests place i (goes_by_radio left e is f) r = subst (Rests P q.copies q.cmd) (sym f) (subst (Rests P q.copies q.cmd) e r, is)
  heard_rests place i (gets_answer left c d e is answers lawful apart f) r =
      subst (Rests P q.copies q.cmd) (sym f)
      (reads place c d (subst (λ x. In (place, x) all) is i) (subst (Rests P q.copies q.cmd) e r) lawful (awaited answers apart))
  heard_rests place i (gets_radio left c d e is answers lawful from f) r =
      let here = subst (Rests P q.copies q.cmd) e r in
      subst (Rests P q.copies q.cmd) (sym f) (reads place c d (subst (λ x. In (place, x) all) is i) here.0 lawful (by_radio here.1 answers from))

  pub hear_all_rests : (fs : List (ℕ × Found)) (now : Stage) → ((x : ℕ × Found) → In x fs → In x all) → Rests P q.copies q.cmd now → Rests P q.copies q.cmd (hear_all q fs now)
  hear_all_rests [] now some r = r
  hear_all_rests ((place, v) ∷ fs) now some r = hear_all_rests fs (hear q v now) (λ x i. some x (inr i)) (heard_rests place (some (place, v) (inl refl)) (hear_cases q v now) r)

  pub tick_rests : (now : Stage) → Rests P q.copies q.cmd now → Rests P q.copies q.cmd (tick q.copies now)
  tick_rests waiting r = tt
  tick_rests (due k) r = tt
  tick_rests (acknowledging k left) r = cond_both (leb left 1) _ _ (Rests P q.copies q.cmd) (λ e. fails_rests k (after_cases q.copies k)) (λ e. tt)
  tick_rests (answering left) r = cond_both (leb left 1) _ _ (Rests P q.copies q.cmd) (λ e. tt) (λ e. r)
  tick_rests (receiving left) r = cond_both (leb left 1) _ _ (Rests P q.copies q.cmd) (λ e. tt) (λ e. r)
  tick_rests (ended (answered d)) r = r
  tick_rests (ended (failed f)) r = tt

pub opened_rests : (P : List ℕ → Type 0) (b : Bool) (copies cmd : ℕ) (now : Stage) → Rests P copies cmd now → Rests P (counted b now copies) cmd (opened now)
opened_rests P b copies cmd waiting r = tt
opened_rests P b copies cmd (due k) r = tt
opened_rests P b copies cmd (acknowledging k left) r = tt
opened_rests P b copies cmd (answering left) r = r
opened_rests P b copies cmd (receiving left) r = r
opened_rests P b copies cmd (ended (answered d)) r = r
opened_rests P b copies cmd (ended (failed f)) r = tt
