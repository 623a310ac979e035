-- The ways in which a finding or a period's end moves one inquiry.
use Rattle.std.proofs.Common.{◌≡◌, ℕ, ◌+◌, ◌<◌, true, false, ◌&&◌, eqb, ltb, List, get_or, take, refl, ⊎_elim}
use Rattle.std.specs.Str.{bytes_eq}
use Rattle.std.proofs.lemmas.Slice.Eq.{bytes_eq-Decides}
use Rattle.std.proofs.lemmas.Bool.{cond_both, and_parts, and_cases, eqb-true, eqb-false, ltb-true}
use Rattle.frames.specs.Finding.{Found, frame, dropped}
use Rattle.station.specs.declared.fault.Fault.{Fault}
use Rattle.station.specs.declared.fault.Fault.TheVariants.{ErrorReply}
use Rattle.station.specs.Commands.{answer_of, radio_answer, lawful_answer}
use Rattle.station.specs.Inquiries.{answered, failed, Stage, waiting, due, acknowledging, answering, receiving, ended, Inquiry}
use Rattle.station.specs.Exchange.{ack, nak, error, is, after_attempt, hear, answer_pulses, radio_pulses, most_attempts}

-- a failed attempt is followed by the next, or by the end
pub data FailsAt (k : ℕ) (now : Stage) : Type 0 where
  again : k < most_attempts → now ≡ due (k + 1) → FailsAt k now
  gives_up : (f : Fault) → now ≡ ended (failed f) → FailsAt k now

pub after_cases : (copies k : ℕ) → FailsAt k (after_attempt copies k)
after_cases copies k = cond_both (ltb k most_attempts) _ _ (FailsAt k) (λ e. again (ltb-true k most_attempts e) refl) (λ e. gives_up _ refl)

-- what a finding makes of an inquiry's stage
pub data Hears (q : Inquiry) (v : Found) (now later : Stage) : Type 0 where
  same : later ≡ now → Hears q v now later
  acknowledged : (k left : ℕ) → now ≡ acknowledging k left → (q.copies ≡ 0 → ⊥) → later ≡ answering answer_pulses → Hears q v now later
  refused : (k left : ℕ) → now ≡ acknowledging k left → (q.copies ≡ 0 → ⊥) → FailsAt k later → later ≡ after_attempt q.copies k → Hears q v now later
  cut_off : (k left : ℕ) → now ≡ acknowledging k left → (q.copies ≡ 0 → ⊥) → later ≡ ended (failed ErrorReply) → Hears q v now later
  goes_by_radio : (left : ℕ) → now ≡ answering left → q.cmd ≡ 0x20 → later ≡ receiving radio_pulses → Hears q v now later
  gets_answer : (left c : ℕ) (d : List ℕ) → now ≡ answering left → v ≡ frame c d → c ≡ answer_of q.cmd → lawful_answer c d ≡ true
      → (q.cmd ≡ 0x20 → get_or d 0 0 ≡ 0 → ⊥) → later ≡ ended (answered d) → Hears q v now later
  gets_radio : (left c : ℕ) (d : List ℕ) → now ≡ receiving left → v ≡ frame c d → c ≡ radio_answer → lawful_answer c d ≡ true
      → take 6 d ≡ take 6 q.sent → later ≡ ended (answered d) → Hears q v now later

not_both : (cmd : ℕ) (d : List ℕ) → (eqb cmd 0x20 && eqb (get_or d 0 0) 0) ≡ false → cmd ≡ 0x20 → get_or d 0 0 ≡ 0 → ⊥
not_both cmd d e f g =
    ⊎_elim (λ x. eqb-false cmd 0x20 x f) (λ x. eqb-false (get_or d 0 0) 0 x g) (and_cases (eqb cmd 0x20) (eqb (get_or d 0 0) 0) e)

pub hear_cases : (q : Inquiry) (v : Found) (now : Stage) → Hears q v now (hear q v now)
hear_cases q (dropped cause n) now = same refl
hear_cases q (frame c d) waiting = same refl
hear_cases q (frame c d) (due k) = same refl
hear_cases q (frame c d) (acknowledging k left) =
    let P : Stage → Type 0 = Hears q (frame c d) (acknowledging k left) in
    cond_both (eqb q.copies 0) _ _ P (λ e. same refl)
    (λ some. let put = eqb-false q.copies 0 some in
    cond_both (is ack c d) _ _ P (λ e. acknowledged k left refl put refl)
    (λ e. cond_both (is nak c d) _ _ P (λ f. refused k left refl put (after_cases q.copies k) refl)
    (λ f. cond_both (is error c d) _ _ P (λ g. cut_off k left refl put refl) (λ g. same refl))))
hear_cases q (frame c d) (answering left) =
    let P : Stage → Type 0 = Hears q (frame c d) (answering left) in
    cond_both (eqb c (answer_of q.cmd) && lawful_answer c d) _ _ P
    (λ e. let both = and_parts (eqb c (answer_of q.cmd)) (lawful_answer c d) e in
    cond_both (eqb q.cmd 0x20 && eqb (get_or d 0 0) 0) _ _ P
    (λ f. goes_by_radio left refl (eqb-true q.cmd 0x20 (and_parts (eqb q.cmd 0x20) (eqb (get_or d 0 0) 0) f).0) refl)
    (λ f. gets_answer left c d refl refl (eqb-true c (answer_of q.cmd) both.0) both.1 (not_both q.cmd d f) refl))
    (λ e. same refl)
hear_cases q (frame c d) (receiving left) =
    let P : Stage → Type 0 = Hears q (frame c d) (receiving left) in
    cond_both (eqb c radio_answer && (lawful_answer c d && bytes_eq (take 6 d) (take 6 q.sent))) _ _ P
    (λ e. let both = and_parts (eqb c radio_answer) (lawful_answer c d && bytes_eq (take 6 d) (take 6 q.sent)) e in
    let more = and_parts (lawful_answer c d) (bytes_eq (take 6 d) (take 6 q.sent)) both.1 in
    gets_radio left c d refl refl (eqb-true c radio_answer both.0) more.0 ((bytes_eq-Decides (take 6 d) (take 6 q.sent)).0 more.1) refl)
    (λ e. same refl)
hear_cases q (frame c d) (ended end) = same refl
