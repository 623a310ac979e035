-- The books of a history: every inquiry ever lodged with its copies, and the frames that were put.
use Rattle.std.proofs.Common.{◌≡◌, ℕ, ◌≤◌, false, List, [], ◌∷◌, ◌++◌, map, replicate, Some, None, Option, sym, refl, ap, ◌∙◌, append_assoc, append-nil}
use Rattle.std.specs.List.{AllByRecursion}
use Rattle.std.proofs.lemmas.Bool.{cond_both, cond-false}
use Rattle.lines.specs.Meaning.{Meaning}
use Rattle.station.specs.Inquiries.{Outcome, Inquiry, Frame, written, own_frame, is_due}
use Rattle.station.specs.Stations.{Slip, Station, has_space, first, put, due_frame, replies, up_to_step_three, Pulsed}
use Rattle.station.specs.Histories.{pulses, History, ◌▸◌, Handed}
use Rattle.station.specs.Promises.{In, all_written, Puts, is_control, requests, lodgings, Tally, all_copies}
use Rattle.station.proofs.Turns.{Over, Unbegun, tries, if_due}
use Rattle.station.proofs.Pulses.{Queue}
use Rattle.station.proofs.Slips.{slip_of}
use Rattle.station.proofs.Copies.{Counted, sent_now, put_sent, written_join, requests_join, replies_control, copies_more}

abbrev pub tally_of : ℕ → Inquiry → Tally
tally_of mark q = record { lodging = record { slip = slip_of mark q.number; frame = own_frame q }; copies = q.copies }

abbrev pub tallies : ℕ → List Inquiry → List Tally
tallies mark [] = []
tallies mark (q ∷ qs) = tally_of mark q ∷ tallies mark qs

-- copies within the attempts made, and a frame that is none of the three
abbrev pub Sound : Inquiry → Type 0
Sound q = Counted q.stage q.copies × (is_control (own_frame q) ≡ false)

-- those that have ended come first, then the queue; every frame other than the three is one of theirs
pub record Books (h : History) (mark : ℕ) (places : List Inquiry) : Type 0 where
  pub frames : List Frame
  pub puts : Puts h frames
  pub done : List Tally
  pub past : List Inquiry
  pub queue : List Inquiry
  pub split : places ≡ past ++ queue
  pub over : AllByRecursion Over past
  pub queued : Queue queue
  pub sound : AllByRecursion Sound queue
  pub few : AllByRecursion (λ t. t.copies ≤ 4) done
  pub entered : AllByRecursion (λ q. In (tally_of mark q) done) past
  pub lodged : lodgings h ≡ map (λ t. t.lodging) (done ++ tallies mark queue)
  pub sent : requests frames ≡ all_copies (done ++ tallies mark queue)
  pub handed : (slip : Slip) (o : Outcome) → Handed slip o h → (t : Tally) × In t done × (t.lodging.slip ≡ slip) × (t.copies ≡ o.copies)

pub copies_join : (xs ys : List Tally) → all_copies (xs ++ ys) ≡ all_copies xs ++ all_copies ys
copies_join [] ys = refl
copies_join (x ∷ xs) ys =
    ap (λ l. replicate x.copies x.lodging.frame ++ l) (copies_join xs ys) ∙ sym (append_assoc (replicate x.copies x.lodging.frame) (all_copies xs) (all_copies ys))

no_copies : (mark : ℕ) (qs : List Inquiry) → AllByRecursion Unbegun qs → all_copies (tallies mark qs) ≡ []
no_copies mark [] u = refl
no_copies mark (q ∷ qs) u = (λ i. replicate (u.0.1 i) (own_frame q) ++ no_copies mark qs u.1 i)

pub tallies_join : (mark : ℕ) (xs ys : List Inquiry) → tallies mark (xs ++ ys) ≡ tallies mark xs ++ tallies mark ys
tallies_join mark [] ys = refl
tallies_join mark (x ∷ xs) ys = ap (λ l. tally_of mark x ∷ l) (tallies_join mark xs ys)

-- the first of the queue puts its frame behind all that was put
pub last_sends : (mark capacity : ℕ) (outgoing : List ℕ) (done : List Tally) (q : Inquiry) (more : List Inquiry) → AllByRecursion Unbegun more
    → all_copies (done ++ tallies mark (tries capacity outgoing q ∷ more)) ≡ all_copies (done ++ tallies mark (q ∷ more)) ++ sent_now capacity outgoing (if_due q)
last_sends mark capacity outgoing done q more u =
    let rest = no_copies mark more u in
    let now = sent_now capacity outgoing (if_due q) in
    let old = replicate q.copies (own_frame q) in
    let new = replicate (tries capacity outgoing q).copies (own_frame q) in
    copies_join done (tallies mark (tries capacity outgoing q ∷ more))
    ∙ ap (λ l. all_copies done ++ (new ++ l)) rest
    ∙ ap (λ l. all_copies done ++ l) (append-nil new ∙ copies_more capacity outgoing q q.stage)
    ∙ sym (append_assoc (all_copies done) old now)
    ∙ ap (λ l. (all_copies done ++ l) ++ now) (sym (append-nil old) ∙ ap (λ l. old ++ l) (sym rest))
    ∙ ap (λ l. l ++ now) (sym (copies_join done (tallies mark (q ∷ more))))

-- what a pulse put, written into the books
pub record Page (h : History) (line line_after : Meaning) (old : List Frame) (request : List Frame) : Type 0 where
  pub frames : List Frame
  pub puts : Puts (h ▸ pulses line line_after) frames
  pub sent : requests frames ≡ requests old ++ request

plain_sent : (capacity : ℕ) (outgoing : List ℕ) (attempt : Option Inquiry) → ((q : Inquiry) → attempt ≡ Some q → is_control (own_frame q) ≡ false)
    → requests (sent_now capacity outgoing attempt) ≡ sent_now capacity outgoing attempt
plain_sent capacity outgoing None plain = refl
plain_sent capacity outgoing (Some q) plain =
    cond_both (has_space capacity outgoing (written (own_frame q))) _ _ (λ l. requests l ≡ l) (λ e. cond-false _ _ _ (plain q refl)) (λ e. refl)

pub page : (h : History) (b s : Station) (line line_after : Meaning) (old : List Frame) → Puts h old → (p : Pulsed b line s line_after)
    → (attempt : Option Inquiry) → first is_due (up_to_step_three p.findings b.places) ≡ attempt → ((q : Inquiry) → attempt ≡ Some q → is_control (own_frame q) ≡ false)
    → Page h line line_after old (sent_now line.capacity (replies line.capacity p.findings line.outgoing) attempt)
page h b s line line_after old puts p attempt is plain =
    let out = replies line.capacity p.findings line.outgoing in
    let rs = replies_control line.capacity p.findings line.outgoing in
    let request = sent_now line.capacity out attempt in
    let now = rs.0 ++ request in
    let gained = p.outgoing ∙ ap (λ o. put line.capacity out (due_frame o)) is ∙ put_sent line.capacity out attempt
    ∙ ap (λ l. l ++ all_written request) rs.1 ∙ append_assoc line.outgoing (all_written rs.0) (all_written request)
    ∙ ap (λ l. line.outgoing ++ l) (sym (written_join rs.0 request)) in
    record {
      frames = old ++ now;
      puts = (old, now, refl, puts, gained);
      sent = requests_join old now ∙ ap (λ l. requests old ++ l) (requests_join rs.0 request ∙ (λ i. rs.2 i ++ plain_sent line.capacity out attempt plain i));
    }
