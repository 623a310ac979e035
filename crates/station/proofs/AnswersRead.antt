-- An outcome's answer data was read: the evidence of each inquiry through every call.
use Rattle.std.proofs.Common.{◌≡◌, ℕ, List, [], ◌∷◌, Some, None, Ok, Err, Option, Result, sym, refl, ap, ◌∙◌, subst, inl, inr}
use Rattle.std.specs.List.{AllByRecursion}
use Rattle.station.specs.declared.refusal.Refusal.{Refusal}
use Rattle.station.specs.Inquiries.{answered, Outcome, ended, Inquiry}
use Rattle.station.specs.Stations.{Slip, Station, new_inquiry, lodge_cause, lodge_after, lodge_answer, collect_after}
use Rattle.station.specs.Histories.{lodges, pulses, collects, History, made, ◌▸◌, Run, Step}
use Rattle.station.specs.Promises.{Always, WasRead, AnswersWereRead}
use Rattle.station.proofs.Turns.{all_map, all_join}
use Rattle.station.proofs.Numbers.{all_without, all_in, held_number}
use Rattle.station.proofs.Asking.{Had, had, collected}
use Rattle.station.proofs.Slips.{slip_of, same_slip}
use Rattle.station.proofs.Evidence.{Rests, Evidence, read_on, evidence_on}
use Rattle.station.proofs.PulseEvidence.{pulse_evidence}

-- each inquiry held has its evidence
Shown : History → ℕ → List Inquiry → Type 0
Shown h mark qs = AllByRecursion (λ q. Evidence h h (slip_of mark q.number) q) qs

lodge_shown : (h : History) (b : Station) (c : ℕ) (d : List ℕ) (o : Option Refusal) → Shown h b.mark b.places
    → Shown (h ▸ lodges c d (lodge_answer b o)) (lodge_after b c d o).mark (lodge_after b c d o).places
unfolding Shown
lodge_shown h b c d (Some r) a = all_map (λ q. evidence_on h (lodges c d (Err r)) (slip_of b.mark q.number) q) b.places a
lodge_shown h b c d None a =
    let new = new_inquiry b.next c d in
    let e = lodges c d (Ok (slip_of b.mark b.next)) in
    all_join (λ q. Evidence (h ▸ e) (h ▸ e) (slip_of b.mark q.number) q) b.places (new ∷ [])
    (all_map (λ q. evidence_on h e (slip_of b.mark q.number) q) b.places a)
    (record { before_lodging = h; was_lodged = inl (refl, refl); copied = λ some. absurd (some refl); rests = tt }, tt)

collect_shown : (h : History) (b : Station) (slip : Slip) (memory : ℕ) (r : Result Outcome Refusal) → Shown h b.mark b.places
    → Shown (h ▸ collects slip memory r) (collect_after b slip r).mark (collect_after b slip r).places
unfolding Shown
collect_shown h b slip memory (Err r) a = all_map (λ q. evidence_on h (collects slip memory (Err r)) (slip_of b.mark q.number) q) b.places a
collect_shown h b slip memory (Ok o) a =
    let e = collects slip memory (Ok o) in
    all_without (λ q. Evidence (h ▸ e) (h ▸ e) (slip_of b.mark q.number) q) slip.number b.places
    (all_map (λ q. evidence_on h e (slip_of b.mark q.number) q) b.places a)

shown : (h : History) (s : Station) → Run h s → Shown h s.mark s.places
unfolding Shown
shown (made m n) s e = subst (λ t. Shown (made m n) t.mark t.places) (sym e) tt
shown (h ▸ lodges c d answer) s (b, run, (a, e)) =
    subst (λ t. Shown (h ▸ lodges c d answer) t.mark t.places) (sym e)
    (subst (λ r. Shown (h ▸ lodges c d r) (lodge_after b c d (lodge_cause b c d)).mark (lodge_after b c d (lodge_cause b c d)).places) (sym a)
    (lodge_shown h b c d (lodge_cause b c d) (shown h b run)))
shown (h ▸ pulses line line_after) s (b, run, p) = pulse_evidence h b s line line_after run p (shown h b run)
shown (h ▸ collects slip memory answer) s (b, run, (a, e)) =
    subst (λ t. Shown (h ▸ collects slip memory answer) t.mark t.places) (sym e) (collect_shown h b slip memory answer (shown h b run))

handed_read : (h : History) (b : Station) (slip : Slip) (o : Outcome) (d : List ℕ) → Run h b → Had b slip o → o.ending ≡ answered d → WasRead 6 h slip d
unfolding Shown
handed_read h b slip o d run it is =
    let q = it.inquiry in
    let number = held_number slip.number b.places q it.held in
    let known = all_in (λ x. Evidence h h (slip_of b.mark x.number) x) b.places q (shown h b run) number.2 in
    let read = subst (Rests (λ y. WasRead 6 h (slip_of b.mark q.number) y) q.copies q.cmd) (it.at ∙ ap ended is) known.rests in
    subst (λ x. WasRead 6 h x d) (same_slip (slip_of b.mark q.number) slip (sym it.own) number.0) read

pub answers_were_read : Always (AnswersWereRead 6)
answers_were_read (made m n) (s, run) slip o d was is = absurd was.2
answers_were_read (h ▸ e) (s, (b, run, step)) slip o d (earlier, memory, inr at) is =
    read_on h e slip d (answers_were_read h (b, run) slip o d (earlier, memory, at) is)
answers_were_read (h ▸ e) (s, (b, run, step)) slip o d (earlier, memory, inl (at, same_event)) is =
    let collecting = subst (λ x. Step b x s) (sym same_event) step in
    read_on h e slip d (handed_read h b slip o d run (had b slip o (collected b slip memory o collecting.0)) is)
