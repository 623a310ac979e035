use Rattle.std.proofs.Common.{◌≡◌, ℕ, ◌+◌, ◌≤◌, Bool, true, false, cond, length, refl, ap, ◌∙◌, subst, add-zero}
use mir.Val.{bool_byte}
use Rattle.std.proofs.lemmas.Bool.{le-leb}
use Rattle.frames.specs.Reading.{frame_data}
use Rattle.station.specs.Inquiries.{Inquiry, acknowledging}
use Rattle.station.specs.Stages.{stage_of}
use Rattle.station.proofs.Attempting.{tried}
use Rattle.station.proofs.FramesPut.{can_be_written}
use Rattle.station.proofs.inquiry.Inquiry.attempt.Goals as goal

one_more : (n : ℕ) (went : Bool) → n + bool_byte went ≡ cond went (n + 1) n
one_more n true = refl
one_more n false = add-zero n

pub returns-in-Due : goal.returns-in-Due
returns-in-Due g c =
    let was = c.self.inside in
    let q : Inquiry = record { number = was.number; cmd = was.frame.cmd; sent = frame_data was.frame; copies = was.copies; stage = stage_of was.stage } in
    let few : length (frame_data was.frame) ≤ 250 = subst (λ l. length l ≤ 250) c.data.ensures.bytes c.data.ensures.few in
    let told = rw (can_be_written was.frame.cmd (frame_data was.frame) few) at rw (c.cmd.ensures, c.data.ensures.bytes) at c.put_frame-put.ensures in
    rw (← c.self.view_is) (record {
      tries = record {
        rule = tried q _ _ _ c.in-Due.attempt c.put_frame-put.result (ap stage_of c.in-Due.is) (rw (le-leb (length (frame_data was.frame)) 250 few) at told.went) told.put.rule
            (ap (λ k. record q { copies = k; stage = acknowledging c.in-Due.attempt 5 }) (ap (λ n. was.copies + n) c.from.ensures ∙ one_more was.copies c.put_frame-put.result));
        fixed = told.put.fixed;
      };
    })
