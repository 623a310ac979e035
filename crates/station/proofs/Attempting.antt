-- A due attempt, by what putting its frame came to.
use Rattle.std.proofs.Common.{◌≡◌, ℕ, ◌+◌, Bool, cond, Some, None, sym, refl, ap, ◌∙◌, subst}
use Rattle.frames.specs.Frame.{frame_bytes}
use Rattle.lines.specs.Meaning.{Meaning}
use Rattle.station.specs.Inquiries.{Inquiry, Stage, due, acknowledging, own_frame, written, is_due}
use Rattle.station.specs.Exchange.{counted, opened}
use Rattle.station.specs.Stations.{has_space}
use Rattle.station.specs.Putting.{PutsIf}
use Rattle.station.specs.Steps.{Tries}

pub tried : (q : Inquiry) (line : Meaning) (after : Inquiry) (line_after : Meaning) (k : ℕ) (went : Bool)
    → q.stage ≡ due k → went ≡ has_space line.capacity line.outgoing (frame_bytes q.cmd q.sent) → PutsIf (Some (own_frame q)) line line_after
    → after ≡ record { number = q.number; cmd = q.cmd; sent = q.sent; copies = cond went (q.copies + 1) q.copies; stage = acknowledging k 5 }
    → Tries q after line line_after
unfolding written
tried q line after line_after k went at went_if puts is =
    let spent : (s : Stage) → s ≡ due k
    → ◌≡◌ {A = Inquiry} (record { number = q.number; cmd = q.cmd; sent = q.sent; copies = cond went (q.copies + 1) q.copies; stage = acknowledging k 5 })
    (record { number = q.number; cmd = q.cmd; sent = q.sent; copies = counted went s q.copies; stage = opened s }) = λ s e. rw e refl in
    record {
      inquiry = is ∙ spent q.stage at
          ∙ ap (λ b. record { number = q.number; cmd = q.cmd; sent = q.sent; copies = counted b q.stage q.copies; stage = opened q.stage }) went_if;
      puts = subst (λ s. PutsIf (cond (is_due s) (Some (own_frame q)) None) line line_after) (sym at) puts;
    }
