-- What findings and attempts do to one inquiry.
use Rattle.std.specs.Prelude.{◌≡◌, cond, Some, None, Option}
use Rattle.frames.specs.Finding.{Found}
use Rattle.lines.specs.Meaning.{Meaning}
use Rattle.station.specs.Inquiries as rules
use Rattle.station.specs.Inquiries.{Frame, own_frame, at_stage, written, is_due}
use Rattle.station.specs.Exchange.{hear, attempted}
use Rattle.station.specs.Stations.{has_space}
use Rattle.station.specs.Putting.{PutsIf}

-- An inquiry after one finding.
abbrev pub hears_one : rules.Inquiry → Found → rules.Inquiry
hears_one q v = at_stage q (hear q v q.stage)

-- The frame of an attempt that is due, if one is.
abbrev pub frame_due : rules.Inquiry → Option Frame
frame_due q = cond (is_due q.stage) (Some (own_frame q)) None

-- What an attempt does to an inquiry and to the line.
pub record Tries (before after : rules.Inquiry) (line line_after : Meaning) : Type 0 where
  pub inquiry : after ≡ attempted (has_space line.capacity line.outgoing (written (own_frame before))) before
  pub puts : PutsIf (frame_due before) line line_after
