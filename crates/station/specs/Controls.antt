-- The control frames by name.
use Rattle.std.specs.Prelude.{ℕ, cond, List, Some, None, Option}
use Rattle.station.specs.Inquiries.{Frame}
use Rattle.station.specs.Exchange.{ack, nak, error, is}
use Rattle.station.specs.declared.control.Control.{Control}
use Rattle.station.specs.declared.control.Control.TheVariants.{Ack, Nak, Error}

-- The frame of a control.
abbrev pub control_frame : Control → Frame
control_frame Ack = ack
control_frame Nak = nak
control_frame Error = error

-- Its CMD.
abbrev pub control_cmd_of : Control → ℕ
control_cmd_of c = (control_frame c).cmd

-- Its data.
abbrev pub control_data : Control → List ℕ
control_data c = (control_frame c).body

-- The control frame with this CMD and data, if it is one.
abbrev pub control_in : ℕ → List ℕ → Option Control
control_in c d = cond (is ack c d) (Some Ack) (cond (is nak c d) (Some Nak) (cond (is error c d) (Some Error) None))

-- The frame of a control, if there is one.
abbrev pub frame_of : Option Control → Option Frame
frame_of None = None
frame_of (Some c) = Some (control_frame c)
