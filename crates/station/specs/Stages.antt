-- What the stage of an inquiry means in the rules, and its attempts.
use Rattle.std.specs.Prelude.{ℕ, Ok, Err, Result}
use Rattle.frames.specs.declared.frame.Frame as rust
use Rattle.frames.specs.Reading.{frame_data}
use Rattle.station.specs.declared.fault.Fault.{Fault}
use Rattle.station.specs.Inquiries as rules
use Rattle.station.specs.Inquiries.{answered, failed, waiting, due, acknowledging, answering, receiving, ended}
use Rattle.station.specs.Exchange.{most_attempts}
use Rattle.station.specs.declared.stage.Stage.{Stage}
use Rattle.station.specs.declared.stage.Stage.TheVariants.{Waiting, Due, Acknowledging, Answering, Receiving, Ended}

-- How an inquiry ended.
abbrev pub ending_of : Result rust.Frame Fault → rules.Ending
ending_of (Ok f) = answered (frame_data f)
ending_of (Err x) = failed x

-- How far an inquiry has come.
abbrev pub stage_of : Stage → rules.Stage
stage_of Waiting = waiting
stage_of (Due k) = due k
stage_of (Acknowledging k left) = acknowledging k left
stage_of (Answering left) = answering left
stage_of (Receiving left) = receiving left
stage_of (Ended e) = ended (ending_of e)

-- The attempt to which an inquiry has come: the last, once none is to come.
abbrev pub attempt_of : Stage → ℕ
attempt_of Waiting = 0
attempt_of (Due k) = k
attempt_of (Acknowledging k left) = k
attempt_of (Answering left) = most_attempts
attempt_of (Receiving left) = most_attempts
attempt_of (Ended e) = most_attempts

-- An attempt that is due has not been made.
abbrev pub to_come : Stage → ℕ
to_come Waiting = 0
to_come (Due k) = 1
to_come (Acknowledging k left) = 0
to_come (Answering left) = 0
to_come (Receiving left) = 0
to_come (Ended e) = 0
