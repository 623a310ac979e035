-- The pending response of a card: how it goes out, and what ends it.
use Rattle.std.specs.Prelude.{ℕ, ◌+◌, ◌-◌, Bool, cond, ◌||◌, List, Some, None, Option, ◌==◌, nat_le, nat_lt}
use Rattle.station.specs.Inquiries.{Frame, written}
use Rattle.station.specs.Exchange.{most_attempts, acknowledgement_pulses, ack, nak, error, is}
use Rattle.station.specs.Stations.{has_space}

-- How far a response has come: this attempt goes out in the pulse that runs, or its acknowledgement period ends with the so-manieth pulse from now.
pub data Progress : Type 0 where
  due : ℕ → Progress
  acknowledging : ℕ → ℕ → Progress

-- A response: its frame, how often that was put so far, and how far it has come.
pub record Response : Type 0 where
  pub frame : Frame
  pub copies : ℕ
  pub progress : Progress

-- A new response has no copy put, and attempt 1 is due.
abbrev pub new_response : Frame → Response
new_response f = record { frame = f; copies = 0; progress = due 1 }

-- The response has come further; nothing else of it changes.
abbrev pub at_progress : Response → Progress → Response
at_progress r now = record { frame = r.frame; copies = r.copies; progress = now }

-- After a failed attempt the next is due; after the last the response ends.
abbrev pub after_attempt : Response → ℕ → Option Response
after_attempt r k = cond (nat_lt k most_attempts) (Some (at_progress r (due (k + 1)))) None

-- A control frame matters in an acknowledgement period once a copy was put: ACK and ERROR end the response, NAK the attempt.
abbrev pub by_control : ℕ → List ℕ → Response → Progress → Option Response
by_control c d r (due k) = Some r
by_control c d r (acknowledging k left) =
    cond (r.copies == 0) (Some r)
    (cond (is ack c d || is error c d) None
    (cond (is nak c d) (after_attempt r k) (Some r)))

abbrev pub control_heard : ℕ → List ℕ → Option Response → Option Response
control_heard c d None = None
control_heard c d (Some r) = by_control c d r r.progress

-- A period that ends with this pulse ends its attempt.
abbrev pub period_shorter : Response → Progress → Option Response
period_shorter r (due k) = Some r
period_shorter r (acknowledging k left) = cond (nat_le left 1) (after_attempt r k) (Some (at_progress r (acknowledging k (left - 1))))

abbrev pub ticked : Option Response → Option Response
ticked None = None
ticked (Some r) = period_shorter r r.progress

-- A due attempt opens its acknowledgement period, and counts as a copy if its frame was put.
abbrev pub spent : Bool → Response → Progress → Response
spent put r (due k) = record { frame = r.frame; copies = cond put (r.copies + 1) r.copies; progress = acknowledging k acknowledgement_pulses }
spent put r (acknowledging k left) = r

abbrev pub attempted : ℕ → List ℕ → Option Response → Option Response
attempted capacity outgoing None = None
attempted capacity outgoing (Some r) = Some (spent (has_space capacity outgoing (written r.frame)) r r.progress)

-- The frame of a due attempt.
abbrev pub frame_if_due : Frame → Progress → Option Frame
frame_if_due f (due k) = Some f
frame_if_due f (acknowledging k left) = None

abbrev pub due_frame : Option Response → Option Frame
due_frame None = None
due_frame (Some r) = frame_if_due r.frame r.progress
