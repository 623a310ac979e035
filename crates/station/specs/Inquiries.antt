-- An inquiry: what was lodged, and how far it has come.
use Rattle.std.specs.Prelude.{ℕ, Bool, true, false, List}
use Rattle.frames.specs.Frame.{frame_bytes}
use Rattle.station.specs.declared.fault.Fault.{Fault}

-- How an inquiry ends: with the whole DATA of its answer, or with a fault.
pub data Ending : Type 0 where
  answered : List ℕ → Ending
  failed : Fault → Ending

-- What collect hands out: the ending, and how often the inquiry's frame was put.
pub record Outcome : Type 0 where
  pub copies : ℕ
  pub ending : Ending

-- How far an inquiry has come. The last number of a period is how many pulses it has left: it ends with the pulse that finds 1.
pub data Stage : Type 0 where
  -- it has not begun
  waiting : Stage
  -- this attempt goes out in the pulse that runs
  due : ℕ → Stage
  -- the acknowledgement period of this attempt
  acknowledging : ℕ → ℕ → Stage
  -- the answer period
  answering : ℕ → Stage
  -- the radio period
  receiving : ℕ → Stage
  ended : Ending → Stage

-- An inquiry with its number, its CMD and data as lodged, and how often its frame was put so far.
pub record Inquiry : Type 0 where
  pub number : ℕ
  pub cmd : ℕ
  pub sent : List ℕ
  pub copies : ℕ
  pub stage : Stage

-- A frame by its CMD and DATA.
pub record Frame : Type 0 where
  pub cmd : ℕ
  pub body : List ℕ

-- The bytes of a frame.
unfoldable pub written : Frame → List ℕ
written f = frame_bytes f.cmd f.body

-- The one frame that an inquiry sends.
abbrev pub own_frame : Inquiry → Frame
own_frame q = record { cmd = q.cmd; body = q.sent }

-- The inquiry has come to another stage; nothing else of it changes.
abbrev pub at_stage : Inquiry → Stage → Inquiry
at_stage q now = record { number = q.number; cmd = q.cmd; sent = q.sent; copies = q.copies; stage = now }

-- It waits to begin.
abbrev pub waits_still : Stage → Bool
waits_still waiting = true
waits_still (due k) = false
waits_still (acknowledging k left) = false
waits_still (answering left) = false
waits_still (receiving left) = false
waits_still (ended e) = false

-- It has ended.
abbrev pub has_ended : Stage → Bool
has_ended waiting = false
has_ended (due k) = false
has_ended (acknowledging k left) = false
has_ended (answering left) = false
has_ended (receiving left) = false
has_ended (ended e) = true

-- It is under way: begun and not ended.
abbrev pub under_way : Stage → Bool
under_way waiting = false
under_way (due k) = true
under_way (acknowledging k left) = true
under_way (answering left) = true
under_way (receiving left) = true
under_way (ended e) = false

-- An attempt of it is due.
abbrev pub is_due : Stage → Bool
is_due waiting = false
is_due (due k) = true
is_due (acknowledging k left) = false
is_due (answering left) = false
is_due (receiving left) = false
is_due (ended e) = false
