-- A pulse as a computation: the reader's rule as a search through all the bytes.
use Rattle.std.specs.Prelude.{ℕ, zero, suc, ◌+◌, cond, ◌&&◌, List, [], ◌∷◌, ◌++◌, length, drop, Some, None, Option, ◌==◌}
use Rattle.frames.specs.Finding.{Found}
use Rattle.frames.specs.Samples.{search_from}
use Rattle.lines.specs.Meaning.{Meaning}
use Rattle.station.specs.Inquiries.{is_due}
use Rattle.station.specs.Stations.{Station, first, replies, put, due_frame, up_to_step_three, attempts, taken, left_waiting, unless_silent, Pulsed}

-- The start of a candidate at the end of bytes that hold nothing yet.
abbrev pub left_open : List ℕ → List ℕ
left_open [] = []
left_open (a ∷ []) = cond (a == 0xFF) (a ∷ []) []
left_open (a ∷ b ∷ bytes) = cond (a == 0xFF && b == 0x02) (a ∷ b ∷ bytes) (left_open (b ∷ bytes))

-- What bytes hold, each finding with the place where it is over, and what they leave open.
pub record Read : Type 0 where
  pub findings : List (ℕ × Found)
  pub open_end : List ℕ

-- A finding, and what is read behind it.
abbrev pub behind : ℕ → Found → Read → Read
behind place v r = record { findings = (place, v) ∷ r.findings; open_end = r.open_end }

-- Where something is found, the search goes on behind it.
abbrev pub read_next : (ℕ → List ℕ → Read) → ℕ → List ℕ → Option (Found × ℕ) → Read
read_next go_on from bytes None = record { findings = []; open_end = left_open bytes }
read_next go_on from bytes (Some (v, used)) = behind (from + used) v (go_on (from + used) (drop used bytes))

-- Reading on from a place, with at most so many findings.
abbrev pub read_from : ℕ → ℕ → List ℕ → Read
read_from zero from bytes = record { findings = []; open_end = left_open bytes }
read_from (suc most) from bytes = read_next (read_from most) from bytes (search_from 0 bytes)

-- All that bytes hold: a finding uses a byte at least.
abbrev pub read_all : List ℕ → Read
read_all bytes = read_from (length bytes) 0 bytes

-- The station after a pulse that reads this.
abbrev pub station_after : Station → Meaning → Read → Station
station_after s line r = record {
  mark = s.mark;
  next = s.next;
  places = attempts line.capacity (replies line.capacity r.findings line.outgoing) (up_to_step_three r.findings s.places);
  held = unless_silent (taken line) r.open_end;
}

-- The line after a pulse that reads this.
abbrev pub line_after : Station → Meaning → Read → Meaning
line_after s line r = record {
  waiting = left_waiting line;
  outgoing = put line.capacity (replies line.capacity r.findings line.outgoing) (due_frame (first is_due (up_to_step_three r.findings s.places)));
  capacity = line.capacity;
}

-- What a pulse reads.
abbrev pub reads : Station → Meaning → Read
reads s line = read_all (s.held ++ taken line)

-- Every station can be pulsed on every line, and this is what comes of it.
abbrev pub ComputesThePulse : Type 0
ComputesThePulse = (s : Station) (line : Meaning) → Pulsed s line (station_after s line (reads s line)) (line_after s line (reads s line))
