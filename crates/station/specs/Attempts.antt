-- That no inquiry is given up untried, in terms of pulses, lines and copies.
use Rattle.std.specs.Prelude.{◌≡◌, ℕ, ◌+◌, ◌<◌, ◌⊎◌, List, length, Ok, ◌≢◌}
use Rattle.lines.specs.Meaning.{Meaning}
use Rattle.station.specs.declared.fault.Fault.{Fault}
use Rattle.station.specs.declared.fault.Fault.TheVariants.{NotSent, NotAcknowledged, ErrorReply, NoAnswer, NoRadioAnswer}
use Rattle.station.specs.Inquiries.{failed, Outcome, Frame, written}
use Rattle.station.specs.Stations.{Slip}
use Rattle.station.specs.Histories.{lodges, pulses, collects, History, made, ◌▸◌, Handed}

-- A line has no space left for this frame.
abbrev pub NoSpace : Meaning → Frame → Type 0
NoSpace line f = line.capacity < length line.outgoing + length (written f)

-- Since the lodging of this CMD and data that gave the slip, so many pulses left a line with no space for the inquiry's frame.
abbrev pub LackedSpace : History → ℕ → List ℕ → Slip → ℕ → Type 0
LackedSpace (made m first) c d slip n = ⊥
LackedSpace (earlier ▸ lodges x y answer) c d slip n = ((lodges x y answer ≡ lodges c d (Ok slip)) × (n ≡ 0)) ⊎ LackedSpace earlier c d slip n
LackedSpace (earlier ▸ pulses line line_after) c d slip n =
    LackedSpace earlier c d slip n ⊎ ((m : ℕ) × (n ≡ m + 1) × NoSpace line_after (record { cmd = c; body = d }) × LackedSpace earlier c d slip m)
LackedSpace (earlier ▸ collects other memory answer) c d slip n = LackedSpace earlier c d slip n

-- What a fault says of the copies and of the pulses without space: 21 and 22 come only after so many attempts, and the others only after a copy.
abbrev pub Earned : ℕ → ℕ → ℕ → Fault → Type 0
Earned attempts copies lacking NotSent = (copies ≡ 0) × (lacking ≡ attempts)
Earned attempts copies lacking NotAcknowledged = (copies ≢ 0) × (copies + lacking ≡ attempts)
Earned attempts copies lacking ErrorReply = copies ≡ 0 → ⊥
Earned attempts copies lacking NoAnswer = copies ≡ 0 → ⊥
Earned attempts copies lacking NoRadioAnswer = copies ≡ 0 → ⊥

-- The inquiry was lodged, and since then as many pulses lacked space as its fault says.
pub record WasTried (attempts : ℕ) (whole : History) (slip : Slip) (copies : ℕ) (f : Fault) : Type 0 where
  pub cmd : ℕ
  pub sent : List ℕ
  pub lacking : ℕ
  pub lacked : LackedSpace whole cmd sent slip lacking
  pub earned : Earned attempts copies lacking f

-- No inquiry is given up before so many attempts, each of which put its frame or found no space.
abbrev pub FaultsAreEarned : ℕ → History → Type 0
FaultsAreEarned attempts whole =
    (slip : Slip) (outcome : Outcome) (f : Fault) → Handed slip outcome whole → outcome.ending ≡ failed f → WasTried attempts whole slip outcome.copies f
