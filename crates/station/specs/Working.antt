-- What the first step of a pulse does.
use Rattle.std.specs.Prelude.{◌≡◌, ℕ, ◌+◌, List, ◌++◌, Some, None, Option}
use Rattle.frames.specs.Finding.{Found}
use Rattle.frames.specs.Promises.{Reading}
use Rattle.lines.specs.Meaning.{Meaning}
use Rattle.station.specs.Stations as rules_of
use Rattle.station.specs.Putting.{PutsIf}
use Rattle.station.specs.Stations.{last_number, with_places, change, replies, hears, taken, left_waiting, unless_silent}
use Rattle.station.specs.Steps.{hears_one}
use Rattle.station.specs.Exchange.{reply}
use Rattle.station.specs.Inquiries.{under_way}

-- The next number that a station gives; it is past the last one, once that has been given.
abbrev pub next_number : Option ℕ → ℕ
next_number (Some n) = n
next_number None = last_number + 1

-- One finding was handled: replied to, and heard by the inquiry under way; nothing else changed.
pub record Handled (v : Found) (before after : rules_of.Station) (line line_after : Meaning) : Type 0 where
  pub station : after ≡ with_places before (change under_way (λ q. hears_one q v) before.places)
  pub puts : PutsIf (reply v) line line_after

-- Step 1: all that the bytes held and taken hold was found and handled.
pub record Heard (before after : rules_of.Station) (line line_after : Meaning) : Type 0 where
  pub findings : List (ℕ × Found)
  pub open_end : List ℕ
  pub reads : Reading 0 (before.held ++ taken line) findings open_end
  pub held : after.held ≡ unless_silent (taken line) open_end
  pub places : after.places ≡ hears findings before.places
  pub mark : after.mark ≡ before.mark
  pub next : after.next ≡ before.next
  pub outgoing : line_after.outgoing ≡ replies line.capacity findings line.outgoing
  pub waiting : line_after.waiting ≡ left_waiting line
  pub capacity : line_after.capacity ≡ line.capacity
