-- What a pulse takes.
use Rattle.std.specs.Prelude.{◌≡◌}
use Rattle.lines.specs.Meaning.{Meaning}
use Rattle.station.specs.Stations.{left_waiting}

-- The line after a pulse took its bytes.
pub record Drained (line line_after : Meaning) : Type 0 where
  pub waiting : line_after.waiting ≡ left_waiting line
  pub outgoing : line_after.outgoing ≡ line.outgoing
  pub capacity : line_after.capacity ≡ line.capacity
