-- What putting a frame does to a line.
use Rattle.std.specs.Prelude.{◌≡◌, ℕ, cond, List, length, Some, None, Option, nat_le}
use Rattle.lines.specs.Meaning.{Meaning}
use Rattle.station.specs.Inquiries.{Frame}
use Rattle.station.specs.Stations.{put}

-- The frame of a CMD with these data bytes, if it can carry them.
abbrev pub writable : ℕ → List ℕ → Option Frame
writable c d = cond (nat_le (length d) 250) (Some (record { cmd = c; body = d })) None

-- The frame, if there is one, went out whole if the space sufficed, and not at all otherwise; nothing else of the line changed.
pub record PutsIf (f : Option Frame) (line line_after : Meaning) : Type 0 where
  pub outgoing : line_after.outgoing ≡ put line.capacity line.outgoing f
  pub waiting : line_after.waiting ≡ line.waiting
  pub capacity : line_after.capacity ≡ line.capacity
