-- What a tape means.
use Rattle.std.specs.Prelude.{◌≡◌, ◌≤◌, [], length, take}
use Rattle.std.proofs.Common.{length-take, arith}
use Rattle.lines.specs.declared.tape.Tape.{Tape}
use Rattle.lines.specs.Meaning.{Meaning}

-- The rest of the capture waits, the bytes sent are outgoing, and 1,024 of those can be kept.
abbrev pub taped : Tape → Meaning
taped tape = record { waiting = tape.rest.now; outgoing = take tape.len tape.sent; capacity = 1024 }

-- A tape's outgoing bytes never exceed its capacity.
pub taped_within : (tape : Tape) → length (taped tape).outgoing ≤ (taped tape).capacity
taped_within tape = simp length-take (omega (arith, tape.within))

-- Clearing removes all outgoing bytes and changes nothing else.
pub record Cleared (before after : Meaning) : Type 0 where
  pub outgoing_gone : after.outgoing ≡ []
  pub waiting_kept : after.waiting ≡ before.waiting
  pub capacity_kept : after.capacity ≡ before.capacity
