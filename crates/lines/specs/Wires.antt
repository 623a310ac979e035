-- What a wire means, and what its far end does to that.
use Rattle.std.specs.Prelude.{◌≡◌, ℕ, ◌≤◌, [], ◌∷◌, length, Option, Result}
use Rattle.std.proofs.Common.{length-take, arith}
use Rattle.lines.specs.declared.refusal.Refusal.{Refusal}
use Rattle.lines.specs.declared.wire.Wire.{Wire}
use Rattle.lines.specs.Queues.{FirstOut, AllIn}
use Rattle.lines.specs.Meaning.{Meaning}
use Rattle.lines.specs.Rings.{held, ring_size}

-- A wire: the line that its near end has, and how many waiting bytes it can hold.
pub record Wired : Type 0 where
  pub near : Meaning
  pub intake : ℕ

-- The line at a wire's near end.
abbrev pub near_end : Wire → Meaning
near_end wire = record { waiting = held wire.incoming; outgoing = held wire.outgoing; capacity = ring_size wire.outgoing }

-- What a wire means.
abbrev pub wired : Wire → Wired
wired wire = record { near = near_end wire; intake = ring_size wire.incoming }

-- A wire as it is made: empty, with the lengths of the two rings.
abbrev pub fresh : ℕ → ℕ → Wired
fresh incoming outgoing = record { near = record { waiting = []; outgoing = []; capacity = outgoing }; intake = incoming }

-- Bringing adds one waiting byte, and is refused with 11 when that ring is full; nothing else changes.
pub record Brought (before : Wired) (byte : ℕ) (answer : Result (Unit {0}) Refusal) (after : Wired) : Type 0 where
  pub waiting_moves : AllIn before.intake before.near.waiting (byte ∷ []) answer after.near.waiting
  pub outgoing_kept : after.near.outgoing ≡ before.near.outgoing
  pub capacity_kept : after.near.capacity ≡ before.near.capacity
  pub intake_kept : after.intake ≡ before.intake

-- Carrying answers the first outgoing byte and removes it, or says that there is none; nothing else changes.
pub record Carried (before : Wired) (answer : Option ℕ) (after : Wired) : Type 0 where
  pub outgoing_moves : FirstOut before.near.outgoing answer after.near.outgoing
  pub waiting_kept : after.near.waiting ≡ before.near.waiting
  pub capacity_kept : after.near.capacity ≡ before.near.capacity
  pub intake_kept : after.intake ≡ before.intake

-- A wire's outgoing bytes never exceed its capacity.
pub near_end_within : (wire : Wire) → length (near_end wire).outgoing ≤ (near_end wire).capacity
near_end_within wire = simp length-take (omega (arith, wire.outgoing.within))
