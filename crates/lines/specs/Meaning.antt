-- What a line means, and what each call on it does to that.
use Rattle.std.specs.Prelude.{◌≡◌, ℕ, List, Option, Result}
use Rattle.lines.specs.declared.refusal.Refusal.{Refusal}
use Rattle.lines.specs.Queues.{FirstOut, AllIn}

-- A line: the bytes waiting to be read, the outgoing bytes not yet carried off, and how many of those it can hold.
pub record Meaning : Type 0 where
  pub waiting : List ℕ
  pub outgoing : List ℕ
  pub capacity : ℕ

-- Taking answers the first waiting byte and removes it, or says that there is none; nothing else changes.
pub record Taken (before : Meaning) (answer : Option ℕ) (after : Meaning) : Type 0 where
  pub waiting_moves : FirstOut before.waiting answer after.waiting
  pub outgoing_kept : after.outgoing ≡ before.outgoing
  pub capacity_kept : after.capacity ≡ before.capacity

-- Putting appends a whole stretch to the outgoing bytes if the space suffices, and is refused otherwise; nothing else changes.
pub record Put (before : Meaning) (bytes : List ℕ) (answer : Result (Unit {0}) Refusal) (after : Meaning) : Type 0 where
  pub outgoing_moves : AllIn before.capacity before.outgoing bytes answer after.outgoing
  pub waiting_kept : after.waiting ≡ before.waiting
  pub capacity_kept : after.capacity ≡ before.capacity
