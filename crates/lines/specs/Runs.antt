-- Every list of calls on a wire, and the order that its bytes keep.
use Rattle.std.specs.Prelude.{◌≡◌, ℕ, List, [], ◌∷◌, ◌++◌, Ok, Err, Option, Result, option_to_list}
use Rattle.lines.specs.declared.refusal.Refusal.{Refusal}
use Rattle.lines.specs.Meaning.{Taken, Put}
use Rattle.lines.specs.Wires.{Wired, fresh, Brought, Carried}

-- A call on a wire, at either end, with what it answered.
pub data Event : Type 0 where
  takes : Option ℕ → Event
  puts : List ℕ → Result (Unit {0}) Refusal → Event
  brings : ℕ → Result (Unit {0}) Refusal → Event
  carries : Option ℕ → Event

-- What a call does to a wire.
abbrev pub Step : Wired → Event → Wired → Type 0
Step before (takes answer) after = Taken before.near answer after.near × (after.intake ≡ before.intake)
Step before (puts bytes answer) after = Put before.near bytes answer after.near × (after.intake ≡ before.intake)
Step before (brings byte answer) after = Brought before byte answer after
Step before (carries answer) after = Carried before answer after

infixl 20 ◌▸◌
-- A wire made of two rings of these lengths, and then one call after another.
pub data History : Type 0 where
  made : ℕ → ℕ → History
  ◌▸◌ : History → Event → History

-- The history leads to the wire.
abbrev pub Run : History → Wired → Type 0
Run (made incoming outgoing) wire = wire ≡ fresh incoming outgoing
Run (history ▸ event) wire = (before : Wired) × Run history before × Step before event wire

-- A stretch that was accepted, or nothing.
abbrev pub accepted : List ℕ → Result (Unit {0}) Refusal → List ℕ
accepted bytes (Ok _) = bytes
accepted bytes (Err _) = []

-- The bytes that a call brought to the near end.
abbrev pub brought_by : Event → List ℕ
brought_by (brings byte answer) = accepted (byte ∷ []) answer
brought_by _ = []

-- The bytes that a call took at the near end.
abbrev pub taken_by : Event → List ℕ
taken_by (takes answer) = option_to_list answer
taken_by _ = []

-- The bytes that a call put at the near end.
abbrev pub put_by : Event → List ℕ
put_by (puts bytes answer) = accepted bytes answer
put_by _ = []

-- The bytes that a call carried off to the far end.
abbrev pub carried_by : Event → List ℕ
carried_by (carries answer) = option_to_list answer
carried_by _ = []

-- The bytes of all calls of a history, in their order.
abbrev pub all_bytes : (Event → List ℕ) → History → List ℕ
all_bytes bytes_by (made _ _) = []
all_bytes bytes_by (history ▸ event) = all_bytes bytes_by history ++ bytes_by event

-- Nothing is lost, doubled or out of turn: what was brought is what was taken and then what waits, and the same the other way.
pub record InOrder (history : History) (wire : Wired) : Type 0 where
  pub inward : all_bytes brought_by history ≡ all_bytes taken_by history ++ wire.near.waiting
  pub outward : all_bytes put_by history ≡ all_bytes carried_by history ++ wire.near.outgoing

-- Whatever calls led to the wire before, this one leads on to the wire after, and the bytes are in order.
abbrev pub GoesOn : Wired → Event → Wired → Type 0
GoesOn before event after = (history : History) → Run history before → Run (history ▸ event) after × InOrder (history ▸ event) after
