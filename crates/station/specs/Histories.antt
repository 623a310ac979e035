-- Every list of calls on a station, and what is read off it: slips, pulses, bytes and outcomes.
use Rattle.std.specs.Prelude.{◌≡◌, ℕ, ◌+◌, ◌≤◌, ◌⊎◌, List, [], ◌∷◌, Ok, Err, Result}
use Rattle.lines.specs.Meaning.{Meaning}
use Rattle.station.specs.declared.refusal.Refusal.{Refusal}
use Rattle.station.specs.declared.refusal.Refusal.TheVariants.{NotEnded}
use Rattle.station.specs.Inquiries.{Outcome}
use Rattle.station.specs.Stations.{Slip, Station, fresh, least_memory, lodge_cause, lodge_answer, lodge_after, Pulsed, collect_answer, collect_after}

-- A call with what it answered; a pulse with what its line meant before and after.
pub data Event : Type 0 where
  lodges : ℕ → List ℕ → Result Slip Refusal → Event
  pulses : Meaning → Meaning → Event
  collects : Slip → ℕ → Result Outcome Refusal → Event

-- What a call does to a station by the rules.
abbrev pub Step : Station → Event → Station → Type 0
Step before (lodges c d answer) after = (answer ≡ lodge_answer before (lodge_cause before c d)) × (after ≡ lodge_after before c d (lodge_cause before c d))
Step before (pulses line line_after) after = Pulsed before line after line_after
Step before (collects slip memory answer) after = (answer ≡ collect_answer before slip memory) × (after ≡ collect_after before slip answer)

infixl 20 ◌▸◌
-- A station made with a mark and a first number, and then one call after another.
pub data History : Type 0 where
  made : ℕ → ℕ → History
  ◌▸◌ : History → Event → History

-- The history leads to this station.
abbrev pub Run : History → Station → Type 0
Run (made m n) s = s ≡ fresh m n
Run (history ▸ event) s = (before : Station) × Run history before × Step before event s

-- The rules allow this history.
abbrev pub Happens : History → Type 0
Happens history = (s : Station) × Run history s

infixl 15 ◌then◌
-- The history goes on with these calls.
abbrev pub ◌then◌ : History → List Event → History
history then [] = history
history then (event ∷ more) = (history ▸ event) then more

-- The event stands in the history, and `earlier` is all that came before it.
abbrev pub Occurs : History → Event → History → Type 0
Occurs earlier event (made m n) = ⊥
Occurs earlier event (history ▸ e) = ((earlier ≡ history) × (event ≡ e)) ⊎ Occurs earlier event history

-- Lodging gave this slip.
abbrev pub Given : Slip → History → Type 0
Given slip history = (earlier : History) × (c : ℕ) × (d : List ℕ) × Occurs earlier (lodges c d (Ok slip)) history

-- The slip was handed this outcome.
abbrev pub Handed : Slip → Outcome → History → Type 0
Handed slip outcome history = (earlier : History) × (memory : ℕ) × Occurs earlier (collects slip memory (Ok outcome)) history

-- Collecting this slip now, with memory enough, is answered so.
abbrev pub Tells : History → Slip → Result Outcome Refusal → Type 0
Tells history slip answer = (memory : ℕ) → least_memory ≤ memory → Happens (history ▸ collects slip memory answer)

-- The inquiry of this slip has not ended: collecting it now is refused for that.
abbrev pub Unfinished : History → Slip → Type 0
Unfinished history slip = Tells history slip (Err NotEnded)

-- How many pulses are among these calls.
abbrev pub pulses_in : List Event → ℕ
pulses_in [] = 0
pulses_in (lodges c d answer ∷ more) = pulses_in more
pulses_in (pulses line line_after ∷ more) = 1 + pulses_in more
pulses_in (collects slip memory answer ∷ more) = pulses_in more
