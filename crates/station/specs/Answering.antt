-- What lodging and collecting answer, as the rules have it.
use Rattle.std.specs.Prelude.{◌≡◌, ℕ, List, ◌++◌, length, drop, Ok, Err, Result}
use Rattle.station.specs.declared.fault.Fault.{Fault}
use Rattle.station.specs.declared.refusal.Refusal.{Refusal}
use Rattle.station.specs.Inquiries as rules
use Rattle.station.specs.Inquiries.{answered, failed}
use Rattle.station.specs.Stations as rules_of
use Rattle.station.specs.Stations.{collect_answer, collect_after}
use Rattle.station.specs.declared.outcome.Outcome.{Outcome}

-- How an inquiry ended: an answer's data stands at the start of the memory, whose other bytes stay.
abbrev pub EndedAs : rules.Ending → List ℕ → Result ℕ Fault → List ℕ → Type 0
EndedAs (answered d) before told after = (told ≡ Ok (length d)) × (after ≡ d ++ drop (length d) before)
EndedAs (failed f) before told after = (told ≡ Err f) × (after ≡ before)

-- The outcome that an inquiry tells, or why it tells none.
abbrev pub Told : Result rules.Outcome Refusal → List ℕ → Result Outcome Refusal → List ℕ → Type 0
Told (Err e) before told after = (told ≡ Err e) × (after ≡ before)
Told (Ok x) before told after = (ending : Result ℕ Fault) × (told ≡ Ok (record { copies = x.copies; ending = ending })) × EndedAs x.ending before ending after

-- With a refusal the slip comes back.
abbrev pub handed : rules_of.Slip → Result Outcome Refusal → Result Outcome (rules_of.Slip × Refusal)
handed slip (Ok o) = Ok o
handed slip (Err e) = Err (slip, e)

-- What collecting does: what it answers, what the memory holds then, and what is left in the station.
pub record Collected (s : rules_of.Station) (slip : rules_of.Slip) (before : List ℕ) (told : Result Outcome (rules_of.Slip × Refusal)) (s_after : rules_of.Station) (after : List ℕ) : Type 0 where
  pub outcome : Result Outcome Refusal
  pub answer : told ≡ handed slip outcome
  pub memory : Told (collect_answer s slip (length before)) before outcome after
  pub station : s_after ≡ collect_after s slip (collect_answer s slip (length before))
