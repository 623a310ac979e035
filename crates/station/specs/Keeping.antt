-- All promises together, in the form in which each call is to carry them.
use Rattle.std.specs.Prelude.{ℕ, ◌+◌, ◌*◌}
use Rattle.station.specs.Stations.{Station}
use Rattle.station.specs.Histories.{Event, History, ◌▸◌, Run, Step}
use Rattle.station.specs.Attempts.{FaultsAreEarned}
use Rattle.station.specs.Promises.{EndsInTime, CollectsByTheRules, SendsInOrder, AnswersWereRead}

-- Every promise holds of the history.
pub record KeepsItsPromises (whole : History) : Type 0 where
  pub ends_in_time : (others : ℕ) → EndsInTime others (71 + 70 * others) whole
  pub collects_by_the_rules : CollectsByTheRules whole
  pub sends_in_order : SendsInOrder 4 whole
  pub answers_were_read : AnswersWereRead 6 whole
  pub faults_are_earned : FaultsAreEarned 4 whole

-- Whatever calls led to the station before, this one leads on to the station after, and every promise holds.
abbrev pub GoesOn : Station → Event → Station → Type 0
GoesOn before event after = (history : History) → Run history before → Run (history ▸ event) after × KeepsItsPromises (history ▸ event)

-- A call that does what the rules say goes on so.
abbrev pub RulesKeepThePromises : Type 0
RulesKeepThePromises = (before : Station) (event : Event) (after : Station) → Step before event after → GoesOn before event after
