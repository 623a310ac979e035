-- Each call by the rules keeps every promise.
use Rattle.std.proofs.Common.{◌+◌, ◌*◌, arith}
use Rattle.station.specs.Histories.{◌▸◌, Happens}
use Rattle.station.specs.Keeping.{RulesKeepThePromises}
use Rattle.station.proofs.Handing.{collects_by_the_rules}
use Rattle.station.proofs.InTime.{ends_in_time}
use Rattle.station.proofs.SendingOrder.{sends_in_order}
use Rattle.station.proofs.AnswersRead.{answers_were_read}
use Rattle.station.proofs.Trying.{faults_are_earned}

pub rules_keep_the_promises : RulesKeepThePromises
rules_keep_the_promises before event after step history run =
    let happens : Happens (history ▸ event) = (after, (before, run, step)) in (
      (before, run, step),
      record {
        ends_in_time = λ others. ends_in_time others (71 + 70 * others) (omega arith) (history ▸ event) happens;
        collects_by_the_rules = collects_by_the_rules (history ▸ event) happens;
        sends_in_order = sends_in_order (history ▸ event) happens;
        answers_were_read = answers_were_read (history ▸ event) happens;
        faults_are_earned = faults_are_earned (history ▸ event) happens;
      },
    )
