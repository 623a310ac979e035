use Rattle.station.proofs.Trying.{faults_are_earned}
use Rattle.station.proofs.promises.attempts_made.Goals as goal

pub returns-clause-law : goal.returns-clause-law
returns-clause-law c = faults_are_earned
