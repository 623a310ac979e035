use Rattle.station.proofs.Keeping.{rules_keep_the_promises}
use Rattle.station.proofs.promises.rules_keep_promises.Goals as goal

pub returns-clause-law : goal.returns-clause-law
returns-clause-law c = rules_keep_the_promises
