use Rattle.station.proofs.Handing.{collects_by_the_rules}
use Rattle.station.proofs.promises.least_memory.Goals as goal

pub returns-clause-law : goal.returns-clause-law
returns-clause-law c = collects_by_the_rules
