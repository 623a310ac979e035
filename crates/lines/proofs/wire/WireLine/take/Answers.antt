-- Taking goes on with every history.
use Rattle.std.proofs.Common.{rules}
use Rattle.lines.specs.Runs.{takes}
use Rattle.lines.proofs.Orders.{goes_on}
use Rattle.lines.proofs.wire.WireLine.take.Goals as goal

pub returns-clause-law : goal.returns-clause-law
returns-clause-law c = goes_on _ _ (takes c.pop.result) (search rules)
