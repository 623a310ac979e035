-- Putting goes on with every history.
use Rattle.std.proofs.Common.{rules}
use Rattle.lines.specs.Runs.{puts}
use Rattle.lines.proofs.Orders.{goes_on}
use Rattle.lines.proofs.wire.WireLine.put.Goals as goal

pub returns-clause-law : goal.returns-clause-law
returns-clause-law c = goes_on _ _ (puts c.args.bytes.now c.append.result) (search rules)
