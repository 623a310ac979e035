-- Bringing goes on with every history.
use Rattle.std.proofs.Common.{rules}
use Rattle.lines.specs.Runs.{brings}
use Rattle.lines.proofs.Orders.{goes_on}
use Rattle.lines.proofs.wire.WireFarEnd.bring.Goals as goal

pub returns-clause-law : goal.returns-clause-law
returns-clause-law c = goes_on _ _ (brings c.args.byte c.push.result) (search rules)
