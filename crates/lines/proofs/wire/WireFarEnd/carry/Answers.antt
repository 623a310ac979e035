-- Carrying goes on with every history.
use Rattle.std.proofs.Common.{rules}
use Rattle.lines.specs.Runs.{carries}
use Rattle.lines.proofs.Orders.{goes_on}
use Rattle.lines.proofs.wire.WireFarEnd.carry.Goals as goal

pub returns-clause-law : goal.returns-clause-law
returns-clause-law c = goes_on _ _ (carries c.pop.result) (search rules)
