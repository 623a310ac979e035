use Rattle.station.proofs.SendingOrder.{sends_in_order}
use Rattle.station.proofs.promises.most_copies.Goals as goal

pub returns-clause-law : goal.returns-clause-law
returns-clause-law c = sends_in_order
