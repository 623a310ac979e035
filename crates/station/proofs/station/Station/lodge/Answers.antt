use Rattle.std.proofs.Common.{ap}
use Rattle.station.specs.Inquiries.{under_way}
use Rattle.station.proofs.Alone.{joins_alone}
use Rattle.station.proofs.station.Station.lodge.Goals as goal

pub invariant_of-self : goal.invariant_of-self
invariant_of-self c = rw c.add.ensures.added (joins_alone c.self.inside.places c.new.result (ap (λ q. under_way q.stage) c.new.ensures.waits) c.self.invariant)
