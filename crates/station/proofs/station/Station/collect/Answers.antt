use Rattle.station.proofs.Alone.{leaves_alone}
use Rattle.station.proofs.station.Station.collect.Goals as goal

pub invariant_of-self : goal.invariant_of-self
invariant_of-self c = rw c.free.ensures.freed (leaves_alone c.slip.inside.number c.self.inside.places c.self.invariant)
