use Rattle.station.proofs.Alone.{change_alone, begins_alone, attempts_alone}
use Rattle.station.proofs.station.Station.pulse.Goals as goal

pub invariant_of-self : goal.invariant_of-self
invariant_of-self g c =
    rw (c.attempt.ensures.attempted.rule.places, c.begin.ensures.begun, c.tick.ensures.ticked) (attempts_alone _ _ (begins_alone _ (change_alone _ _ c.self.invariant)))
