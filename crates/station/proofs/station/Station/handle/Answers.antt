use Rattle.std.proofs.Common.{ap}
use Rattle.station.specs.Stations.{with_places}
use Rattle.station.proofs.Alone.{change_alone}
use Rattle.station.proofs.HeardOn.{none_unheard}
use Rattle.station.proofs.station.Station.handle.Goals as goal

pub invariant_of-self : goal.invariant_of-self
invariant_of-self g c = rw c.hear.ensures.heard (change_alone _ c.self.inside.places c.self.invariant)

pub returns-in_default : goal.returns-in_default
returns-in_default g c =
    let all = none_unheard c.args.finding.now c.in_default.not-Frame c.args.self.now.places in
    record { handled = record { rule = record { station = ap (with_places c.args.self.now) all; puts = c.reply.ensures.replied.rule }; fixed = c.reply.ensures.replied.fixed } }
