use Rattle.std.proofs.Common.{rules, ◌∙◌}
use Rattle.station.specs.Exchange.{ticked}
use Rattle.station.specs.Inquiries.{under_way}
use Rattle.station.proofs.Firsts.{none_changes, as_replaced}
use Rattle.station.proofs.places.Places.tick.Goals as goal

pub returns-in-Some : goal.returns-in-Some
returns-in-Some c =
    let lent = rw c.in-Some.is at (c.first_mut.follows.holds c.tick.new.self) in
    record { ticked = lent under_way (λ q b r. search rules) ∙ as_replaced under_way ticked _ _ c.args.self.now (c.in-Some.ensures.held under_way (λ q b r. search rules)) c.tick.ensures.ticked }

pub returns-in_default : goal.returns-in_default
returns-in_default c =
    record { ticked = c.first_mut.follows.holds-at-none ∙ none_changes under_way ticked c.args.self.now (c.in_default.ensures.held under_way (λ q b r. search rules)) }
