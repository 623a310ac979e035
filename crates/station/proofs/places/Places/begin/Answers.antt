use Rattle.std.proofs.Common.{rules, ◌∙◌}
use Rattle.station.specs.Exchange.{begun}
use Rattle.station.specs.Inquiries.{waits_still}
use Rattle.station.proofs.Firsts.{first_passes, none_changes, as_replaced}
use Rattle.station.proofs.Looking.{none_begins, oldest_begins}
use Rattle.station.proofs.places.Places.begin.Goals as goal

pub returns-then-is_busy : goal.returns-then-is_busy
returns-then-is_busy c = record { begun = none_begins c.args.self.now c.if-is_busy.ensures.busy }

pub begin-requires : goal.begin-requires
begin-requires c = first_passes waits_still _ c.args.self.now (c.in-Some.ensures.held waits_still (λ q b r. search rules))

pub returns-in-Some : goal.returns-in-Some
returns-in-Some c =
    let lent = rw c.in-Some.is at (c.first_mut.follows.holds c.begin.new.self) in
    record {
      begun = lent waits_still (λ q b r. search rules) ∙ as_replaced waits_still begun _ _ c.args.self.now (c.in-Some.ensures.held waits_still (λ q b r. search rules)) c.begin.ensures.begun
          ∙ oldest_begins c.args.self.now c.if-is_busy.ensures.busy;
    }

pub returns-in_default : goal.returns-in_default
returns-in_default c =
    record {
      begun = c.first_mut.follows.holds-at-none ∙ none_changes waits_still begun c.args.self.now (c.in_default.ensures.held waits_still (λ q b r. search rules))
          ∙ oldest_begins c.args.self.now c.if-is_busy.ensures.busy;
    }
