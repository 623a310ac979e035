use Rattle.std.proofs.Common.{refl, rules}
use Rattle.station.specs.Inquiries.{is_due}
use Rattle.station.proofs.Firsts.{attempt_made, none_due}
use Rattle.station.proofs.places.Places.attempt.Goals as goal

pub returns-in-Some : goal.returns-in-Some
returns-in-Some g c =
    let lent = rw c.in-Some.is at (c.first_mut.follows.holds c.attempt.new.self) in
    record {
      attempted = record {
        rule = rw (lent is_due (λ q b r. search rules))
            (attempt_made c.args.self.now (g.L.Line.meaning c.args.line.now) _ _ (g.L.Line.meaning c.attempt.new.line) (c.in-Some.ensures.held is_due (λ q b r. search rules)) c.attempt.ensures.tries.rule);
        fixed = c.attempt.ensures.tries.fixed;
      };
    }

pub returns-in_default : goal.returns-in_default
returns-in_default g c =
    record { attempted = record { rule = rw c.first_mut.follows.holds-at-none (none_due c.args.self.now (g.L.Line.meaning c.args.line.now) (c.in_default.ensures.held is_due (λ q b r. search rules))); fixed = refl } }
