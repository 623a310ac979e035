use Rattle.std.proofs.Common.{rules, ◌∙◌}
use Rattle.frames.specs.Finding.{frame as a_frame}
use Rattle.frames.specs.Reading.{frame_data}
use Rattle.station.specs.Inquiries as rules_of
use Rattle.station.specs.Inquiries.{under_way}
use Rattle.station.specs.Steps.{hears_one}
use Rattle.station.proofs.Firsts.{none_changes, as_replaced}
use Rattle.station.proofs.places.Places.hear.Goals as goal

pub returns-in-Some : goal.returns-in-Some
returns-in-Some c =
    let f : rules_of.Inquiry → rules_of.Inquiry = λ q. hears_one q (a_frame c.args.frame.now.cmd (frame_data c.args.frame.now)) in
    let lent = rw c.in-Some.is at (c.first_mut.follows.holds c.hear.new.self) in
    record { heard = lent under_way (λ q b r. search rules) ∙ as_replaced under_way f _ _ c.args.self.now (c.in-Some.ensures.held under_way (λ q b r. search rules)) c.hear.ensures.heard }

pub returns-in_default : goal.returns-in_default
returns-in_default c =
    record { heard = c.first_mut.follows.holds-at-none ∙ none_changes under_way _ c.args.self.now (c.in_default.ensures.held under_way (λ q b r. search rules)) }
