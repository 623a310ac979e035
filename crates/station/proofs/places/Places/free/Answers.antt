use Rattle.std.proofs.Common.{vec_items, ap, ◌∙◌}
use Rattle.frames.specs.Numbered.{place_of}
use Rattle.station.specs.Inquiries.{Inquiry}
use Rattle.station.proofs.Holding.{held_at}
use Rattle.station.proofs.places.Places.free.Goals as goal

pub returns-in-Some : goal.returns-in-Some
returns-in-Some c =
    let holds = held_at c.args.number (vec_items c.self.inside.inquiries) _ (c.in-Some.ensures.place ∙ ap (λ l. place_of (λ (q : Inquiry). q.number) c.args.number l) c.as_slice.ensures.value) in
    rw (← c.self.view_is) (record { freed = c.remove.ensures.items ∙ holds.2 })

pub returns-in_default : goal.returns-in_default
returns-in_default c =
    let holds = held_at c.args.number (vec_items c.self.inside.inquiries) _ (c.in_default.ensures.place ∙ ap (λ l. place_of (λ (q : Inquiry). q.number) c.args.number l) c.as_slice.ensures.value) in
    rw (← c.self.view_is) (record { freed = holds.1 })
