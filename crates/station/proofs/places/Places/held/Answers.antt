use Rattle.std.proofs.Common.{Some, vec_items, ap, sym, ◌∙◌}
use Rattle.frames.specs.Numbered.{place_of}
use Rattle.station.specs.Inquiries.{Inquiry}
use Rattle.station.proofs.Holding.{held_at}
use Rattle.station.proofs.places.Places.held.Goals as goal

pub returns-in_err-place : goal.returns-in_err-place
returns-in_err-place c =
    let holds = held_at c.args.number (vec_items c.self.inside.inquiries) _ (c.in_err-place.ensures.place ∙ ap (λ l. place_of (λ (q : Inquiry). q.number) c.args.number l) c.as_slice.ensures.value) in
    rw (← c.self.view_is, c.from_residual.ensures) (record { held = sym holds.0 })

pub returns : goal.returns
returns c =
    let holds = held_at c.args.number (vec_items c.self.inside.inquiries) _ (c.in_ok-place.ensures.place ∙ ap (λ l. place_of (λ (q : Inquiry). q.number) c.args.number l) c.as_slice.ensures.value) in
    rw (← c.self.view_is) (record { held = ap Some c.index.ensures ∙ holds.1 c.index.result.now })
