use Rattle.std.proofs.Common.{Bool, Some, None, vec_items, sym, refl, ap, ◌∙◌, of_calls, arith}
use Rattle.std.proofs.lemmas.Fn.{says_at}
use Rattle.std.proofs.lemmas.Iterator.{YieldsList-from_slice}
use Rattle.std.proofs.lemmas.Iterator.Adapters.{serves_from_places}
use Rattle.std.proofs.lemmas.Iterator.Search.{position_from_yields_List}
use Rattle.std.specs.Fn.{FnReturnsAt}
use Rattle.station.specs.Inquiries.{Stage}
use Rattle.station.specs.Tables.{Tests}
use Rattle.station.specs.Stations.{change, first}
use Rattle.station.proofs.Looking.{FoundAt, found_at, lent_first, on_some}
use Rattle.station.proofs.places.Places.first_mut.Goals as goal

pub position-requires-clause-callable : goal.position-requires-clause-callable
position-requires-clause-callable g c =
    serves_from_places (YieldsList-from_slice (vec_items c.self.inside.inquiries) cc) (λ x q e. e.met.1) (λ x k less is. search of_calls)

pub returns-in_err-place : goal.returns-in_err-place
returns-in_err-place g c =
    let items = vec_items c.self.inside.inquiries in
    rw c.from_residual.ensures (
      (refl, λ w. tt, c.self.view_is),
      record {
        lent = tt;
        held = λ test says. ap (first test) (sym c.self.view_is)
            ∙ found_at test items None (position_from_yields_List (λ q. test q.stage) _ _ None c.in_err-place.ensures.ran (YieldsList-from_slice items cc)
            (λ x b q k. (k.met.1, says x.now b (says_at g.F.Fn k.met.0 refl))));
      },
    )

pub returns : goal.returns
returns g c =
    let items = vec_items c.self.inside.inquiries in
    let i = c.in_ok-place.place in
    let r = c.get_mut.result in
    let found : (test : Stage → Bool) → Tests (FnReturnsAt g.F.Fn c.args.is_so) test → FoundAt test items (Some i) = λ test says.
    found_at test items (Some i) (position_from_yields_List (λ q. test q.stage) _ _ (Some i) c.in_ok-place.ensures.ran (YieldsList-from_slice items cc)
    (λ x b q k. (k.met.1, says x.now b (says_at g.F.Fn k.met.0 refl)))) in (
      (refl, λ w. on_some r (λ test says. (found test says).2 w ∙ ap (change test (λ q. w)) c.self.view_is), c.self.view_is),
      record {
        lent = tt;
        held = λ test says. ap (first test) (sym c.self.view_is)
            ∙ lent_first test items i (found test says) r (c.get_mut.ensures.variant.1 (omega (arith, (found test says).0, c.self.inside.inquiries.ok.0))) c.get_mut.ensures.value;
      },
    )
