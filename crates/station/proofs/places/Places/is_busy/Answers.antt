use Rattle.std.proofs.Common.{rules, vec_items, is_some, ap, ◌∙◌}
use Rattle.std.proofs.lemmas.Iterator.{YieldsList-from_slice}
use Rattle.std.proofs.lemmas.Iterator.Search.{any_from_yields_List}
use Rattle.station.specs.Inquiries.{under_way}
use Rattle.station.specs.Stations.{first}
use Rattle.station.proofs.Looking.{any_first}
use Rattle.station.proofs.places.Places.is_busy.Goals as goal

pub returns : goal.returns
returns c =
    let items = vec_items c.self.inside.inquiries in
    record {
      busy = any_from_yields_List (λ q. under_way q.stage) _ _ c.any.result c.any.ensures.ran (YieldsList-from_slice items cc) (λ x b q k. search rules)
          ∙ any_first items ∙ ap (λ qs. is_some (first under_way qs)) c.self.view_is;
    }
