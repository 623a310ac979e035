use Rattle.std.proofs.Common.{rules, eqb}
use Rattle.std.proofs.lemmas.Iterator.{YieldsList-from_slice}
use Rattle.std.proofs.lemmas.Iterator.Search.{any_from_yields_List}
use Rattle.station.specs.declared.command.Command.{Command}
use Rattle.station.proofs.command.answers_some.Goals as goal

pub returns : goal.returns
returns c =
    record { answers = any_from_yields_List (λ (r : Command). eqb r.answer c.args.cmd) _ _ c.any.result c.any.ensures.ran (YieldsList-from_slice _ c.iter.ensures.rest) (λ x b q k. search rules) }
