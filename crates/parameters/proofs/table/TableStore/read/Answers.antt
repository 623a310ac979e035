-- The first field that is not sound refuses the image; each sound one is one parameter more.
use Rattle.std.proofs.Common.{sym, refl, ◌∙◌}
use Rattle.parameters.specs.Tables.{table_held}
use Rattle.parameters.proofs.Opening.{not_ok, refuse_next, read_next}
use Rattle.parameters.proofs.table.TableStore.read.Goals as goal

pub returns-in_err-take_over-clause-sound : goal.returns-in_err-take_over-clause-sound
returns-in_err-take_over-clause-sound c =
    not_ok c.from_residual.result c.from_residual.ensures.0
    ∙ sym (refuse_next c.args.image.now c.loop-row.row-index _ c.in_err-take_over.ensures.taken)

pub loop-row-preserved : goal.loop-row-preserved
loop-row-preserved c =
    read_next c.args.image.now (table_held c.loop-row.table) (table_held c.take_over.new.self) c.loop-row.row-index _
    c.loop-row-test.true c.loop-row.invariant c.in_ok-take_over.ensures.taken (c.in_ok-take_over.ensures.held refl)
