-- A lawful write goes into its field too, so the image opens to the values as they then are.
use Rattle.std.proofs.Common.{◌≡◌, ◌+◌, ◌-◌, length, take, drop, replicate, ◌++◌, Some, sym, ap, ◌∙◌, arith, rules}
use Rattle.std.proofs.lemmas.List.{places}
use Rattle.parameters.specs.Parameters.{row_numbered}
use Rattle.parameters.specs.Tables.{table_held}
use Rattle.parameters.proofs.InStep.{stays_open}
use Rattle.parameters.proofs.image.keep.Goals as goal

pub returns-clause-step : goal.returns-clause-step
returns-clause-step c =
    let image = c.args.image.now in
    let value = c.args.value.now in
    let s = c.start_of-start.result in
    let k = s + c.width.result - s in
    let wide : k ≡ c.width.result = omega arith in
    let room : length (take k (drop s image)) ≡ k = search (rules, places) in
    let row : Some c.in_ok-row.row ≡ row_numbered c.args.number = search rules in
    stays_open image (table_held c.args.table.now) (table_held c.write.new.self) c.args.number c.in_ok-row.row value
    s k c.put.new.field row (sym c.in_ok-write.ensures.taken) c.in_ok-write.ensures.held
    c.start_of-start.ensures.start (wide ∙ c.width.ensures.width)
    (c.put.ensures.put ∙ ap (λ n. value ++ replicate (n - length value) 0) room) c.requires
