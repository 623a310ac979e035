-- A field with other bytes than 0 behind its value is refused.
use Rattle.std.proofs.Common.{◌≡◌, ◌+◌, ◌-◌, take, drop, is_ok, is_some, ◌∙◌, arith, rules}
use Rattle.parameters.specs.Images.{blank, used}
use Rattle.parameters.proofs.Opening.{blank_is}
use Rattle.parameters.proofs.table.opened.value_of.Goals as goal

pub returns-clause-blank : goal.returns-clause-blank
returns-clause-blank c =
    let s = c.start_of-start.result in
    let k = s + c.width.result - s in
    let lawful = c.lawful-lawful.result in
    let part = take k (drop s c.args.image.now) in
    let wide : k ≡ c.width.result = omega arith in
    let some : is_ok c.ok_or.result ≡ is_some c.value_in.result = search rules in
    let tells : is_some c.value_in.result ≡ blank (drop (used lawful part) part) = search rules in
    some ∙ tells
    ∙ blank_is c.args.image.now c.args.parameter lawful s k c.lawful-lawful.ensures.lawful c.start_of-start.ensures.start
    (wide ∙ c.width.ensures.width)
