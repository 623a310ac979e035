-- Which refusal the bytes get, and that opened bytes open to the values read from them.
use Rattle.std.proofs.Common.{◌≡◌, length, sym, arith}
use Rattle.parameters.proofs.Refusing.{not_refused}
use Rattle.parameters.proofs.image.ImageStore.open.Goals as goal

pub invariant_of-result : goal.invariant_of-result
invariant_of-result c =
    let whole : length c.args.image.now ≡ 268 = omega arith in
    record { step = record { opens = sym (not_refused c.args.image.now whole c.in-Ok.ensures.sound); tells = λ p. sym (c.in-Ok.ensures.held p) } }

pub returns-clause-cause : goal.returns-clause-cause
returns-clause-cause c =
    let whole : length c.args.image.now ≡ 268 = omega arith in
    not_refused c.args.image.now whole c.in-Ok.ensures.sound
