-- Each address takes six bytes.
use Rattle.std.proofs.Common.{length, ap, arith}
use Rattle.parameters.specs.Routes.{stops}
use Rattle.parameters.specs.Tables.{joined_length}
use Rattle.parameters.proofs.route.RouteValue.length.Goals as goal

pub returns : goal.returns
returns g c =
    let count = ap length c.addresses.ensures.addresses in
    record { length = omega (arith, count, joined_length (stops c.args.self.now)) }
