-- A byte of an address is what its six bytes have at that place.
use Rattle.std.proofs.Common.{◌≡◌, slice_get, ◌∙◌, rules}
use Rattle.parameters.specs.Routes.{address_bytes}
use Rattle.parameters.proofs.RouteForm.{byte_got}
use Rattle.parameters.proofs.route.Address.byte.Goals as goal

pub returns : goal.returns
returns c =
    let got : c.copied.result ≡ slice_get (address_bytes c.args.self) c.args.place = search rules in
    record { byte = got ∙ byte_got (address_bytes c.args.self) c.args.place }
