-- A byte of the form is the count, or lies in one of the addresses, or behind them.
use Rattle.std.proofs.Common.{◌≡◌, suc, ◌-◌, ◌/◌, ◌<◌, ◌≤◌, length, get_or, ap, ◌∙◌, subst, arith}
use Rattle.parameters.specs.Values.{byte_at}
use Rattle.parameters.specs.Routes.{stops, route_form}
use Rattle.parameters.proofs.RouteForm.{byte_behind, none_behind}
use Rattle.parameters.proofs.route.RouteValue.byte.Goals as goal

pub returns-in_err-get : goal.returns-in_err-get
returns-in_err-get g c =
    let k = c.args.place - 1 in
    let place : suc k ≡ c.args.place = omega arith in
    let past : length (stops c.args.self.now) ≤ k / 6 =
    subst (λ xs. length xs ≤ k / 6) c.addresses-addresses.ensures.addresses c.in_err-get.ensures.lookup.3 in
    record {
      byte = c.from_residual.ensures ∙ none_behind (stops c.args.self.now) k past
          ∙ ap (byte_at (route_form (stops c.args.self.now))) place;
    }

pub returns : goal.returns
returns g c =
    let k = c.args.place - 1 in
    let a = c.in_ok-get.field-0.now in
    let place : suc k ≡ c.args.place = omega arith in
    let found = c.in_ok-get.ensures.lookup in
    let same = c.addresses-addresses.ensures.addresses in
    let within : k / 6 < length (stops c.args.self.now) = subst (λ xs. k / 6 < length xs) same found.3.0 in
    let at : a ≡ get_or (stops c.args.self.now) (k / 6) a = subst (λ xs. a ≡ get_or xs (k / 6) a) same found.1 in
    record {
      byte = c.byte.ensures.byte ∙ byte_behind (stops c.args.self.now) a k within at
          ∙ ap (byte_at (route_form (stops c.args.self.now))) place;
    }
