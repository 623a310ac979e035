-- Routes, and their form in bytes.
use Rattle.std.specs.Prelude.{ℕ, min, List, [], ◌∷◌, length, take}
use Rattle.std.specs.List.{flat_map}
use Rattle.parameters.specs.declared.route.Address.{Address}
use Rattle.parameters.specs.declared.route.Route.{Route}

-- The bytes of an address, first to last.
abbrev pub address_bytes : Address → List ℕ
address_bytes a = a.0 ∷ a.1 ∷ a.2 ∷ a.3 ∷ a.4 ∷ a.5 ∷ []

-- The addresses of a route, first to last: never more than it has room for.
abbrev pub stops : {most : ℕ} → Route most → List Address
stops {most} route = take (min route.count most) route.addresses

-- The form of a list of addresses: their count, then the bytes of each.
abbrev pub route_form : List Address → List ℕ
route_form addresses = length addresses ∷ flat_map address_bytes addresses
