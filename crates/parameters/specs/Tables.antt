-- What a table store means.
use Rattle.std.specs.Prelude.{◌≡◌, ℕ, ◌*◌, ◌≤◌, Bool, true, false, List, [], ◌∷◌, length, ◌==◌, nat_le, refl}
use Rattle.std.proofs.Common.{arith, length-take}
use Rattle.std.specs.List.{flat_map}
use Rattle.std.proofs.lemmas.Bool.{and_from, le-leb, eq-eqb}
use Rattle.parameters.specs.declared.parameter.Parameter.{Parameter}
use Rattle.parameters.specs.declared.parameter.Parameter.TheVariants.{OwnPollingGroup, RadioAcknowledge, RelayRouteStatus, RelayRoute, PollingRoute, GroupNumber, PollingTime, UserTimeOut, ExchangeStatus, SwitchMode}
use Rattle.parameters.specs.declared.parameter.Lawful.TheVariants.{ByteUpto, RouteUpto}
use Rattle.parameters.specs.declared.route.Address.{Address}
use Rattle.parameters.specs.declared.route.Route.{Route}
use Rattle.parameters.specs.declared.table.TableStore.{TableStore}
use Rattle.parameters.specs.declared.value.Reports.{Reports}
use Rattle.parameters.specs.declared.value.Reports.TheVariants.{Neither, Errors, Statuses, Both}
use Rattle.parameters.specs.Parameters.{admits, lawful_for}
use Rattle.parameters.specs.Values.{Values}
use Rattle.parameters.specs.Forms.{byte_form, flag_form, status_form}
use Rattle.parameters.specs.Routes.{address_bytes, stops, route_form}

-- The value that a table store holds for each parameter: the form of the record.
abbrev pub table_held : TableStore → Values
table_held table OwnPollingGroup = byte_form table.own_polling_group
table_held table RadioAcknowledge = flag_form table.radio_acknowledge
table_held table RelayRouteStatus = flag_form table.relay_route_status
table_held table RelayRoute = route_form (stops table.relay_route)
table_held table PollingRoute = route_form (stops table.polling_route)
table_held table GroupNumber = byte_form table.group_number
table_held table PollingTime = byte_form table.polling_time
table_held table UserTimeOut = byte_form table.user_time_out
table_held table ExchangeStatus = status_form table.exchange_status
table_held table SwitchMode = flag_form table.switch_mode

-- Each address takes six bytes.
pub joined_length : (addresses : List Address) → length (flat_map address_bytes addresses) ≡ 6 * length addresses
joined_length [] = refl
joined_length (a ∷ rest) = omega (arith, joined_length rest)

-- A flag's form is lawful.
flag_sound : (flag : Bool) → admits (ByteUpto 1) (flag_form flag) ≡ true
flag_sound true = refl
flag_sound false = refl

-- So is the form of what a card reports on its own.
status_sound : (reports : Reports) → admits (ByteUpto 3) (status_form reports) ≡ true
status_sound Neither = refl
status_sound Errors = refl
status_sound Statuses = refl
status_sound Both = refl

-- So is the form of a route.
route_sound : (most : ℕ) (route : Route most) → admits (RouteUpto most) (route_form (stops route)) ≡ true
route_sound most route =
    let few : length (stops route) ≤ most = simp length-take (omega arith) in
    and_from (nat_le (length (stops route)) most) (length (flat_map address_bytes (stops route)) == 6 * length (stops route))
    (le-leb (length (stops route)) most few)
    (eq-eqb (length (flat_map address_bytes (stops route))) (6 * length (stops route)) (joined_length (stops route)))

-- Each value that a table store holds is lawful.
pub table_sound : (table : TableStore) (p : Parameter) → lawful_for p (table_held table p) ≡ true
table_sound table OwnPollingGroup = refl
table_sound table RadioAcknowledge = flag_sound table.radio_acknowledge
table_sound table RelayRouteStatus = flag_sound table.relay_route_status
table_sound table RelayRoute = route_sound 3 table.relay_route
table_sound table PollingRoute = route_sound 40 table.polling_route
table_sound table GroupNumber = refl
table_sound table PollingTime = refl
table_sound table UserTimeOut = refl
table_sound table ExchangeStatus = status_sound table.exchange_status
table_sound table SwitchMode = flag_sound table.switch_mode
