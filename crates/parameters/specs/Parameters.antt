-- The ten parameters, which values are lawful for each, and what each holds at first.
use Rattle.std.specs.Prelude.{ℕ, ◌*◌, Bool, false, cond, ◌&&◌, List, [], ◌∷◌, length, Some, None, Option, ◌==◌, nat_le}
use Rattle.std.specs.Option.{option_map}
use Rattle.parameters.specs.declared.parameter.Parameter.{Parameter}
use Rattle.parameters.specs.declared.parameter.Parameter.TheVariants.{OwnPollingGroup, RadioAcknowledge, RelayRouteStatus, RelayRoute, PollingRoute, GroupNumber, PollingTime, UserTimeOut, ExchangeStatus, SwitchMode}
use Rattle.parameters.specs.declared.parameter.Lawful.{Lawful}
use Rattle.parameters.specs.declared.parameter.Lawful.TheVariants.{AnyByte, ByteUpto, RouteUpto}
use Rattle.parameters.specs.declared.parameter.Row.{Row}

-- What is fixed about a parameter, in one line.
abbrev pub fixed : ℕ → Parameter → Lawful → ℕ → Row
fixed number p lawful first = record { number = number; parameter = p; lawful = lawful; first = first }

-- The table of the parameters: number, lawful values, first value.
abbrev pub row_for : Parameter → Row
row_for OwnPollingGroup = fixed 0x03 OwnPollingGroup AnyByte 0
row_for RadioAcknowledge = fixed 0x04 RadioAcknowledge (ByteUpto 1) 1
row_for RelayRouteStatus = fixed 0x06 RelayRouteStatus (ByteUpto 1) 0
row_for RelayRoute = fixed 0x07 RelayRoute (RouteUpto 3) 0
row_for PollingRoute = fixed 0x08 PollingRoute (RouteUpto 40) 0
row_for GroupNumber = fixed 0x09 GroupNumber AnyByte 0
row_for PollingTime = fixed 0x0A PollingTime AnyByte 0x0A
row_for UserTimeOut = fixed 0x0C UserTimeOut AnyByte 0x14
row_for ExchangeStatus = fixed 0x0E ExchangeStatus (ByteUpto 3) 0
row_for SwitchMode = fixed 0x10 SwitchMode (ByteUpto 1) 1

-- The parameters in rising number.
abbrev pub parameters : List Parameter
parameters =
    OwnPollingGroup ∷ RadioAcknowledge ∷ RelayRouteStatus ∷ RelayRoute ∷ PollingRoute
    ∷ GroupNumber ∷ PollingTime ∷ UserTimeOut ∷ ExchangeStatus ∷ SwitchMode ∷ []

-- The first of some parameters that has a number.
abbrev pub numbered_in : ℕ → List Parameter → Option Parameter
numbered_in number [] = None
numbered_in number (p ∷ ps) = cond ((row_for p).number == number) (Some p) (numbered_in number ps)

-- The parameter with a number, if there is one.
abbrev pub parameter_numbered : ℕ → Option Parameter
parameter_numbered number = numbered_in number parameters

-- The row of the parameter with a number, if there is one.
abbrev pub row_numbered : ℕ → Option Row
row_numbered number = option_map row_for (parameter_numbered number)

-- Whether a list of bytes is a lawful value.
abbrev pub admits : Lawful → List ℕ → Bool
admits AnyByte value = length value == 1
admits (ByteUpto most) [] = false
admits (ByteUpto most) (byte ∷ rest) = nat_le byte most && length rest == 0
admits (RouteUpto most) [] = false
admits (RouteUpto most) (count ∷ addresses) = nat_le count most && length addresses == 6 * count

-- Whether a list of bytes is a lawful value for a parameter.
abbrev pub lawful_for : Parameter → List ℕ → Bool
lawful_for p value = admits (row_for p).lawful value

-- What a parameter holds at first.
abbrev pub first_value : Parameter → List ℕ
first_value p = (row_for p).first ∷ []
