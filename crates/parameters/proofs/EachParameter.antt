-- What holds of each of the ten parameters holds of every parameter.
use Rattle.parameters.specs.declared.parameter.Parameter.{Parameter}
use Rattle.parameters.specs.declared.parameter.Parameter.TheVariants.{OwnPollingGroup, RadioAcknowledge, RelayRouteStatus, RelayRoute, PollingRoute, GroupNumber, PollingTime, UserTimeOut, ExchangeStatus, SwitchMode}

pub each_parameter : (P : Parameter → Type 0)
    → P OwnPollingGroup → P RadioAcknowledge → P RelayRouteStatus → P RelayRoute → P PollingRoute
    → P GroupNumber → P PollingTime → P UserTimeOut → P ExchangeStatus → P SwitchMode → (p : Parameter) → P p
each_parameter P a b c d e f g h i j OwnPollingGroup = a
each_parameter P a b c d e f g h i j RadioAcknowledge = b
each_parameter P a b c d e f g h i j RelayRouteStatus = c
each_parameter P a b c d e f g h i j RelayRoute = d
each_parameter P a b c d e f g h i j PollingRoute = e
each_parameter P a b c d e f g h i j GroupNumber = f
each_parameter P a b c d e f g h i j PollingTime = g
each_parameter P a b c d e f g h i j UserTimeOut = h
each_parameter P a b c d e f g h i j ExchangeStatus = i
each_parameter P a b c d e f g h i j SwitchMode = j
