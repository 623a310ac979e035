-- What a card holds that frames can ask for and change.
use Rattle.std.specs.Prelude.{◌≡◌, ℕ}
use Rattle.parameters.specs.declared.parameter.Parameter.{Parameter}
use Rattle.parameters.specs.Values.{Values}

-- The values of the ten parameters, the mode, the channel and the power.
pub record Contents : Type 0 where
  pub values : Values
  pub mode : ℕ
  pub channel : ℕ
  pub power : ℕ

-- Each parameter, the mode, the channel and the power are the same.
pub record Same (here there : Contents) : Type 0 where
  pub values : (p : Parameter) → here.values p ≡ there.values p
  pub mode : here.mode ≡ there.mode
  pub channel : here.channel ≡ there.channel
  pub power : here.power ≡ there.power

-- The mode in which alone a card has a channel to set and to tell.
abbrev pub channel_mode : ℕ
channel_mode = 0x00A2
