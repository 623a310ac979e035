-- The board kinds, and the settings of a card.
use Rattle.std.specs.Prelude.{ℕ, Bool, true, false, ◌&&◌, ◌||◌, List, [], ◌∷◌, ◌==◌, nat_le}

-- What is fixed about a kind of board: the mode that it starts in, whether its power can be set, the modes that it admits.
pub record Kind : Type 0 where
  pub default_mode : ℕ
  pub power_settable : Bool
  pub modes : List ℕ

-- Whether a number is among some.
abbrev pub among : ℕ → List ℕ → Bool
among n [] = false
among n (m ∷ ms) = n == m || among n ms

-- Whether a kind admits a mode.
abbrev pub admitted : Kind → ℕ → Bool
admitted kind mode = among mode kind.modes

-- The modes of both WaveCards.
abbrev pub wavecard_modes : List ℕ
wavecard_modes = 0x0012 ∷ 0x0094 ∷ 0x00A2 ∷ 0x00A3 ∷ 0x00B3 ∷ 0x00B6 ∷ []

-- The WaveCard of 25 mW.
abbrev pub wavecard_25 : Kind
wavecard_25 = record { default_mode = 0x00A3; power_settable = true; modes = wavecard_modes }

-- The WaveCard of 500 mW.
abbrev pub wavecard_500 : Kind
wavecard_500 = record { default_mode = 0x00B6; power_settable = false; modes = wavecard_modes }

-- The Waveport CF at 915 MHz.
abbrev pub waveport_915 : Kind
waveport_915 = record { default_mode = 0x00B9; power_settable = true; modes = 0x00B9 ∷ [] }

-- Whether a channel is lawful.
abbrev pub lawful_channel : ℕ → Bool
lawful_channel channel = nat_le channel 21

-- Whether a power is lawful on a kind: its power can be set, and the value is in range.
abbrev pub lawful_power : Kind → ℕ → Bool
lawful_power kind power = kind.power_settable && nat_le power 0x0A
