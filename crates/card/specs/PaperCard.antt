-- A paper card: what a card should hold by the frames that it was fed, kept apart from the card's own rules.
use Rattle.std.specs.Prelude.{ℕ, ◌+◌, ◌*◌, Bool, cond, ◌&&◌, List, [], ◌∷◌, length, drop, ◌==◌, nat_le, slice_index}
use Rattle.station.specs.Inquiries.{Frame}
use Rattle.parameters.specs.declared.parameter.Parameter.{Parameter}
use Rattle.parameters.specs.Values.{writes}
use Rattle.boards.specs.Boards.{Kind, admitted}
use Rattle.card.specs.Contents.{Contents}

-- A 0x40 with the parameter's number and a lawful value for it.
abbrev pub writes_parameter : Parameter → Frame → Bool
writes_parameter p f = f.cmd == 0x40 && writes p (slice_index f.body 0) (drop 1 f.body)

-- A 0x64 with the two bytes, high byte first, of a mode that the board admits.
abbrev pub mode_in : Frame → ℕ
mode_in f = 256 * slice_index f.body 0 + slice_index f.body 1

abbrev pub writes_mode : Kind → Frame → Bool
writes_mode kind f = f.cmd == 0x64 && (length f.body == 2 && admitted kind (mode_in f))

-- A 0x60 with one byte up to 21, while its own mode is the one with channels.
abbrev pub writes_channel : ℕ → ℕ → Frame → Bool
writes_channel with_channels mode f =
    (f.cmd == 0x60) && (length f.body == 1 && (mode == with_channels && nat_le (slice_index f.body 0) 21))

-- A 0x44 with one byte up to 0x0A, if the power of the board can be set.
abbrev pub writes_power : Kind → Frame → Bool
writes_power kind f = f.cmd == 0x44 && (length f.body == 1 && (kind.power_settable && nat_le (slice_index f.body 0) 0x0A))

-- A paper card after a frame: these are the lawful writes, and other frames change nothing.
abbrev pub fed_one : ℕ → Kind → Contents → Frame → Contents
fed_one with_channels kind paper f = record {
  values = λ p. cond (writes_parameter p f) (drop 1 f.body) (paper.values p);
  mode = cond (writes_mode kind f) (mode_in f) paper.mode;
  channel = cond (writes_channel with_channels paper.mode f) (slice_index f.body 0) paper.channel;
  power = cond (writes_power kind f) (slice_index f.body 0) paper.power;
}

-- A paper card after these frames, one behind another.
abbrev pub fed : ℕ → Kind → Contents → List Frame → Contents
fed with_channels kind paper [] = paper
fed with_channels kind paper (f ∷ fs) = fed with_channels kind (fed_one with_channels kind paper f) fs
