-- The requests that a card serves: what each answers, and what it changes.
use Rattle.std.specs.Prelude.{ℕ, ◌+◌, ◌*◌, ◌/◌, ◌%◌, Bool, true, cond, not, ◌&&◌, ◌||◌, List, [], ◌∷◌, length, drop, is_some, Some, None, Option, ◌==◌, slice_index}
use Rattle.station.specs.Commands.{request_cause, answer_of}
use Rattle.station.specs.Inquiries.{Frame}
use Rattle.parameters.specs.declared.parameter.Parameter.{Parameter}
use Rattle.parameters.specs.Parameters.{parameter_numbered}
use Rattle.parameters.specs.Values.{Values, lawful, after_write}
use Rattle.boards.specs.Boards.{Kind, among, admitted, lawful_channel, lawful_power}
use Rattle.card.specs.Contents.{Contents, channel_mode}

-- The requests that every card serves: write and read parameter, set and read channel, set and read mode.
abbrev pub always_served : List ℕ
always_served = 0x40 ∷ 0x50 ∷ 0x60 ∷ 0x62 ∷ 0x64 ∷ 0x66 ∷ []

-- The requests that a card serves if the power of its board can be set: set and read power.
abbrev pub power_requests : List ℕ
power_requests = 0x44 ∷ 0x54 ∷ []

-- Whether a card with this kind of board serves a CMD.
abbrev pub serves : Kind → ℕ → Bool
serves kind c = among c always_served || (kind.power_settable && among c power_requests)

-- Whether a request has a number of data bytes that the table of commands admits.
abbrev pub lawful_length : ℕ → List ℕ → Bool
lawful_length c d = not (is_some (request_cause c (length d)))

-- Whether a frame is a request that the card carries out.
abbrev pub carried_out : Kind → ℕ → List ℕ → Bool
carried_out kind c d = serves kind c && lawful_length c d

-- The first data byte: a parameter's number, a channel or a power.
abbrev pub first_byte : List ℕ → ℕ
first_byte d = slice_index d 0

-- What stands behind a parameter's number: its value.
abbrev pub value_sent : List ℕ → List ℕ
value_sent d = drop 1 d

-- A mode goes high byte first.
abbrev pub mode_bytes : ℕ → List ℕ
mode_bytes mode = mode / 256 ∷ mode % 256 ∷ []

-- The mode of two bytes, high byte first.
abbrev pub mode_sent : List ℕ → ℕ
mode_sent d = 256 * slice_index d 0 + slice_index d 1

-- Whether a channel can be set now: in one mode only, and up to 21.
abbrev pub sets_channel : Contents → ℕ → Bool
sets_channel now channel = now.mode == channel_mode && lawful_channel channel

-- Status 00, done, or 01, error.
abbrev pub status : Bool → List ℕ
status done = cond done 0x00 0x01 ∷ []

-- Status 00 and what was asked for, or 01.
abbrev pub told_if : Bool → List ℕ → List ℕ
told_if known answer = cond known (0x00 ∷ answer) (0x01 ∷ [])

-- Status 00 and the value of a parameter, if there is one, else 01.
abbrev pub value_told : Values → Option Parameter → List ℕ
value_told values None = 0x01 ∷ []
value_told values (Some p) = 0x00 ∷ values p

-- The data that answers a request: 0x40, 0x50, 0x60, 0x62, 0x64, 0x66, 0x44, and else 0x54, which has no status.
abbrev pub answer_data : Kind → Contents → ℕ → List ℕ → List ℕ
answer_data kind now c d =
    cond (c == 0x40) (status (lawful (first_byte d) (value_sent d)))
    (cond (c == 0x50) (value_told now.values (parameter_numbered (first_byte d)))
    (cond (c == 0x60) (status (sets_channel now (first_byte d)))
    (cond (c == 0x62) (told_if (now.mode == channel_mode) (now.channel ∷ []))
    (cond (c == 0x64) (status (admitted kind (mode_sent d)))
    (cond (c == 0x66) (told_if true (mode_bytes now.mode))
    (cond (c == 0x44) (status (lawful_power kind (first_byte d)))
    (now.power ∷ [])))))))

-- The frame that answers a request.
abbrev pub answer : Kind → Contents → ℕ → List ℕ → Frame
answer kind now c d = record { cmd = answer_of c; body = answer_data kind now c d }

-- One thing that a card holds changes, and nothing else.
abbrev pub with_values : Contents → Values → Contents
with_values now v = record { values = v; mode = now.mode; channel = now.channel; power = now.power }

abbrev pub with_mode : Contents → ℕ → Contents
with_mode now m = record { values = now.values; mode = m; channel = now.channel; power = now.power }

abbrev pub with_channel : Contents → ℕ → Contents
with_channel now n = record { values = now.values; mode = now.mode; channel = n; power = now.power }

abbrev pub with_power : Contents → ℕ → Contents
with_power now n = record { values = now.values; mode = now.mode; channel = now.channel; power = n }

-- What the card holds after a request that it carries out: 0x40, 0x60, 0x64 and 0x44 change something, if status 00 answers them.
abbrev pub after_request : Kind → Contents → ℕ → List ℕ → Contents
after_request kind now c d =
    cond (c == 0x40) (with_values now (after_write now.values (first_byte d) (value_sent d)))
    (cond (c == 0x60) (cond (sets_channel now (first_byte d)) (with_channel now (first_byte d)) now)
    (cond (c == 0x64) (cond (admitted kind (mode_sent d)) (with_mode now (mode_sent d)) now)
    (cond (c == 0x44) (cond (lawful_power kind (first_byte d)) (with_power now (first_byte d)) now)
    now)))
