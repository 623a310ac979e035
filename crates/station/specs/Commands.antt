-- The nine requests, and which answer data is lawful.
use Rattle.std.specs.Prelude.{ℕ, Bool, false, cond, ◌&&◌, ◌||◌, List, [], ◌∷◌, length, Some, None, Option, ◌==◌, nat_le, slice_index}
use Rattle.station.specs.declared.refusal.Refusal.{Refusal}
use Rattle.station.specs.declared.refusal.Refusal.TheVariants.{UnknownCommand, DataLength}

-- A request: its CMD, the least and the most data bytes, and the CMD of its answer.
pub record Row : Type 0 where
  pub cmd : ℕ
  pub least : ℕ
  pub most : ℕ
  pub answer : ℕ

-- A row of the table, in the order of its columns.
abbrev pub row : ℕ → ℕ → ℕ → ℕ → Row
row c l m a = record { cmd = c; least = l; most = m; answer = a }

-- Send frame, write parameter, set power, read parameter, read power, set channel, read channel, set mode, read mode.
abbrev pub commands : List Row
commands =
    row 0x20 6 158 0x21
    ∷ (row 0x40 2 242 0x41
    ∷ (row 0x44 1 1 0x45
    ∷ (row 0x50 1 1 0x51
    ∷ (row 0x54 0 0 0x55
    ∷ (row 0x60 1 1 0x61
    ∷ (row 0x62 0 0 0x63
    ∷ (row 0x64 2 2 0x65
    ∷ (row 0x66 0 0 0x67
    ∷ []))))))))

-- The first row with this CMD.
abbrev pub row_of : ℕ → List Row → Option Row
row_of c [] = None
row_of c (r ∷ rows) = cond (r.cmd == c) (Some r) (row_of c rows)

-- A number from `low` to `high`.
abbrev pub within : ℕ → ℕ → ℕ → Bool
within low high n = nat_le low n && nat_le n high

-- Why a request with so many data bytes cannot be lodged by its row, if it cannot.
abbrev pub row_cause : Option Row → ℕ → Option Refusal
row_cause None n = Some UnknownCommand
row_cause (Some r) n = cond (within r.least r.most n) None (Some DataLength)

-- Why a request cannot be lodged by the table, if it cannot.
abbrev pub request_cause : ℕ → ℕ → Option Refusal
request_cause c n = row_cause (row_of c commands) n

-- The CMD that a row awaits; 0 answers nothing.
abbrev pub row_answer : Option Row → ℕ
row_answer None = 0
row_answer (Some r) = r.answer

-- The CMD that answers a request.
abbrev pub answer_of : ℕ → ℕ
answer_of c = row_answer (row_of c commands)

-- The CMD of one of these rows' answers.
abbrev pub answers_some : ℕ → List Row → Bool
answers_some c [] = false
answers_some c (r ∷ rows) = r.answer == c || answers_some c rows

-- The CMD of a radio answer.
abbrev pub radio_answer : ℕ
radio_answer = 0x30

-- A CMD that answers some request, or a radio answer.
abbrev pub is_answer : ℕ → Bool
is_answer c = c == radio_answer || answers_some c commands

-- S: one byte, 00 done or 01 error.
abbrev pub status : List ℕ → Bool
status d = length d == 1 && nat_le (slice_index d 0) 1

-- 01 alone, or 00 and then what this says of the whole data.
abbrev pub error_or : Bool → List ℕ → Bool
error_or rest d = (length d == 1 && slice_index d 0 == 1) || (slice_index d 0 == 0 && rest)

-- Lawful answer data, by the answer's CMD and the first byte; no other CMD has any.
abbrev pub lawful_answer : ℕ → List ℕ → Bool
lawful_answer c d =
    cond (c == 0x30) (within 6 158 (length d))
    (cond (c == 0x51) (error_or (within 2 242 (length d)) d)
    (cond (c == 0x55) (length d == 1 && nat_le (slice_index d 0) 0x0A)
    (cond (c == 0x63) (error_or (length d == 2 && nat_le (slice_index d 1) 21) d)
    (cond (c == 0x67) (error_or (length d == 3) d)
    (is_answer c && status d)))))
