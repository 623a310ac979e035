-- Hexadecimal text.
use Rattle.std.specs.Prelude.{◌≡◌, ℕ, ◌+◌, ◌/◌, ◌%◌, ◌<◌, cond, List, [], ◌∷◌, ◌++◌, Some, None, Option, nat_lt}
use Rattle.std.specs.Char.{digit_value as value_of, is_digit}
use Rattle.std.specs.List.{flat_map}

-- the digit that stands for a number below 16
abbrev pub hex_digit : ℕ → ℕ
hex_digit n = cond (nat_lt n 10) (48 + n) (55 + n)

-- a byte as its two digits
abbrev pub hex_pair : ℕ → List ℕ
hex_pair b = hex_digit (b / 16) ∷ (hex_digit (b % 16) ∷ [])

-- bytes as text, each behind a blank
abbrev pub hex_text : List ℕ → List ℕ
hex_text bytes = flat_map (λ b. 32 ∷ hex_pair b) bytes

-- a number below 2 ^ 32 as eight digits, the highest first
abbrev pub hex_eight : ℕ → List ℕ
hex_eight n = hex_pair (n / 16777216) ++ (hex_pair (n / 65536 % 256) ++ (hex_pair (n / 256 % 256) ++ hex_pair (n % 256)))

-- what a digit stands for; capital and small letters are the same
abbrev pub digit_value : ℕ → Option ℕ
digit_value c = cond (is_digit c 16) (Some (value_of c)) None

-- a digit that is written reads back as what it stands for
abbrev pub ReadsBack : Type 0
ReadsBack = (n : ℕ) → n < 16 → digit_value (hex_digit n) ≡ Some n
