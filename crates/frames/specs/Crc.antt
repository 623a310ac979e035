-- The check value of a frame, bit by bit.
use Rattle.std.specs.Prelude.{ℕ, zero, suc, ◌/◌, ◌%◌, cond, List, fold, ◌==◌, bit_xor}

-- shifted right by one; if the bit that fell out was 1, exclusive-ored with 0x8408
unfoldable pub shift_once : ℕ → ℕ
shift_once r = cond (r % 2 == 1) (bit_xor (r / 2) 0x8408) (r / 2)

-- n shifts
unfoldable pub shift : ℕ → ℕ → ℕ
shift zero r = r
shift (suc n) r = shift n (shift_once r)

-- one byte goes into the low eight bits, and eight shifts follow
abbrev pub crc_byte : ℕ → ℕ → ℕ
crc_byte r b = shift 8 (bit_xor r b)

-- byte after byte, from the value r
abbrev pub crc_from : ℕ → List ℕ → ℕ
crc_from r bytes = fold crc_byte r bytes

-- the check value starts at 0
abbrev pub crc_of : List ℕ → ℕ
crc_of bs = crc_from 0 bs
