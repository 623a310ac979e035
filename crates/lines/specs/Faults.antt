-- What a script does to the bytes that pass.
use Rattle.std.specs.Prelude.{◌≡◌, ℕ, ◌+◌, min, Bool, true, false, cond, List, [], ◌∷◌, ◌++◌, length, Some, None, Option, ◌==◌, bit_xor, nat_le, find, option_map, option_to_list}
use Rattle.lines.specs.declared.script.Entry.{Entry}

-- The mask that the script has for a position, if it has one.
abbrev pub mask_at : List Entry → ℕ → Option ℕ
mask_at script position = option_map (λ entry. entry.mask) (find (λ entry. entry.position == position) script)

-- What a mask makes of a byte: 0 loses it, another is exclusive-ored into it.
abbrev pub masked : Option ℕ → ℕ → Option ℕ
masked None byte = Some byte
masked (Some mask) byte = cond (mask == 0) None (Some (bit_xor byte mask))

-- The byte that comes out at a position, unless it is lost.
abbrev pub spoiled : List Entry → ℕ → ℕ → Option ℕ
spoiled script position byte = masked (mask_at script position) byte

-- The position behind all that a script can name.
abbrev pub past_all : ℕ
past_all = 65536

-- The position behind one; the one behind all of them is followed by itself.
abbrev pub next_position : ℕ → ℕ
next_position position = min (position + 1) past_all

-- The position behind these bytes, the first of them at the given position.
abbrev pub position_after : ℕ → List ℕ → ℕ
position_after position [] = position
position_after position (byte ∷ rest) = position_after (next_position position) rest

-- A position is how many bytes have passed since the box was made, up to 65,536.
abbrev pub PositionCountsBytes : Type 0
PositionCountsBytes = (passed : List ℕ) → position_after 0 passed ≡ min (length passed) past_all

-- What the script leaves of the bytes that pass, the first of them at the given position.
abbrev pub faulted : List Entry → ℕ → List ℕ → List ℕ
faulted script position [] = []
faulted script position (byte ∷ rest) = option_to_list (spoiled script position byte) ++ faulted script (next_position position) rest

-- Whether each position is above the one before it, and the first at least `least`.
abbrev pub rising : ℕ → List Entry → Bool
rising least [] = true
rising least (entry ∷ rest) = cond (nat_le least entry.position) (rising (entry.position + 1) rest) false

-- Whether these entries make a script: at most 16, with strictly rising positions.
abbrev pub lawful_script : List Entry → Bool
lawful_script entries = cond (nat_le (length entries) 16) (rising 0 entries) false
