-- The format of a frame: SYNC, STX, LENGTH, CMD, DATA, check value, ETX.
use Rattle.std.specs.Prelude.{ℕ, ◌+◌, ◌/◌, ◌%◌, List, [], ◌∷◌, ◌++◌, length}
use Rattle.frames.specs.Crc.{crc_of}

-- what the check value covers: LENGTH (the number of DATA bytes plus 4), CMD and DATA
abbrev pub covered : ℕ → List ℕ → List ℕ
covered cmd body = (length body + 4) ∷ (cmd ∷ body)

-- a check value as it is stored: its low byte stands first
abbrev pub stored : ℕ → List ℕ
stored value = value % 256 ∷ (value / 256 ∷ [])

-- the one frame of a CMD with these DATA bytes
abbrev pub frame_bytes : ℕ → List ℕ → List ℕ
frame_bytes cmd body = 0xFF ∷ (0x02 ∷ (covered cmd body ++ (stored (crc_of (covered cmd body)) ++ (0x03 ∷ []))))
