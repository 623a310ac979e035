-- What a ring in a stretch of memory holds.
use Rattle.std.specs.Prelude.{ℕ, List, ◌++◌, length, take, drop}
use Rattle.lines.specs.declared.ring.Ring.{Ring}

-- The bytes from `head` on and round the end of the memory, as many as `len` says.
abbrev pub ring_bytes : List ℕ → ℕ → ℕ → List ℕ
ring_bytes memory head len = take len (drop head memory ++ memory)

-- The bytes of a ring, the oldest first.
abbrev pub held : Ring → List ℕ
held ring = ring_bytes ring.memory.now ring.head ring.len

-- How many bytes a ring can hold.
abbrev pub ring_size : Ring → ℕ
ring_size ring = length ring.memory.now
