-- Where a candidate starts in a stretch.
use Rattle.std.specs.Prelude.{◌≡◌, ℕ, ◌+◌, ◌<◌, List, length, ◌≢◌, slice_index}

-- no SYNC among the first n bytes is directly followed by STX
abbrev pub Unmarked : List ℕ → ℕ → Type 0
Unmarked bytes n = (k : ℕ) → k < n → slice_index bytes k ≡ 0xFF → slice_index bytes (k + 1) ≢ 0x02

-- the first SYNC that is directly followed by STX stands at n
pub record StartsAt (bytes : List ℕ) (n : ℕ) : Type 0 where
  pub within : n + 1 < length bytes
  pub sync : slice_index bytes n ≡ 0xFF
  pub stx : slice_index bytes (n + 1) ≡ 0x02
  pub first : Unmarked bytes n
