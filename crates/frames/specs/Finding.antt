-- The finding rule: which frames and drops a list of bytes holds, said of the bytes alone.
use Rattle.std.specs.Prelude.{◌≡◌, ℕ, ◌+◌, ◌-◌, ◌*◌, ◌<◌, ◌≤◌, cond, List, [], ◌∷◌, ◌++◌, length, take, drop, ◌==◌, slice_index}
use Rattle.frames.specs.declared.finding.Cause.{Cause}
use Rattle.frames.specs.declared.finding.Cause.TheVariants.{Length, End, Check}
use Rattle.frames.specs.Crc.{crc_of}

-- what is found: a right frame with its CMD and DATA, or a candidate that is dropped, with the cause and its number of bytes
pub data Found : Type 0 where
  frame : ℕ → List ℕ → Found
  dropped : Cause → ℕ → Found

-- a LENGTH that a frame can have
abbrev pub Sized : ℕ → Type 0
Sized n = (4 ≤ n) × (n ≤ 254)

-- the check value that a gathered body of n bytes has stored, low byte first
abbrev pub stored_in : ℕ → List ℕ → ℕ
stored_in n body = slice_index body (n - 3) + 256 * slice_index body (n - 2)

-- what a whole candidate comes to: a last byte other than 0x03 is tested first, then the check value
abbrev pub verdict : ℕ → List ℕ → Found
verdict n body =
    cond (slice_index body (n - 1) == 0x03)
    (cond (stored_in n body == crc_of (n ∷ take (n - 3) body)) (frame (slice_index body 0) (drop 1 (take (n - 3) body))) (dropped Check (n + 3)))
    (dropped End (n + 3))

-- a candidate by its bytes: 0xFF, 0x02 and a LENGTH that no frame has, or a LENGTH and as many bytes more
pub data Candidate (bytes : List ℕ) (v : Found) : Type 0 where
  misfit : (n : ℕ) → bytes ≡ 0xFF ∷ (0x02 ∷ (n ∷ [])) → (Sized n → ⊥) → v ≡ dropped Length 3 → Candidate bytes v
  whole : (n : ℕ) (body : List ℕ) → bytes ≡ 0xFF ∷ (0x02 ∷ (n ∷ body)) → Sized n → length body ≡ n → v ≡ verdict n body → Candidate bytes v

-- noise: no 0xFF is directly followed by 0x02
abbrev pub Quiet : List ℕ → Type 0
Quiet [] = Unit {0}
Quiet (a ∷ []) = Unit {0}
Quiet (a ∷ b ∷ bs) = ((a ≡ 0xFF) → (b ≡ 0x02) → ⊥) × Quiet (b ∷ bs)

-- the first thing that the bytes hold is v, and it is over after `used` bytes: noise, then a candidate, then its verdict
pub record Finds (bytes : List ℕ) (v : Found) (used : ℕ) : Type 0 where
  pub noise : List ℕ
  pub candidate : List ℕ
  pub rest : List ℕ
  pub split : bytes ≡ noise ++ (candidate ++ rest)
  pub quiet : Quiet noise
  pub judged : Candidate candidate v
  pub counted : used ≡ length noise + length candidate

-- the start of a candidate that is not over yet; nothing, where none has begun
pub data Begun (held : List ℕ) : Type 0 where
  none : held ≡ [] → Begun held
  sync : held ≡ 0xFF ∷ [] → Begun held
  start : held ≡ 0xFF ∷ (0x02 ∷ []) → Begun held
  part : (n : ℕ) (body : List ℕ) → held ≡ 0xFF ∷ (0x02 ∷ (n ∷ body)) → Sized n → length body < n → Begun held

-- the bytes hold nothing yet: noise, then the start of a candidate (where there is none, not even a 0x02 would open one)
pub record Waits (bytes held : List ℕ) : Type 0 where
  pub noise : List ℕ
  pub split : bytes ≡ noise ++ held
  pub quiet : Quiet noise
  pub settled : held ≡ [] → Quiet (noise ++ (0x02 ∷ []))
  pub begun : Begun held
