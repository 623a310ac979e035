-- Bytes that go in at the back and come out at the front: the two moves that every line is made of.
use Rattle.std.specs.Prelude.{◌≡◌, ℕ, ◌+◌, ◌<◌, ◌≤◌, List, [], ◌∷◌, ◌++◌, length, Some, None, Ok, Err, Option, Result}
use Rattle.lines.specs.declared.refusal.Refusal.{Refusal}
use Rattle.lines.specs.Refusals.{refusal_number}

-- The first byte is answered and it alone is gone, or none was there and none is.
abbrev pub FirstOut : List ℕ → Option ℕ → List ℕ → Type 0
FirstOut before (Some byte) after = before ≡ byte ∷ after
FirstOut before None after = (before ≡ []) × (after ≡ [])

-- The whole stretch fits and goes in behind the rest.
pub record WholeIn (size : ℕ) (before bytes after : List ℕ) : Type 0 where
  pub fits : length before + length bytes ≤ size
  pub gained : after ≡ before ++ bytes

-- The stretch does not fit: refused with 11, and nothing goes in.
pub record NoneIn (size : ℕ) (before bytes : List ℕ) (refusal : Refusal) (after : List ℕ) : Type 0 where
  pub short : size < length before + length bytes
  pub number : refusal_number refusal ≡ 11
  pub kept : after ≡ before

-- A stretch goes whole into what holds `size` bytes at most, or is refused whole.
abbrev pub AllIn : ℕ → List ℕ → List ℕ → Result (Unit {0}) Refusal → List ℕ → Type 0
AllIn size before bytes (Ok _) after = WholeIn size before bytes after
AllIn size before bytes (Err refusal) after = NoneIn size before bytes refusal after
