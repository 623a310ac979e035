-- What a finding adds to the counts.
use Rattle.std.specs.Prelude.{◌≡◌, ℕ, ◌+◌, ◌-◌, ◌^◌, min, List, slice_index, slice_set}
use Rattle.decode.specs.declared.tally.Tally.{Tally}
use Rattle.frames.specs.declared.finding.Cause.{Cause}
use Rattle.frames.specs.declared.finding.Cause.TheVariants.{Length, End, Check}

-- a count that stays at its largest value
abbrev pub raised : ℕ → ℕ → ℕ
raised n by = min (n + by) (2 ^ 64 - 1)

-- the counts with the one at this place raised by one
abbrev pub raised_at : List ℕ → ℕ → List ℕ
raised_at counts place = slice_set counts place (raised (slice_index counts place) 1)

-- where a cause has its count
abbrev pub place_of : Cause → ℕ
place_of Length = 0
place_of End = 1
place_of Check = 2

-- a drop raises the count of its own cause by one, and no other
abbrev pub DropCounted : Tally → Cause → Tally → Type 0
DropCounted before cause after = after.drops ≡ raised_at before.drops (place_of cause)
