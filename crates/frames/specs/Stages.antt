-- How far a candidate can have come.
use Rattle.std.specs.Prelude.{◌≡◌, ℕ, ◌<◌}
use Rattle.frames.specs.declared.reader.Stage.{Stage}
use Rattle.frames.specs.declared.reader.Stage.TheVariants.{Body}
use Rattle.frames.specs.Finding.{Sized}

-- a body that is gathered has a LENGTH that a frame can have, and is not whole yet
abbrev pub Unfinished : Stage → Type 0
Unfinished stage = (n got : ℕ) → stage ≡ Body n got → Sized n × (got < n)
