-- What a reader promises, by the bytes that it holds and those that it is handed.
use Rattle.std.specs.Prelude.{◌≡◌, ℕ, ◌+◌, ◌≤◌, Bool, true, false, List, [], ◌∷◌, ◌++◌, length, take, Some, None, Option}
use Rattle.frames.specs.declared.finding.Finding.{Finding}
use Rattle.frames.specs.declared.finding.Finding.TheVariants.{Frame, Dropped}
use Rattle.frames.specs.declared.frame.Frame as rust
use Rattle.frames.specs.declared.reader.Reader.{Reader}
use Rattle.frames.specs.declared.reader.Stage.{Stage}
use Rattle.frames.specs.declared.reader.Stage.TheVariants.{Hunting, Sync, Start, Body}
use Rattle.frames.specs.Finding.{Found, frame, dropped, Sized, Finds, Waits}

-- the DATA bytes of a frame
abbrev pub frame_data : rust.Frame → List ℕ
frame_data f = take f.count f.bytes

-- what a finding says of the bytes
abbrev pub thing : Finding → Found
thing (Frame f) = frame f.cmd (frame_data f)
thing (Dropped cause size) = dropped cause size

-- what an answer of the reader says was found
abbrev pub found : Option Finding → Option Found
found (Some f) = Some (thing f)
found None = None

-- the bytes of a candidate that has come so far: LENGTH and the bytes gathered behind it count from the last stage on
abbrev pub begun : Stage → List ℕ → List ℕ
begun Hunting body = []
begun Sync body = 0xFF ∷ []
begun Start body = 0xFF ∷ (0x02 ∷ [])
begun (Body n got) body = 0xFF ∷ (0x02 ∷ (n ∷ take got body))

-- the bytes that a reader holds
abbrev pub holds : Reader → List ℕ
holds r = begun r.stage r.body

-- what reading a stretch comes to, from the bytes held before it to those held after:
-- either v is over after `used` of the stretch's bytes, and nothing is held; or the whole stretch is used, and nothing is found yet
abbrev pub Reads : List ℕ → List ℕ → Option Found → ℕ → List ℕ → Type 0
Reads before stretch (Some v) used after =
    (used ≤ length stretch) × Finds (before ++ take used stretch) v (length before + used) × (after ≡ [])
Reads before stretch None used after = (used ≡ length stretch) × Waits (before ++ stretch) after

-- hunting is over: LENGTH is next, or a body is being gathered
abbrev pub Opened : Stage → Type 0
Opened Hunting = ⊥
Opened Sync = ⊥
Opened Start = Unit {0}
Opened (Body n got) = Unit {0}

-- a LENGTH that a frame can have begins a body; any other ends the candidate
abbrev pub Measured : ℕ → Bool → Reader → Type 0
Measured n true r = Sized n × (r.stage ≡ Body n 0)
Measured n false r = (Sized n → ⊥) × (r.stage ≡ Hunting)
