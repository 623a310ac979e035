-- What holds of every reading, in terms of bytes and findings alone.
use Rattle.std.specs.Prelude.{◌≡◌, ℕ, ◌+◌, ◌≤◌, List, [], ◌∷◌, ◌++◌, length, take, drop, Some, None, Option}
use Rattle.frames.specs.Frame.{frame_bytes}
use Rattle.frames.specs.Finding.{Found, frame, Finds, Waits}
use Rattle.frames.specs.Samples.{search_from}

-- the reader finds a thing exactly if the finding rule finds it in the bytes held and handed over, at the same place
abbrev pub FindsExactly : List ℕ → List ℕ → Option Found → ℕ → Type 0
FindsExactly held stretch r used =
    (v : Found) (n : ℕ) → (Finds (held ++ stretch) v n → (r ≡ Some v) × (length held + used ≡ n)) × ((r ≡ Some v) × (length held + used ≡ n) → Finds (held ++ stretch) v n)

-- a written frame behind bytes that leave the reader hunting is found as that frame, with exactly its bytes used
abbrev pub FindsWritten : List ℕ → List ℕ → Option Found → ℕ → Type 0
FindsWritten held stretch r used =
    (before : List ℕ) (cmd : ℕ) (body rest : List ℕ) → length body ≤ 250 → Waits (held ++ before) [] → stretch ≡ before ++ (frame_bytes cmd body ++ rest)
    → (r ≡ Some (frame cmd body)) × (used ≡ length before + length (frame_bytes cmd body))

-- a frame that is found stands as its written bytes, contiguous, at the end of what was read
abbrev pub StandsAsWritten : List ℕ → List ℕ → Option Found → ℕ → Type 0
StandsAsWritten held stretch r used =
    (cmd : ℕ) (body : List ℕ) → r ≡ Some (frame cmd body) → (before : List ℕ) × (held ++ take used stretch ≡ before ++ frame_bytes cmd body)

-- all that a list of bytes holds, counted from the place `from`: each finding with the place where it is over, and what is left open at the end
abbrev pub Reading : ℕ → List ℕ → List (ℕ × Found) → List ℕ → Type 0
Reading from bytes [] held = Waits bytes held
Reading from bytes ((place, v) ∷ more) held =
    (used : ℕ) × (place ≡ from + used) × Finds bytes v used × Reading place (drop used bytes) more held

-- a finding at its place, if there is one
abbrev pub placed : ℕ → Option Found → List (ℕ × Found)
placed place (Some v) = (place, v) ∷ []
placed place None = []

-- however the bytes were cut into stretches: where those read so far hold these findings, the bytes used now add this one, at its place in all of them
abbrev pub CutAnywhere : List ℕ → List ℕ → Option Found → ℕ → List ℕ → Type 0
CutAnywhere held stretch r used after =
    (bytes : List ℕ) (findings : List (ℕ × Found)) → Reading 0 bytes findings held
    → Reading 0 (bytes ++ take used stretch) (findings ++ placed (length bytes + used) r) after

-- a list of bytes holds one list of findings at one list of places, and leaves one thing open
abbrev pub OneReading : Type 0
OneReading =
    (bytes : List ℕ) (findings others : List (ℕ × Found)) (held after : List ℕ) → Reading 0 bytes findings held → Reading 0 bytes others after
    → (findings ≡ others) × (held ≡ after)

-- the search that the sample cases compute with finds what the rule finds, and nothing else
abbrev pub SearchIsTheRule : Type 0
SearchIsTheRule =
    (bytes : List ℕ) (v : Found) (used : ℕ) → (Finds bytes v used → search_from 0 bytes ≡ Some (v, used)) × (search_from 0 bytes ≡ Some (v, used) → Finds bytes v used)
