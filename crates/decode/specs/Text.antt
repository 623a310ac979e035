-- Text that is gathered.
use Rattle.std.specs.Prelude.{◌≡◌, ℕ, ◌+◌, ◌<◌, ◌≤◌, List, ◌++◌, length}

-- adding `more`, of so many bytes, to a text: it is added whole where there is room, and nothing is added where there is none
abbrev pub Pushed : List ℕ → List ℕ → ℕ → List ℕ → Type 0
Pushed before more count after =
    (length before + count ≤ 65536 → after ≡ before ++ more)
    × (65536 < length before + count → after ≡ before)
