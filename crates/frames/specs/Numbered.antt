-- Looking a record up by the number that it carries.
use Rattle.std.specs.Prelude.{◌≡◌, ℕ, ◌<◌, List, length, Some, None, Option, ◌==◌, ◌≢◌, slice_index_or}
use Rattle.std.specs.List.{position_from}

-- The place of the first record with the number.
abbrev pub place_of : {R : Type 0} → (R → ℕ) → ℕ → List R → Option ℕ
place_of carried number rows = position_from (λ row. carried row == number) 0 rows

-- No record before this place has the number.
abbrev pub NoneBefore : {R : Type 0} → (R → ℕ) → ℕ → List R → ℕ → Type 0
NoneBefore {R} carried number rows i = (k : ℕ) (d : R) → k < i → carried (slice_index_or rows k d) ≢ number

-- An answer tells the first place whose record has the number, or that none has it.
abbrev pub FirstNumbered : {R : Type 0} → (R → ℕ) → ℕ → List R → Option ℕ → Type 0
FirstNumbered carried number rows None = NoneBefore carried number rows (length rows)
FirstNumbered {R} carried number rows (Some i) =
    (i < length rows) × ((d : R) → carried (slice_index_or rows i d) ≡ number) × NoneBefore carried number rows i
