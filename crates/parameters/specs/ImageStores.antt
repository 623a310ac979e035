-- What the stores over handed-over bytes mean.
use Rattle.std.specs.Prelude.{◌≡◌, ℕ, true, List, Some, None, Ok, Err, Option, Result, ◌≢◌}
use Rattle.parameters.specs.declared.image.ImageStore.{ImageStore}
use Rattle.parameters.specs.declared.image.Unopened.{Unopened}
use Rattle.parameters.specs.declared.made.MadeStore.{MadeStore}
use Rattle.parameters.specs.declared.made.MadeStore.TheVariants.{Image, Table}
use Rattle.parameters.specs.declared.parameter.Parameter.{Parameter}
use Rattle.parameters.specs.Images.{OpensTo, refusal, value_in}
use Rattle.parameters.specs.Parameters.{lawful_for, first_value}
use Rattle.parameters.specs.Refusals.{refusal_number}
use Rattle.parameters.specs.Tables.{table_held, table_sound}
use Rattle.parameters.specs.Values.{Values}

-- The bytes of an image store are an image that opens to the values that it holds.
abbrev pub InStep : ImageStore → Type 0
InStep store = OpensTo store.image.now (table_held store.table)

-- The number of the refusal, if opening refused.
abbrev pub cause : Result ImageStore Unopened → Option ℕ
cause (Ok store) = None
cause (Err unopened) = Some (refusal_number unopened.refusal)

-- The handed-over bytes after opening, in the store or handed back.
abbrev pub handed_bytes : Result ImageStore Unopened → List ℕ
handed_bytes (Ok store) = store.image.now
handed_bytes (Err unopened) = unopened.image.now

-- The values that a made store holds.
abbrev pub made_held : MadeStore → Values
made_held (Image store) = table_held store.table
made_held (Table table bytes) = table_held table

-- The bytes over which a store was made, as they are now.
abbrev pub made_bytes : MadeStore → List ℕ
made_bytes (Image store) = store.image.now
made_bytes (Table table bytes) = bytes.now

-- Each value that a made store holds is lawful.
pub made_sound : (store : MadeStore) (p : Parameter) → lawful_for p (made_held store p) ≡ true
made_sound (Image store) p = table_sound store.table p
made_sound (Table table bytes) p = table_sound table p

-- Over bytes that open, the bytes are an image of the values held; any other bytes are left as they were handed over.
abbrev pub MadeOver : MadeStore → List ℕ → Type 0
MadeOver (Image store) handed = (refusal handed ≡ None) × InStep store
MadeOver (Table table bytes) handed = (refusal handed ≢ None) × (bytes.now ≡ handed)

-- What a store that is made over bytes holds at first: the values in them if they open, else the first values.
abbrev pub made_values : Option ℕ → List ℕ → Values
made_values None handed = value_in handed
made_values (Some refused) handed = first_value
