-- The image of a store: the values of the parameters in a fixed number of bytes.
use Rattle.std.specs.Prelude.{◌≡◌, ℕ, ◌+◌, ◌*◌, Bool, true, cond, ◌&&◌, List, [], ◌∷◌, length, take, drop, Some, None, Option, ◌==◌, slice_index}
use Rattle.std.specs.List.{list_all}
use Rattle.parameters.specs.declared.parameter.Lawful.{Lawful}
use Rattle.parameters.specs.declared.parameter.Lawful.TheVariants.{AnyByte, ByteUpto, RouteUpto}
use Rattle.parameters.specs.declared.parameter.Parameter.{Parameter}
use Rattle.parameters.specs.Parameters.{row_for, parameters, admits}
use Rattle.parameters.specs.Values.{Values}

-- How many bytes lawful values have at most: that many the image gives them.
abbrev pub width : Lawful → ℕ
width AnyByte = 1
width (ByteUpto most) = 1
width (RouteUpto most) = 1 + 6 * most

-- How many bytes the image gives a parameter.
abbrev pub width_of : Parameter → ℕ
width_of p = width (row_for p).lawful

-- Whether two parameters are one.
abbrev pub same : Parameter → Parameter → Bool
same p q = (row_for p).number == (row_for q).number

-- How many bytes some parameters take before one of them.
abbrev pub start_among : List Parameter → Parameter → ℕ
start_among [] p = 0
start_among (q ∷ qs) p = cond (same q p) 0 (width_of q + start_among qs p)

-- Where the bytes of a parameter start in the image.
abbrev pub start_of : Parameter → ℕ
start_of p = start_among parameters p

-- The bytes of an image that belong to a parameter.
abbrev pub field_in : List ℕ → Parameter → List ℕ
field_in image p = take (width_of p) (drop (start_of p) image)

-- How many bytes of a field the value in it uses: its first byte tells.
abbrev pub used : Lawful → List ℕ → ℕ
used AnyByte bytes = 1
used (ByteUpto most) bytes = 1
used (RouteUpto most) bytes = 1 + 6 * slice_index bytes 0

-- The value that an image has for a parameter.
abbrev pub value_in : List ℕ → Values
value_in image p = take (used (row_for p).lawful (field_in image p)) (field_in image p)

-- Whether all bytes are 0.
abbrev pub blank : List ℕ → Bool
blank bytes = list_all (λ byte. byte == 0) bytes

-- Whether a field begins with a lawful value and has only 0 behind it.
abbrev pub sound_field : Lawful → List ℕ → Bool
sound_field lawful bytes = admits lawful (take (used lawful bytes) bytes) && blank (drop (used lawful bytes) bytes)

-- Whether the fields of some parameters are sound.
abbrev pub sound_among : List ℕ → List Parameter → Bool
sound_among image [] = true
sound_among image (p ∷ ps) = sound_field (row_for p).lawful (field_in image p) && sound_among image ps

-- The number of the refusal that bytes get as an image, if any: 12, not 268 of them; then 13, an unlawful value or an unused byte that is not 0.
abbrev pub refusal : List ℕ → Option ℕ
refusal image = cond (length image == 268) (cond (sound_among image parameters) None (Some 13)) (Some 12)

-- Bytes are an image that opens to these values.
pub record OpensTo (bytes : List ℕ) (values : Values) : Type 0 where
  pub opens : refusal bytes ≡ None
  pub tells : (p : Parameter) → value_in bytes p ≡ values p
