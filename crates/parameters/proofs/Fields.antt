-- A lawful value in its field: it fits, it is what the field is read as, and the field is sound.
use Rattle.std.proofs.Common.{◌≡◌, ℕ, zero, suc, ◌-◌, ◌*◌, ◌≤◌, true, false, eqb, leb, List, [], ◌∷◌, ◌++◌, length, take, drop, replicate, refl, ap, ◌∙◌, arith}
use Rattle.std.proofs.lemmas.List.{take_at, drop_at}
use Rattle.std.proofs.lemmas.Bool.{and_parts, and_from, leb-true, eqb-true, both_ways}
use Rattle.parameters.specs.declared.parameter.Lawful.{Lawful}
use Rattle.parameters.specs.declared.parameter.Lawful.TheVariants.{AnyByte, ByteUpto, RouteUpto}
use Rattle.parameters.specs.declared.parameter.Parameter.{Parameter}
use Rattle.parameters.specs.Parameters.{admits}
use Rattle.parameters.specs.Images.{width, width_of, used, blank, sound_field}

-- A value in the image: its bytes, then 0 in the bytes that it does not use.
abbrev pub field : Parameter → List ℕ → List ℕ
field p value = value ++ replicate (width_of p - length value) 0

-- A lawful value fits its field.
pub value_fits : (lawful : Lawful) (value : List ℕ) → admits lawful value ≡ true → length value ≤ width lawful
value_fits AnyByte value ok = omega (arith, eqb-true (length value) 1 ok)
value_fits (ByteUpto most) [] ok = omega arith
value_fits (ByteUpto most) (b ∷ rest) ok =
    omega (arith, eqb-true (length rest) 0 (and_parts (leb b most) (eqb (length rest) 0) ok).1)
value_fits (RouteUpto most) [] ok = omega arith
value_fits (RouteUpto most) (count ∷ rest) ok =
    let parts = and_parts (leb count most) (eqb (length rest) (6 * count)) ok in
    omega (arith, leb-true count most parts.0, eqb-true (length rest) (6 * count) parts.1)

-- A field with a lawful value at its start tells how long the value is.
used_is : (lawful : Lawful) (value behind : List ℕ) → admits lawful value ≡ true → length value ≡ used lawful (value ++ behind)
used_is AnyByte value behind ok = eqb-true (length value) 1 ok
used_is (ByteUpto most) [] behind ok = absurd (both_ways false refl ok)
used_is (ByteUpto most) (b ∷ rest) behind ok =
    omega (arith, eqb-true (length rest) 0 (and_parts (leb b most) (eqb (length rest) 0) ok).1)
used_is (RouteUpto most) [] behind ok = absurd (both_ways false refl ok)
used_is (RouteUpto most) (count ∷ rest) behind ok =
    omega (arith, eqb-true (length rest) (6 * count) (and_parts (leb count most) (eqb (length rest) (6 * count)) ok).1)

blank_zeros : (n : ℕ) → blank (replicate n 0) ≡ true
blank_zeros zero = refl
blank_zeros (suc n) = blank_zeros n

module _ (lawful : Lawful) (value : List ℕ) (n : ℕ) (ok : admits lawful value ≡ true) where
  -- The value is what the field is read as.
  pub reads_value : take (used lawful (value ++ replicate n 0)) (value ++ replicate n 0) ≡ value
  reads_value = take_at value (replicate n 0) (used lawful (value ++ replicate n 0)) (used_is lawful value (replicate n 0) ok)

  -- The field is sound.
  pub put_sound : sound_field lawful (value ++ replicate n 0) ≡ true
  put_sound =
      let bytes = value ++ replicate n 0 in
      let behind = drop_at value (replicate n 0) (used lawful bytes) (used_is lawful value (replicate n 0) ok) in
      and_from (admits lawful (take (used lawful bytes) bytes)) (blank (drop (used lawful bytes) bytes))
      (ap (admits lawful) reads_value ∙ ok) (ap blank behind ∙ blank_zeros n)
