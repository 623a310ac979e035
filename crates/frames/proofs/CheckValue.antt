-- The table method computes the check value: shifting is linear under exclusive or.
use Rattle.std.proofs.Common.{◌≡◌, ℕ, zero, suc, ◌*◌, ◌/◌, ◌%◌, ◌^◌, ◌<◌, ◌⊎◌, List, map, get_or, sym, refl, ap, ◌∙◌, subst, ⊎_elim, arith}
use lib.Bits.{bit_xor, bit_and, and_mask, xor_shr, xor_mod, xor_comm, xor_assoc, xor_self, xor_zero_l, xor_zero_r, xor_shifted, shifted_half, shifted_even}
use Rattle.std.specs.List.{range_with_len}
use Rattle.std.proofs.lemmas.Nat.{shr_split, mod_below, xor_lt}
use Rattle.std.proofs.lemmas.List.FromFn.{get_or-map-range_with_len}
use Rattle.frames.specs.Crc.{shift_once, shift, crc_byte}

-- the bit that falls out is 0 or 1
bit : (a : ℕ) → (a % 2 ≡ 0) ⊎ (a % 2 ≡ 1)
bit a = let h = mod_below a 2 (omega arith) in grind arith

module _ (a : ℕ) where
  even : a % 2 ≡ 0 → shift_once a ≡ a / 2
  unfolding shift_once
  even e = rw e

  odd : a % 2 ≡ 1 → shift_once a ≡ bit_xor (a / 2) 0x8408
  unfolding shift_once
  odd e = rw e

-- the bit and the rest of an exclusive or
low : (a b : ℕ) → bit_xor a b % 2 ≡ bit_xor (a % 2) (b % 2)
low a b = xor_mod a b 1

rest : (a b : ℕ) → bit_xor a b / 2 ≡ bit_xor (a / 2) (b / 2)
rest a b = xor_shr a b 1

swap : (a b c : ℕ) → bit_xor (bit_xor a c) b ≡ bit_xor (bit_xor a b) c
swap a b c = xor_assoc a c b ∙ ap (bit_xor a) (xor_comm c b) ∙ sym (xor_assoc a b c)

cancel : (a b c : ℕ) → bit_xor (bit_xor a c) (bit_xor b c) ≡ bit_xor a b
cancel a b c =
    xor_assoc a c (bit_xor b c)
    ∙ ap (bit_xor a) (ap (bit_xor c) (xor_comm b c) ∙ sym (xor_assoc c c b) ∙ ap (λ x. bit_xor x b) (xor_self c) ∙ xor_zero_l b)

once_linear : (a b : ℕ) → shift_once (bit_xor a b) ≡ bit_xor (shift_once a) (shift_once b)
once_linear a b =
    ⊎_elim
    (λ ea. ⊎_elim
    (λ eb. even (bit_xor a b) (low a b ∙ (λ i. bit_xor (ea i) (eb i))) ∙ rest a b ∙ sym (λ i. bit_xor (even a ea i) (even b eb i)))
    (λ eb. odd (bit_xor a b) (low a b ∙ (λ i. bit_xor (ea i) (eb i))) ∙ ap (λ x. bit_xor x 0x8408) (rest a b) ∙ xor_assoc (a / 2) (b / 2) 0x8408 ∙ sym (λ i. bit_xor (even a ea i) (odd b eb i)))
    (bit b))
    (λ ea. ⊎_elim
    (λ eb. odd (bit_xor a b) (low a b ∙ (λ i. bit_xor (ea i) (eb i))) ∙ ap (λ x. bit_xor x 0x8408) (rest a b) ∙ sym (swap (a / 2) (b / 2) 0x8408) ∙ sym (λ i. bit_xor (odd a ea i) (even b eb i)))
    (λ eb. even (bit_xor a b) (low a b ∙ (λ i. bit_xor (ea i) (eb i))) ∙ rest a b ∙ sym (cancel (a / 2) (b / 2) 0x8408) ∙ sym (λ i. bit_xor (odd a ea i) (odd b eb i)))
    (bit b))
    (bit a)

linear : (n a b : ℕ) → shift n (bit_xor a b) ≡ bit_xor (shift n a) (shift n b)
unfolding shift
linear zero a b = refl
linear (suc n) a b = ap (shift n) (once_linear a b) ∙ linear n (shift_once a) (shift_once b)

-- what stands above the low n bits only comes down
down : (n a : ℕ) → shift n (a * 2 ^ n) ≡ a
unfolding shift
down zero a = omega arith
down (suc n) a = ap (shift n) (even (a * 2 ^ suc n) (shifted_even a n) ∙ shifted_half a n) ∙ down n a

split : (x : ℕ) → bit_xor (x / 256 * 256) (x % 256) ≡ x
split x = xor_shifted (x / 256) 8 (x % 256) (mod_below x 256 (omega arith)) ∙ shr_split x 8

-- eight shifts by what the high and the low byte come to
pub eight : (x : ℕ) → shift 8 x ≡ bit_xor (x / 256) (shift 8 (x % 256))
eight x = ap (shift 8) (sym (split x)) ∙ linear 8 (x / 256 * 256) (x % 256) ∙ ap (λ y. bit_xor y (shift 8 (x % 256))) (down 8 (x / 256))

module _ (value byte : ℕ) (small : byte < 256) where
  high_of : bit_xor value byte / 256 ≡ value / 256
  high_of = xor_shr value byte 8 ∙ ap (bit_xor (value / 256)) (let e : byte / 256 ≡ 0 = omega arith in e) ∙ xor_zero_r (value / 256)

  low_of : bit_xor value byte % 256 ≡ bit_xor (value % 256) byte
  low_of = xor_mod value byte 8 ∙ ap (bit_xor (value % 256)) (let e : byte % 256 ≡ byte = omega arith in e)

  -- the low byte as the code takes it
  masked : bit_xor (bit_and value 255) byte ≡ bit_xor (value % 256) byte
  masked = ap (λ x. bit_xor x byte) (and_mask value 8)

  pub place_small : bit_xor (bit_and value 255) byte < 256
  place_small = subst (λ x. x < 256) (sym masked) (xor_lt 8 (value % 256) byte (mod_below value 256 (omega arith)) small)

  -- a table of eight shifts gives the next value
  pub by_table : (table : List ℕ) → table ≡ map (shift 8) (range_with_len 0 256)
      → bit_xor (value / 256) (get_or table (bit_xor (bit_and value 255) byte) 0) ≡ crc_byte value byte
  by_table table rule =
      ap (λ t. bit_xor (value / 256) (get_or t (bit_xor (bit_and value 255) byte) 0)) rule
      ∙ ap (bit_xor (value / 256)) (get_or-map-range_with_len (shift 8) 0 256 _ (bit_xor (bit_and value 255) byte) 0 place_small (omega arith))
      ∙ ap (λ x. bit_xor (value / 256) (shift 8 x)) masked
      ∙ sym (λ i. bit_xor (high_of i) (shift 8 (low_of i)))
      ∙ sym (eight (bit_xor value byte))
