-- A ring's bytes as a stretch goes in behind them, straight and then round the end of the memory.
use Rattle.std.proofs.Common.{◌≡◌, ℕ, ◌+◌, ◌-◌, ◌<◌, ◌≤◌, min, List, ◌++◌, length, refl, ap, ◌∙◌, append_assoc, arith}
use Rattle.std.proofs.lemmas.List.{same_lists, places}
use borrow.Rule.Slice.PartMut.{put_mid}
use Rattle.lines.specs.Rings.{ring_bytes}

-- A part that goes in at the place behind the last byte, and does not reach past the end of the memory.
pub part_added : (memory part : List ℕ) (head len start k n : ℕ) → head ≤ length memory → length part ≡ k → n ≡ len + k → n ≤ length memory → start + k ≤ length memory → (0 < k → head + len < length memory → start ≡ head + len) → (0 < k → length memory ≤ head + len → start + length memory ≡ head + len) → ring_bytes (put_mid start k memory part) head n ≡ ring_bytes memory head len ++ part
part_added memory part head len start k n begins size more room short straight round =
    same_lists _ _ (grind (arith, places)) (λ i d h. grind (arith, places))

-- The front goes in behind the last byte and reaches at most to the end of the memory, and the back goes on at its start.
pub stretch_added : (memory front back : List ℕ) (head len start j k n : ℕ) → head ≤ length memory → (head + len < length memory → start ≡ head + len) → (length memory ≤ head + len → start + length memory ≡ head + len) → length front ≡ j → length back ≡ k → j ≡ min (j + k) (length memory - start) → n ≡ len + (j + k) → n ≤ length memory → ring_bytes (put_mid 0 k (put_mid start j memory front) back) head n ≡ ring_bytes memory head len ++ (front ++ back)
stretch_added memory front back head len start j k n begins straight round front_size back_size to_end more room =
    let between = put_mid start j memory front in
    let inside : start ≤ length memory = grind arith in
    let size : length between ≡ length memory = grind (arith, places) in
    part_added between back head (len + j) 0 k n (omega arith) back_size (omega arith) (omega arith) (omega arith) (grind arith) (grind arith)
    ∙ ap (λ before. before ++ back) (part_added memory front head len start j (len + j) begins front_size refl (omega arith) (omega arith) (λ _. straight) (λ _. round))
    ∙ append_assoc (ring_bytes memory head len) front back
