-- Writing one part after another: what is written so far, then the untouched rest of the memory.
use Rattle.std.proofs.Common.{◌≡◌, ℕ, ◌+◌, ◌-◌, ◌/◌, ◌%◌, ◌<◌, ◌≤◌, List, [], ◌∷◌, ◌++◌, length, take, drop, set, sym, refl, ap, ◌∙◌, append_assoc, arith, length-append}
use borrow.Rule.Slice.PartMut.{put_mid}
use Rattle.std.proofs.lemmas.List.{drop_more, set_at, take_at, drop_at, drop-drop}
use Rattle.frames.specs.Crc.{crc_of}
use Rattle.frames.specs.Frame.{covered, frame_bytes}

module _ (memory done : List ℕ) (n : ℕ) (upto : length done ≡ n) where
  -- one byte more
  pub then_byte : (now : List ℕ) (b m : ℕ) → now ≡ done ++ drop n memory → n < length memory → n + 1 ≡ m → set now n b ≡ (done ++ (b ∷ [])) ++ drop m memory
  then_byte now b m is room next =
      ap (λ l. set l n b) (is ∙ ap (λ l. done ++ l) (drop_more memory n 0 room))
      ∙ set_at done _ (drop (n + 1) memory) b n upto
      ∙ sym (append_assoc done (b ∷ []) (drop (n + 1) memory))
      ∙ ap (λ k. (done ++ (b ∷ [])) ++ drop k memory) next

  -- a stretch more
  pub then_bytes : (now bytes : List ℕ) (k : ℕ) → now ≡ done ++ drop n memory → put_mid n k now bytes ≡ (done ++ bytes) ++ drop (n + k) memory
  then_bytes now bytes k is =
      (λ i. (ap (take n) is ∙ take_at done (drop n memory) n upto) i ++ (bytes ++ (ap (λ l. drop k (drop n l)) is ∙ ap (drop k) (drop_at done (drop n memory) n upto) ∙ drop-drop k n memory) i))
      ∙ sym (append_assoc done bytes (drop (n + k) memory))

-- the memory while a frame is written
module _ (memory body : List ℕ) (cmd : ℕ) (room : length body + 7 ≤ length memory) where
  abbrev n : ℕ
  n = length body

  abbrev header : List ℕ
  header = 0xFF ∷ (0x02 ∷ ((n + 4) ∷ (cmd ∷ [])))

  headed : set (set (set (set memory 0 0xFF) 1 0x02) 2 (n + 4)) 3 cmd ≡ header ++ drop 4 memory
  headed =
      then_byte memory (0xFF ∷ (0x02 ∷ ((n + 4) ∷ []))) 3 refl _ cmd 4
      (then_byte memory (0xFF ∷ (0x02 ∷ [])) 2 refl _ (n + 4) 3
      (then_byte memory (0xFF ∷ []) 1 refl _ 0x02 2
      (then_byte memory [] 0 refl memory 0xFF 1 refl (omega arith) refl) (omega arith) refl) (omega arith) refl) (omega arith) refl

  -- header and DATA
  pub filled : (copied : List ℕ) → copied ≡ body
      → put_mid 4 (n + 4 - 4) (set (set (set (set memory 0 0xFF) 1 0x02) 2 (n + 4)) 3 cmd) copied ≡ (header ++ body) ++ drop (n + 4) memory
  filled copied is =
      then_bytes memory header 4 refl _ copied (n + 4 - 4) headed
      ∙ (λ i. (header ++ is i) ++ drop ((let k : 4 + (n + 4 - 4) ≡ n + 4 = omega arith in k) i) memory)

  -- what the check value is computed over
  pub over : (now : List ℕ) → now ≡ (header ++ body) ++ drop (n + 4) memory → take (n + 4 - 2) (drop 2 now) ≡ covered cmd body
  over now is = ap (λ l. take (n + 4 - 2) (drop 2 l)) is ∙ take_at (covered cmd body) (drop (n + 4) memory) (n + 4 - 2) (omega arith)

  -- the check value and ETX behind them
  pub closed : (now : List ℕ) (value low high : ℕ) → now ≡ (header ++ body) ++ drop (n + 4) memory → value ≡ crc_of (covered cmd body)
      → low ≡ value % 256 → high ≡ value / 256
      → set (set (set now (n + 4) low) (n + 5) high) (n + 6) 0x03 ≡ frame_bytes cmd body ++ drop (n + 7) memory
  closed now value low high is right lower upper =
      let one = then_byte memory (header ++ body) (n + 4) (omega arith) now low (n + 5) is (omega arith) (omega arith) in
      let two = then_byte memory ((header ++ body) ++ (low ∷ [])) (n + 5) (omega (arith, length-append (header ++ body) (low ∷ []))) _ high (n + 6) one (omega arith) (omega arith) in
      let three = then_byte memory (((header ++ body) ++ (low ∷ [])) ++ (high ∷ [])) (n + 6) (omega (arith, length-append (header ++ body) (low ∷ []), length-append ((header ++ body) ++ (low ∷ [])) (high ∷ []))) _ 0x03 (n + 7) two (omega arith) (omega arith) in
      three ∙ simp append_assoc (λ i. header ++ (body ++ ((lower ∙ ap (λ v. v % 256) right) i ∷ ((upper ∙ ap (λ v. v / 256) right) i ∷ (0x03 ∷ drop (n + 7) memory)))))
