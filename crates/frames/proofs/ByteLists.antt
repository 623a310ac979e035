-- Lists whose elements are bytes.
use Rattle.std.proofs.Common.{ℕ, ◌<◌, List, ◌++◌, length, get_or, take, drop, subst}
use borrow.Rule.Slice.PartMut.{put_mid}
use Rattle.std.specs.Prelude.{All}
use Rattle.std.proofs.Math.Seq.{drop-append_seam}
use Rattle.std.proofs.lemmas.List.Elements.{All-append, All-take, All-drop, All-from_get_or}

-- every element is a byte
abbrev pub Bytes : List ℕ → Type 0
Bytes = All (λ b. b < 256)

pub bytes_told : (bs : List ℕ) → ((i : ℕ) → get_or bs i 0 < 256) → Bytes bs
bytes_told bs small = All-from_get_or (λ b. b < 256) bs 0 (λ i within. small i)

pub bytes_back : (xs ys : List ℕ) → Bytes (xs ++ ys) → Bytes ys
bytes_back xs ys b = subst Bytes (drop-append_seam xs ys) (All-drop (λ b. b < 256) (length xs) (xs ++ ys) b)

-- after a write to a part
pub bytes_put : (a k : ℕ) (xs ys : List ℕ) → Bytes xs → Bytes ys → Bytes (put_mid a k xs ys)
bytes_put a k xs ys b c =
    All-append (λ b. b < 256) (take a xs) _ (All-take (λ b. b < 256) a xs b)
    (All-append (λ b. b < 256) ys _ c (All-drop (λ b. b < 256) k (drop a xs) (All-drop (λ b. b < 256) a xs b)))
