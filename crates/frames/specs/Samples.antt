-- Cases worked out by hand, as one table: each row is a test that computes to true.
use Rattle.std.specs.Prelude.{ℕ, ◌+◌, Bool, true, false, cond, ◌&&◌, List, [], ◌∷◌, length, take, Some, None, Option, ◌==◌, nat_le}
use Rattle.frames.specs.declared.finding.Cause.{Cause}
use Rattle.frames.specs.declared.finding.Cause.TheVariants.{Length, End, Check}
use Rattle.frames.specs.Crc.{crc_of}
use Rattle.frames.specs.Frame.{stored, frame_bytes}
use Rattle.frames.specs.Finding.{Found, frame, dropped, verdict}

-- every row of a table is true
abbrev pub all : List Bool → Bool
all [] = true
all (row ∷ rows) = row && all rows

-- two lists of bytes are the same
abbrev pub same : List ℕ → List ℕ → Bool
same [] [] = true
same [] (y ∷ ys) = false
same (x ∷ xs) [] = false
same (x ∷ xs) (y ∷ ys) = x == y && same xs ys

-- what a LENGTH and the bytes behind it come to, `n` bytes of noise before: the finding and how many bytes it uses
abbrev pub judge_at : ℕ → List ℕ → Option (Found × ℕ)
judge_at n [] = None
judge_at n (size ∷ tail) =
    cond (nat_le 4 size && nat_le size 254)
    (cond (nat_le size (length tail)) (Some (verdict size (take size tail), n + (size + 3))) None)
    (Some (dropped Length 3, n + 3))

-- the finding rule as a search, `n` bytes of noise before
abbrev pub search_from : ℕ → List ℕ → Option (Found × ℕ)
search_from n [] = None
search_from n (a ∷ []) = None
search_from n (a ∷ b ∷ bytes) = cond (a == 0xFF && b == 0x02) (judge_at n bytes) (search_from (n + 1) (b ∷ bytes))

abbrev pub same_cause : Cause → Cause → Bool
same_cause Length Length = true
same_cause Length End = false
same_cause Length Check = false
same_cause End Length = false
same_cause End End = true
same_cause End Check = false
same_cause Check Length = false
same_cause Check End = false
same_cause Check Check = true

abbrev pub same_found : Found → Found → Bool
same_found (frame c xs) (frame d ys) = c == d && same xs ys
same_found (frame c xs) (dropped d n) = false
same_found (dropped c n) (frame d ys) = false
same_found (dropped c n) (dropped d m) = same_cause c d && n == m

-- the bytes hold this first, and it is over after so many of them
abbrev pub gives : Option (Found × ℕ) → Found → ℕ → Bool
gives None w m = false
gives (Some (v, n)) w m = same_found v w && n == m

abbrev pub holds_first : List ℕ → Found → ℕ → Bool
holds_first bytes v used = gives (search_from 0 bytes) v used

-- ACK, NAK, ERROR with data 01, and a parameter written with its answer
abbrev pub samples : List Bool
samples =
    (crc_of (0x0B ∷ (0x20 ∷ (0x43 ∷ (0x06 ∷ (0x01 ∷ (0x00 ∷ (0x00 ∷ (0x02 ∷ (0x01 ∷ []))))))))) == 0x41D2)
    ∷ (same (stored 0x41D2) (0xD2 ∷ (0x41 ∷ []))
    ∷ (same (frame_bytes 0x06 []) (0xFF ∷ (0x02 ∷ (0x04 ∷ (0x06 ∷ (0x56 ∷ (0x02 ∷ (0x03 ∷ [])))))))
    ∷ (same (frame_bytes 0x15 []) (0xFF ∷ (0x02 ∷ (0x04 ∷ (0x15 ∷ (0x4C ∷ (0x20 ∷ (0x03 ∷ [])))))))
    ∷ (same (frame_bytes 0x00 (0x01 ∷ [])) (0xFF ∷ (0x02 ∷ (0x05 ∷ (0x00 ∷ (0x01 ∷ (0x34 ∷ (0x28 ∷ (0x03 ∷ []))))))))
    ∷ (same (frame_bytes 0x40 (0x04 ∷ (0x00 ∷ []))) (0xFF ∷ (0x02 ∷ (0x06 ∷ (0x40 ∷ (0x04 ∷ (0x00 ∷ (0x8C ∷ (0x2A ∷ (0x03 ∷ [])))))))))
    ∷ (same (frame_bytes 0x41 (0x00 ∷ [])) (0xFF ∷ (0x02 ∷ (0x05 ∷ (0x41 ∷ (0x00 ∷ (0x03 ∷ (0x66 ∷ (0x03 ∷ []))))))))
    ∷ (holds_first (0xFF ∷ (0xFF ∷ (0x02 ∷ (0x04 ∷ (0x06 ∷ (0x56 ∷ (0x02 ∷ (0x03 ∷ [])))))))) (frame 0x06 []) 8
    ∷ (holds_first (0xFF ∷ (0x02 ∷ (0x03 ∷ []))) (dropped Length 3) 3
    ∷ []))))))))
