-- Noise: where two quiet stretches meet, and that a quiet stretch holds no start of a candidate.
use Rattle.std.proofs.Common.{◌≡◌, ℕ, List, [], ◌∷◌, ◌++◌, refl, arith}
use Rattle.frames.specs.Finding.{Quiet}

pub quiet_front : (xs ys : List ℕ) → Quiet (xs ++ ys) → Quiet xs
quiet_front [] ys q = tt
quiet_front (a ∷ []) ys q = tt
quiet_front (a ∷ b ∷ xs) ys q = (q.0, quiet_front (b ∷ xs) ys q.1)

-- what follows goes by its first byte
pub quiet_joins : (xs : List ℕ) (y : ℕ) (ys : List ℕ) → Quiet (xs ++ (y ∷ [])) → Quiet (y ∷ ys) → Quiet (xs ++ (y ∷ ys))
quiet_joins [] y ys q r = r
quiet_joins (a ∷ []) y ys q r = (q.0, r)
quiet_joins (a ∷ b ∷ xs) y ys q r = (q.0, quiet_joins (b ∷ xs) y ys q.1 r)

-- where not even 0x02 opens a candidate, no byte does
pub quiet_settled : (xs : List ℕ) (y : ℕ) → Quiet (xs ++ (0x02 ∷ [])) → Quiet (xs ++ (y ∷ []))
quiet_settled [] y q = tt
quiet_settled (a ∷ []) y q = (λ e f. q.0 e refl, tt)
quiet_settled (a ∷ b ∷ xs) y q = (q.0, quiet_settled (b ∷ xs) y q.1)

-- a 0xFF opens nothing by itself
pub quiet_sync : (xs : List ℕ) → Quiet xs → Quiet (xs ++ (0xFF ∷ []))
quiet_sync [] q = tt
quiet_sync (a ∷ []) q = (λ e f. absurd (omega arith), tt)
quiet_sync (a ∷ b ∷ xs) q = (q.0, quiet_sync (b ∷ xs) q.1)

-- a quiet list holds no 0xFF directly followed by 0x02
pub quiet_none : (xs ys : List ℕ) → Quiet (xs ++ (0xFF ∷ (0x02 ∷ ys))) → ⊥
quiet_none [] ys q = q.0 refl refl
quiet_none (a ∷ []) ys q = q.1.0 refl refl
quiet_none (a ∷ b ∷ xs) ys q = quiet_none (b ∷ xs) ys q.1

-- the first 0xFF directly followed by 0x02 is one place
pub first_mark : (xs ys us vs : List ℕ) → Quiet xs → Quiet ys → xs ++ (0xFF ∷ (0x02 ∷ us)) ≡ ys ++ (0xFF ∷ (0x02 ∷ vs)) → (xs ≡ ys) × (us ≡ vs)
first_mark [] [] us vs q r e = (refl, cc)
first_mark [] (b ∷ []) us vs q r e = let z : ◌≡◌ {A = ℕ} 2 255 = cc in absurd (omega arith)
first_mark [] (b ∷ c ∷ ys) us vs q r e = absurd (r.0 (cc) (cc))
first_mark (a ∷ []) [] us vs q r e = let z : ◌≡◌ {A = ℕ} 2 255 = cc in absurd (omega arith)
first_mark (a ∷ b ∷ xs) [] us vs q r e = absurd (q.0 (cc) (cc))
first_mark (a ∷ []) (b ∷ []) us vs q r e = (cc, cc)
first_mark (a ∷ []) (b ∷ c ∷ ys) us vs q r e = let f = first_mark [] (c ∷ ys) us vs tt r.1 (cc) in (cc, f.1)
first_mark (a ∷ c ∷ xs) (b ∷ []) us vs q r e = let f = first_mark (c ∷ xs) [] us vs q.1 tt (cc) in (cc, f.1)
first_mark (a ∷ c ∷ xs) (b ∷ d ∷ ys) us vs q r e = let f = first_mark (c ∷ xs) (d ∷ ys) us vs q.1 r.1 (cc) in (cc, f.1)
