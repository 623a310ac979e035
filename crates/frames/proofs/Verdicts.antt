-- What a whole candidate comes to, by its last byte and its check value.
use Rattle.std.proofs.Common.{◌≡◌, ℕ, ◌+◌, ◌-◌, List, ◌∷◌, get_or, take, drop, ◌∙◌, eq-eqb, ne_eqb}
use Rattle.std.proofs.lemmas.Bool.{cond-true, cond-false}
use Rattle.frames.specs.declared.finding.Cause.TheVariants.{Check, End}
use Rattle.frames.specs.Crc.{crc_of}
use Rattle.frames.specs.Finding.{frame, dropped, stored_in, verdict}

pub verdict_end : (n : ℕ) (body : List ℕ) → (get_or body (n - 1) 0 ≡ 0x03 → ⊥) → verdict n body ≡ dropped End (n + 3)
verdict_end n body wrong = cond-false _ _ _ (ne_eqb _ _ wrong)

module _ (n : ℕ) (body : List ℕ) (ends : get_or body (n - 1) 0 ≡ 0x03) where
  pub verdict_check : (stored_in n body ≡ crc_of (n ∷ take (n - 3) body) → ⊥) → verdict n body ≡ dropped Check (n + 3)
  verdict_check wrong = cond-true _ _ _ (eq-eqb _ _ ends) ∙ cond-false _ _ _ (ne_eqb _ _ wrong)

  pub verdict_right : stored_in n body ≡ crc_of (n ∷ take (n - 3) body) → verdict n body ≡ frame (get_or body 0 0) (drop 1 (take (n - 3) body))
  verdict_right right = cond-true _ _ _ (eq-eqb _ _ ends) ∙ cond-true _ _ _ (eq-eqb _ _ right)
