-- Which refusal bytes get.
use Rattle.std.proofs.Common.{◌≡◌, ℕ, true, false, cond, eqb, List, length, Some, None, Option, sym, ◌∙◌, ⊎_elim, arith}
use Rattle.std.proofs.lemmas.Bool.{eq-eqb, eqb-true, cond-true, cond-false, cases_Bool}
use Rattle.parameters.specs.Parameters.{parameters}
use Rattle.parameters.specs.Images.{refusal, sound_among}

module _ (image : List ℕ) where
  -- The refusal of bytes of the right length.
  abbrev judged : Option ℕ
  judged = cond (sound_among image parameters) None (Some 13)

  right_length : length image ≡ 268 → judged ≡ refusal image
  right_length whole = sym (cond-true (eqb (length image) 268) judged (Some 12) (eq-eqb (length image) 268 whole))

  unlawful_bytes : length image ≡ 268 → false ≡ sound_among image parameters → Some 13 ≡ refusal image
  unlawful_bytes whole unsound =
      sym (cond-false (sound_among image parameters) None (Some 13) (sym unsound)) ∙ right_length whole

  pub not_refused : length image ≡ 268 → true ≡ sound_among image parameters → None ≡ refusal image
  not_refused whole sound =
      sym (cond-true (sound_among image parameters) None (Some 13) (sym sound)) ∙ right_length whole

  -- Bytes that are not refused have the right length and are sound.
  pub opened_length : refusal image ≡ None → length image ≡ 268
  opened_length opens =
      ⊎_elim (λ yes_length. eqb-true (length image) 268 yes_length)
      (λ other. let never : Some 12 ≡ None = sym (cond-false (eqb (length image) 268) judged (Some 12) other) ∙ opens in
      let zero_one : ◌≡◌ {A = ℕ} 0 1 = cc in absurd (omega arith))
      (cases_Bool (eqb (length image) 268))

  pub opened_sound : refusal image ≡ None → sound_among image parameters ≡ true
  opened_sound opens =
      ⊎_elim (λ sound. sound)
      (λ unsound. let never : Some 13 ≡ None = unlawful_bytes (opened_length opens) (sym unsound) ∙ opens in
      let zero_one : ◌≡◌ {A = ℕ} 0 1 = cc in absurd (omega arith))
      (cases_Bool (sound_among image parameters))
