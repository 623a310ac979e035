-- The reader finds exactly what the rule finds, and one list of findings is all that bytes hold.
use Rattle.std.proofs.Common.{◌≡◌, ℕ, ◌+◌, ◌<◌, ◌≤◌, List, [], ◌∷◌, ◌++◌, length, take, drop, Some, None, Option, sym, refl, ap, ◌∙◌, subst, ⊎_elim, append_assoc, append-nil, arith, length-append, length-drop, take-append-drop}
use Rattle.std.proofs.lemmas.List.{length-take-le, take_all, drop_all, drop-append-le}
use Rattle.std.proofs.lemmas.Bool.{cases_lt}
use Rattle.frames.specs.Finding.{Found, Finds, Begun, none, Waits}
use Rattle.frames.specs.Reading.{Reads}
use Rattle.frames.specs.Promises.{FindsExactly, Reading, placed, CutAnywhere, OneReading}
use Rattle.frames.proofs.Holding.{waits_held}
use Rattle.frames.proofs.Joining.{waits_on, finds_on, finds_before, finds_within}
use Rattle.frames.proofs.Uniqueness.{finds_once, waits_once, waits_never}

pub uses_within : (held stretch after : List ℕ) (r : Option Found) (used : ℕ) → Reads held stretch r used after → used ≤ length stretch
uses_within held stretch after (Some v) used reads = reads.0
uses_within held stretch after None used reads = omega (arith, reads.0)

-- what is held is no finding yet, so a finding uses a byte more
pub uses_some : (held stretch after : List ℕ) (r : Option Found) (used : ℕ) → Begun held → Reads held stretch r used after → 0 < length stretch → 0 < used
uses_some held stretch after (Some v) used begun (less, f, rests) some =
    ⊎_elim (λ pos. pos)
    (λ zero. absurd (waits_never (waits_held begun)
    (subst (λ l. Finds l v (length held + used)) (ap (λ k. held ++ take k stretch) (let e : used ≡ 0 = omega arith in e) ∙ append-nil held) f)))
    (cases_lt 0 used)
uses_some held stretch after None used begun reads some = omega (arith, reads.0)

pub finds_exactly : (held stretch after : List ℕ) (r : Option Found) (used : ℕ) → Reads held stretch r used after → FindsExactly held stretch r used
finds_exactly held stretch after (Some w) used (less, f, rests) v n =
    let all = append_assoc held (take used stretch) (drop used stretch) ∙ ap (λ l. held ++ l) (take-append-drop used stretch) in
    let here : Finds (held ++ stretch) w (length held + used) = subst (λ l. Finds l w (length held + used)) all (finds_before (drop used stretch) f) in (
      λ g. let one = finds_once here g in (ap Some one.0, one.1),
      λ is. let same : w ≡ v = cc is.0 in subst (λ m. Finds (held ++ stretch) v m) is.1 (subst (λ x. Finds (held ++ stretch) x (length held + used)) same here),
    )
finds_exactly held stretch after None used (whole, waits) v n = (
  λ g. absurd (waits_never waits g),
  λ is. absurd (let z : ◌≡◌ {A = ℕ} 0 1 = cc is.0 in omega arith),
)

-- the findings so far, and this one behind them
continues : (from : ℕ) (bytes held stretch after : List ℕ) (r : Option Found) (used : ℕ) (findings : List (ℕ × Found)) → Reads held stretch r used after
    → Reading from bytes findings held → Reading from (bytes ++ take used stretch) (findings ++ placed (from + (length bytes + used)) r) after
continues from bytes held stretch after (Some v) used [] (less, f, rests) w =
    let long : length (bytes ++ take used stretch) ≡ length bytes + used = length-append bytes (take used stretch) ∙ ap (λ k. length bytes + k) (length-take-le used stretch less) in (
      length bytes + used,
      refl,
      finds_on w (take used stretch) v used f,
      subst (λ l. Waits l after) (sym (drop_all (length bytes + used) (bytes ++ take used stretch) (omega arith))) (subst (Waits []) (sym rests) (waits_held (none refl))),
    )
continues from bytes held stretch after None used [] (whole, v) w =
    waits_on w (take used stretch) after (subst (λ l. Waits (held ++ l) after) (sym (take_all used stretch (omega arith))) v)
continues from bytes held stretch after r used ((place, v) ∷ findings) reads (n, at, f, rest) =
    let within = finds_within f in
    let count : place + (length (drop n bytes) + used) ≡ from + (length bytes + used) = omega (arith, length-drop n bytes) in (
      n,
      at,
      finds_before (take used stretch) f,
      subst (λ l. Reading place l (findings ++ placed (from + (length bytes + used)) r) after) (sym (drop-append-le n bytes (take used stretch) within))
          (subst (λ k. Reading place (drop n bytes ++ take used stretch) (findings ++ placed k r) after) count (continues place (drop n bytes) held stretch after r used findings reads rest)),
    )

pub cut_anywhere : (held stretch after : List ℕ) (r : Option Found) (used : ℕ) → Reads held stretch r used after → CutAnywhere held stretch r used after
cut_anywhere held stretch after r used reads bytes findings so_far =
    subst (λ k. Reading 0 (bytes ++ take used stretch) (findings ++ placed k r) after) (omega arith) (continues 0 bytes held stretch after r used findings reads so_far)

same_reading : (from : ℕ) (bytes : List ℕ) (findings others : List (ℕ × Found)) (held after : List ℕ) → Reading from bytes findings held → Reading from bytes others after
    → (findings ≡ others) × (held ≡ after)
same_reading from bytes [] [] held after w v = (refl, waits_once w v)
same_reading from bytes [] ((place, v) ∷ others) held after w (n, at, f, rest) = absurd (waits_never w f)
same_reading from bytes ((place, v) ∷ findings) [] held after (n, at, f, rest) w = absurd (waits_never w f)
same_reading from bytes ((p, v) ∷ findings) ((q, w) ∷ others) held after (n, at, f, rest) (m, by, g, more) =
    let one = finds_once f g in
    let place : q ≡ p = by ∙ ap (λ k. from + k) (sym one.1) ∙ sym at in
    let tail : Reading p (drop n bytes) others after = subst (λ k. Reading k (drop n bytes) others after) place (subst (λ k. Reading q (drop k bytes) others after) (sym one.1) more) in
    let both = same_reading p (drop n bytes) findings others held after rest tail in
    (λ i. (sym place i, one.0 i) ∷ both.0 i, both.1)

pub one_reading : OneReading
one_reading = same_reading 0
