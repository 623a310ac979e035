-- What bytes hold when more bytes follow: findings stay, and what was held goes on.
use Rattle.std.proofs.Common.{◌≡◌, ℕ, ◌+◌, ◌≤◌, List, [], ◌∷◌, ◌++◌, length, take, drop, Some, None, Option, sym, refl, ap, ◌∙◌, subst, append_assoc, append-nil, arith, length-append, length-drop, take-append-drop, take-add}
use Rattle.std.proofs.lemmas.List.{length-take-le}
use Rattle.frames.specs.Reading.{Reads}
use Rattle.frames.specs.Finding.{Found, Quiet, Finds, none, sync, start, part, Waits}
use Rattle.frames.proofs.Quietness.{quiet_joins, quiet_settled, quiet_sync}

append_nil_left : (xs ys : List ℕ) → xs ++ ys ≡ [] → xs ≡ []
append_nil_left [] ys e = refl
append_nil_left (x ∷ xs) ys e = cc

module _ {bytes held : List ℕ} (w : Waits bytes held) where
  -- whatever byte comes behind what is held, the noise before stays noise
  behind : (more : List ℕ) (y : ℕ) (ys : List ℕ) → held ++ more ≡ y ∷ ys → Quiet (w.noise ++ (y ∷ []))
  behind more y ys e =
      elim w.begun [
        | none h ↦ quiet_settled w.noise y (w.settled h)
        | sync h ↦ let z : y ≡ 0xFF = cc in rw z (quiet_sync w.noise w.quiet)
        | start h ↦ let z : y ≡ 0xFF = cc in rw z (quiet_sync w.noise w.quiet)
        | part n body h s l ↦ let z : y ≡ 0xFF = cc in rw z (quiet_sync w.noise w.quiet)
      ]

  longer_noise : (more noise rest : List ℕ) → held ++ more ≡ noise ++ rest → Quiet noise → Quiet (w.noise ++ noise)
  longer_noise more [] rest e q = rw (append-nil w.noise) w.quiet
  longer_noise more (y ∷ ys) rest e q = quiet_joins w.noise y ys (behind more y (ys ++ rest) e) q

  split_on : (more noise rest : List ℕ) → held ++ more ≡ noise ++ rest → bytes ++ more ≡ (w.noise ++ noise) ++ rest
  split_on more noise rest e =
      ap (λ l. l ++ more) w.split ∙ append_assoc w.noise held more ∙ ap (λ l. w.noise ++ l) e ∙ sym (append_assoc w.noise noise rest)

  settled_on : (more noise after : List ℕ) → held ++ more ≡ noise ++ after → after ≡ [] → Quiet (noise ++ (0x02 ∷ [])) → Quiet ((w.noise ++ noise) ++ (0x02 ∷ []))
  settled_on more [] after e h q = rw (append-nil w.noise) (w.settled (append_nil_left held more (e ∙ h)))
  settled_on more (y ∷ ys) after e h q =
      rw (append_assoc w.noise (y ∷ ys) (0x02 ∷ [])) (quiet_joins w.noise y (ys ++ (0x02 ∷ [])) (behind more y (ys ++ after) e) q)

  -- nothing yet, and nothing yet behind it
  pub waits_on : (more after : List ℕ) → Waits (held ++ more) after → Waits (bytes ++ more) after
  waits_on more after v = record {
    noise = w.noise ++ v.noise;
    split = split_on more v.noise after v.split;
    quiet = longer_noise more v.noise after v.split v.quiet;
    settled = λ h. settled_on more v.noise after v.split h (v.settled h);
    begun = v.begun;
  }

  -- nothing yet, and then a finding
  pub finds_on : (more : List ℕ) (v : Found) (used : ℕ) → Finds (held ++ more) v (length held + used) → Finds (bytes ++ more) v (length bytes + used)
  finds_on more v used f = record {
    noise = w.noise ++ f.noise;
    candidate = f.candidate;
    rest = f.rest;
    split = split_on more f.noise (f.candidate ++ f.rest) f.split;
    quiet = longer_noise more f.noise (f.candidate ++ f.rest) f.split f.quiet;
    judged = f.judged;
    counted = omega (arith, length-append w.noise f.noise, length-append w.noise held, ap length w.split, f.counted);
  }

-- a finding stays where more bytes follow
pub finds_before : {bytes : List ℕ} {v : Found} {used : ℕ} (more : List ℕ) → Finds bytes v used → Finds (bytes ++ more) v used
finds_before more f = record {
  noise = f.noise;
  candidate = f.candidate;
  rest = f.rest ++ more;
  split = ap (λ l. l ++ more) f.split ∙ simp append_assoc;
  quiet = f.quiet;
  judged = f.judged;
  counted = f.counted;
}

-- a finding uses no more bytes than there are
pub finds_within : {bytes : List ℕ} {v : Found} {used : ℕ} → Finds bytes v used → used ≤ length bytes
finds_within f =
    omega (arith, f.counted, ap length f.split, length-append f.noise (f.candidate ++ f.rest), length-append f.candidate f.rest)

parts : (before stretch : List ℕ) (n used : ℕ) → (before ++ take n stretch) ++ take used (drop n stretch) ≡ before ++ take (n + used) stretch
parts before stretch n used = append_assoc before (take n stretch) (take used (drop n stretch)) ∙ ap (λ l. before ++ l) (sym (take-add n used stretch))

-- a stretch read in two parts: nothing is found in the first, and the second is read on
pub reads_on : (before between after stretch : List ℕ) (n used : ℕ) (r : Option Found) → n ≤ length stretch → Waits (before ++ take n stretch) between
    → Reads between (drop n stretch) r used after → Reads before stretch r (n + used) after
reads_on before between after stretch n used (Some v) within w (less, f, empty) = (
  omega (arith, length-drop n stretch),
  subst (λ l. Finds l v (length before + (n + used))) (parts before stretch n used)
      (subst (Finds _ v) (omega (arith, length-append before (take n stretch), length-take-le n stretch within)) (finds_on w (take used (drop n stretch)) v used f)),
  empty,
)
reads_on before between after stretch n used None within w (all, v) = (
  omega (arith, length-drop n stretch),
  subst (λ l. Waits l after) (append_assoc before (take n stretch) (drop n stretch) ∙ ap (λ l. before ++ l) (take-append-drop n stretch)) (waits_on w (drop n stretch) after v),
)
