-- The pulse as it is computed is a pulse by the rules: every station can be pulsed on every line.
use Rattle.std.proofs.Common.{◌≡◌, ℕ, zero, suc, ◌+◌, ◌≤◌, false, cond, ◌&&◌, eqb, leb, List, [], ◌∷◌, ◌++◌, length, drop, Some, None, Option, sym, refl, ap, ◌∙◌, subst, arith, length-drop}
use Rattle.std.proofs.lemmas.Bool.{cond_both, and_parts, eqb-true, eqb-false, eq-eqb, leb-true, leb-false, cond-true, cond-false}
use Rattle.frames.specs.Finding.{Found, Quiet, misfit, whole, Finds, Begun, none, sync, start, part, Waits}
use Rattle.frames.specs.Promises.{Reading}
use Rattle.frames.specs.Samples.{judge_at, search_from}
use Rattle.frames.proofs.Holding.{waits_held}
use Rattle.frames.proofs.Searching.{search_is_the_rule}
use Rattle.station.specs.Stations.{taken}
use Rattle.station.specs.Computing.{left_open, read_next, read_from, read_all, ComputesThePulse}
use Rattle.station.proofs.Turns.{clash}

not_start : (a b : ℕ) → eqb a 0xFF && eqb b 0x02 ≡ false → a ≡ 0xFF → b ≡ 0x02 → ⊥
not_start a b e p q = clash (sym e ∙ (λ i. eq-eqb a 0xFF p i && eq-eqb b 0x02 q i))

-- one more byte of noise before
more_noise : (a b : ℕ) (bytes held noise : List ℕ) → (a ≡ 0xFF → b ≡ 0x02 → ⊥) → b ∷ bytes ≡ noise ++ held → Quiet noise → (held ≡ [] → Quiet (noise ++ (0x02 ∷ [])))
    → Begun held → Waits (a ∷ b ∷ bytes) held
more_noise a b bytes held [] apart e quiet settled begun =
    record { noise = a ∷ []; split = ap (λ l. a ∷ l) e; quiet = tt; settled = λ h. absurd (let z : ◌≡◌ {A = ℕ} 0 1 = cc in omega arith); begun = begun }
more_noise a b bytes held (x ∷ noise) apart e quiet settled begun =
    let same : x ≡ b = cc in
    let next : a ≡ 0xFF → x ≡ 0x02 → ⊥ = λ p q. apart p (sym same ∙ q) in
    record { noise = a ∷ (x ∷ noise); split = ap (λ l. a ∷ l) e; quiet = (next, quiet); settled = λ h. (next, settled h); begun = begun }

-- a candidate that is not over yet
begun_part : (n : ℕ) (tail : List ℕ) → judge_at n tail ≡ None → Begun (0xFF ∷ (0x02 ∷ tail))
begun_part n [] e = start refl
begun_part n (size ∷ tail) e =
    cond_both (leb 4 size && leb size 254) _ _ (λ o. o ≡ None → Begun (0xFF ∷ (0x02 ∷ (size ∷ tail))))
    (λ t. let sizes = and_parts (leb 4 size) (leb size 254) t in
    cond_both (leb size (length tail)) _ _ (λ o. o ≡ None → Begun (0xFF ∷ (0x02 ∷ (size ∷ tail))))
    (λ u is. absurd (let z : ◌≡◌ {A = ℕ} 0 1 = cc in omega arith))
    (λ u is. part size tail refl (leb-true 4 size sizes.0, leb-true size 254 sizes.1) (leb-false size (length tail) u)))
    (λ t is. absurd (let z : ◌≡◌ {A = ℕ} 0 1 = cc in omega arith))
    e

-- bytes in which the search finds nothing leave open what it says
none_found : (n : ℕ) (bytes : List ℕ) → search_from n bytes ≡ None → Waits bytes (left_open bytes)
none_found n [] e = waits_held (none refl)
none_found n (a ∷ []) e =
    cond_both (eqb a 0xFF) _ _ (Waits (a ∷ []))
    (λ t. waits_held (sync (ap (λ x. x ∷ []) (eqb-true a 0xFF t))))
    (λ t. record { noise = a ∷ []; split = refl; quiet = tt; settled = λ h. ((λ p q. eqb-false a 0xFF t p), tt); begun = none refl })
none_found n (a ∷ b ∷ bytes) e =
    cond_both (eqb a 0xFF && eqb b 0x02) _ _
    (λ l. cond (eqb a 0xFF && eqb b 0x02) (judge_at n bytes) (search_from (n + 1) (b ∷ bytes)) ≡ None → Waits (a ∷ b ∷ bytes) l)
    (λ t is. let marks = and_parts (eqb a 0xFF) (eqb b 0x02) t in
    let same : 0xFF ∷ (0x02 ∷ bytes) ≡ a ∷ (b ∷ bytes) = sym (λ i. eqb-true a 0xFF marks.0 i ∷ (eqb-true b 0x02 marks.1 i ∷ bytes)) in
    waits_held (subst Begun same (begun_part n bytes (sym (cond-true _ _ _ t) ∙ is))))
    (λ t is. let w = none_found (n + 1) (b ∷ bytes) (sym (cond-false _ _ _ t) ∙ is) in
    more_noise a b bytes (left_open (b ∷ bytes)) w.noise (not_start a b t) w.split w.quiet w.settled w.begun)
    e

some_bytes : {bytes : List ℕ} {v : Found} {used : ℕ} → Finds bytes v used → 1 ≤ used
some_bytes f =
    elim f.judged [
      | misfit n is small says ↦ omega (arith, f.counted, ap length is)
      | whole n body is fits long says ↦ omega (arith, f.counted, ap length is)
    ]

-- what the search reads is all that the bytes hold
pub read_right : (most from : ℕ) (bytes : List ℕ) → length bytes ≤ most → Reading from bytes (read_from most from bytes).findings (read_from most from bytes).open_end
read_right zero from [] few = waits_held (none refl)
read_right zero from (b ∷ bytes) few = absurd (omega (arith, few))
read_right (suc most) from bytes few = next (search_from 0 bytes) refl (λ used some. read_right most (from + used) (drop used bytes) (omega (arith, length-drop used bytes, few, some)))
  where
    next : (o : Option (Found × ℕ)) → search_from 0 bytes ≡ o
        → ((used : ℕ) → 1 ≤ used → Reading (from + used) (drop used bytes) (read_from most (from + used) (drop used bytes)).findings (read_from most (from + used) (drop used bytes)).open_end)
        → Reading from bytes (read_next (read_from most) from bytes o).findings (read_next (read_from most) from bytes o).open_end
    next None e rest = none_found 0 bytes e
    next (Some (v, used)) e rest =
        let f = (search_is_the_rule bytes v used).1 e in (used, refl, f, rest used (some_bytes f))

pub computes_the_pulse : ComputesThePulse
computes_the_pulse s line =
    let bytes = s.held ++ taken line in
    record {
      findings = (read_all bytes).findings;
      open_end = (read_all bytes).open_end;
      reads = read_right (length bytes) 0 bytes (omega arith);
      held = refl;
      places = refl;
      mark = refl;
      next = refl;
      outgoing = refl;
      waits_on = refl;
      capacity = refl;
    }
