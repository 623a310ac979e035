-- The finding rule finds one thing: no list of bytes has two findings, or a finding and none yet.
use Rattle.std.proofs.Common.{◌≡◌, ℕ, ◌+◌, ◌≤◌, List, [], ◌∷◌, ◌++◌, length, take, sym, refl, ap, ◌∙◌, subst, append_assoc, append-nil, arith, length-append}
use Rattle.std.proofs.lemmas.List.{take_at}
use Rattle.frames.specs.declared.finding.Cause.TheVariants.{Length}
use Rattle.frames.specs.Finding.{Found, dropped, Sized, Quiet, misfit, whole, verdict, Finds, Begun, none, sync, start, part, Waits}
use Rattle.frames.proofs.Quietness.{quiet_front, quiet_sync, quiet_none, first_mark}

-- what a LENGTH and the bytes behind it come to, and how many bytes the candidate has
pub data Judged (size : ℕ) (tail : List ℕ) (v : Found) (many : ℕ) : Type 0 where
  unfit : (Sized size → ⊥) → v ≡ dropped Length 3 → many ≡ 3 → Judged size tail v many
  full : Sized size → size ≤ length tail → v ≡ verdict size (take size tail) → many ≡ size + 3 → Judged size tail v many

-- a finding, by the first 0xFF that is directly followed by 0x02
pub record Opened (bytes : List ℕ) (v : Found) (used : ℕ) : Type 0 where
  pub noise : List ℕ
  pub size : ℕ
  pub tail : List ℕ
  pub many : ℕ
  pub split : bytes ≡ noise ++ (0xFF ∷ (0x02 ∷ (size ∷ tail)))
  pub quiet : Quiet noise
  pub judged : Judged size tail v many
  pub counted : used ≡ length noise + many

pub opened : {bytes : List ℕ} {v : Found} {used : ℕ} → Finds bytes v used → Opened bytes v used
opened {bytes} {v} {used} f =
    elim f.judged [
      | misfit n is small says ↦ record {
        noise = f.noise;
        size = n;
        tail = f.rest;
        many = 3;
        split = f.split ∙ ap (λ l. f.noise ++ (l ++ f.rest)) is;
        quiet = f.quiet;
        judged = unfit small says refl;
        counted = f.counted ∙ ap (λ l. length f.noise + length l) is;
      }
      | whole n body is fits long says ↦ record {
        noise = f.noise;
        size = n;
        tail = body ++ f.rest;
        many = n + 3;
        split = f.split ∙ ap (λ l. f.noise ++ (l ++ f.rest)) is;
        quiet = f.quiet;
        judged = full fits (omega (arith, length-append body f.rest)) (says ∙ ap (verdict n) (sym (take_at body f.rest n long))) refl;
        counted = f.counted ∙ ap (λ l. length f.noise + length l) is ∙ (omega arith);
      }
    ]

judged_once : {size many least : ℕ} {tail : List ℕ} {v w : Found} → Judged size tail v many → Judged size tail w least → (v ≡ w) × (many ≡ least)
judged_once (unfit s e m) (unfit t f n) = (e ∙ sym f, m ∙ sym n)
judged_once (unfit s e m) (full t l f n) = absurd (s t)
judged_once (full t l f n) (unfit s e m) = absurd (s t)
judged_once (full s k e m) (full t l f n) = (e ∙ sym f, m ∙ sym n)

-- two findings of the same bytes are one
pub finds_once : {bytes : List ℕ} {v w : Found} {used many : ℕ} → Finds bytes v used → Finds bytes w many → (v ≡ w) × (used ≡ many)
finds_once {v = v} {w = w} f g =
    let a = opened f in
    let b = opened g in
    let same = first_mark a.noise b.noise (a.size ∷ a.tail) (b.size ∷ b.tail) a.quiet b.quiet (sym a.split ∙ b.split) in
    let size_same : b.size ≡ a.size = cc in
    let tail_same : b.tail ≡ a.tail = cc in
    let one = judged_once a.judged (subst (λ n. Judged n a.tail w b.many) size_same (subst (λ t. Judged b.size t w b.many) tail_same b.judged)) in
    (one.0, a.counted ∙ (λ i. length (same.0 i) + one.1 i) ∙ sym b.counted)

-- what waiting bytes look like: no start of a candidate, a lone 0xFF at the end, or the first start and all behind it
data Shape (bytes held : List ℕ) : Type 0 where
  clear : Quiet (bytes ++ (0x02 ∷ [])) → held ≡ [] → Shape bytes held
  lone : (noise : List ℕ) → bytes ≡ noise ++ (0xFF ∷ []) → Quiet bytes → held ≡ 0xFF ∷ [] → Shape bytes held
  mark : (noise tail : List ℕ) → bytes ≡ noise ++ (0xFF ∷ (0x02 ∷ tail)) → Quiet noise → held ≡ 0xFF ∷ (0x02 ∷ tail) → Shape bytes held

shape : {bytes held : List ℕ} → Waits bytes held → Shape bytes held
shape {bytes} {held} w =
    elim w.begun [
      | none h ↦ clear (subst (λ l. Quiet (l ++ (0x02 ∷ []))) (sym (w.split ∙ ap (λ l. w.noise ++ l) h ∙ append-nil w.noise)) (w.settled h)) h
      | sync h ↦ let e = w.split ∙ ap (λ l. w.noise ++ l) h in lone w.noise e (subst Quiet (sym e) (quiet_sync w.noise w.quiet)) h
      | start h ↦ mark w.noise [] (w.split ∙ ap (λ l. w.noise ++ l) h) w.quiet h
      | part n body h s l ↦ mark w.noise (n ∷ body) (w.split ∙ ap (λ l. w.noise ++ l) h) w.quiet h
    ]

-- a start of a candidate and quiet bytes exclude each other
no_mark : {bytes : List ℕ} (noise tail : List ℕ) → Quiet bytes → bytes ≡ noise ++ (0xFF ∷ (0x02 ∷ tail)) → ⊥
no_mark noise tail q e = quiet_none noise tail (subst Quiet e q)

no_lone : {bytes : List ℕ} (noise : List ℕ) → Quiet (bytes ++ (0x02 ∷ [])) → bytes ≡ noise ++ (0xFF ∷ []) → ⊥
no_lone noise q e = no_mark noise [] q (ap (λ l. l ++ (0x02 ∷ [])) e ∙ append_assoc noise (0xFF ∷ []) (0x02 ∷ []))

same_shape : {bytes held after : List ℕ} → Shape bytes held → Shape bytes after → held ≡ after
same_shape (clear q h) (clear r k) = h ∙ sym k
same_shape (clear q h) (lone n e r k) = absurd (no_lone n q e)
same_shape {bytes} (clear q h) (mark n t e r k) = absurd (no_mark n t (quiet_front bytes (0x02 ∷ []) q) e)
same_shape (lone n e r k) (clear q h) = absurd (no_lone n q e)
same_shape (lone n e q h) (lone m f r k) = h ∙ sym k
same_shape (lone n e q h) (mark m t f r k) = absurd (no_mark m t q f)
same_shape {bytes} (mark n t e r k) (clear q h) = absurd (no_mark n t (quiet_front bytes (0x02 ∷ []) q) e)
same_shape (mark m t f r k) (lone n e q h) = absurd (no_mark m t q f)
same_shape (mark n t e q h) (mark m u f r k) = h ∙ ap (λ l. 0xFF ∷ (0x02 ∷ l)) (first_mark n m t u q r (sym e ∙ f)).1 ∙ sym k

-- what is held is one list
pub waits_once : {bytes held after : List ℕ} → Waits bytes held → Waits bytes after → held ≡ after
waits_once w v = same_shape (shape w) (shape v)

-- the bytes behind the first start are not all there yet
short : {held : List ℕ} (size : ℕ) (tail : List ℕ) {v : Found} {many : ℕ} → Begun held → held ≡ 0xFF ∷ (0x02 ∷ (size ∷ tail)) → Judged size tail v many → ⊥
short size tail (none h) e j = let y : ◌≡◌ {A = ℕ} 0 1 = cc in omega arith
short size tail (sync h) e j = let y : ◌≡◌ {A = ℕ} 0 1 = cc in omega arith
short size tail (start h) e j = let y : ◌≡◌ {A = ℕ} 0 1 = cc in omega arith
short size tail (part n body h s l) e (unfit t f m) = let y : n ≡ size = cc in t (subst Sized y s)
short size tail (part n body h s l) e (full t k f m) = let y : n ≡ size = cc in let z : body ≡ tail = cc in omega (arith, ap length z)

-- bytes that hold nothing yet have no finding
pub waits_never : {bytes held : List ℕ} {v : Found} {used : ℕ} → Waits bytes held → Finds bytes v used → ⊥
waits_never {bytes} {held} w f =
    let o = opened f in
    elim (shape w) [
      | clear q h ↦ no_mark o.noise (o.size ∷ o.tail) (quiet_front bytes (0x02 ∷ []) q) o.split
      | lone n e q h ↦ no_mark o.noise (o.size ∷ o.tail) q o.split
      | mark n t e q h ↦
          short o.size o.tail w.begun
          (h ∙ ap (λ l. 0xFF ∷ (0x02 ∷ l)) (first_mark n o.noise t (o.size ∷ o.tail) q o.quiet (sym e ∙ o.split)).1) o.judged
    ]
