-- What gathering a candidate's bytes comes to.
use Rattle.std.proofs.Common.{◌≡◌, ℕ, ◌+◌, ◌<◌, ◌≤◌, List, [], ◌∷◌, ◌++◌, length, get_or, take, drop, Some, Option, sym, refl, ap, ◌∙◌, subst, append-nil, arith, length-append}
use Rattle.std.proofs.lemmas.List.{length-take-le}
use Rattle.frames.specs.declared.finding.Cause.TheVariants.{Length}
use Rattle.frames.specs.declared.reader.Reader.{Reader}
use Rattle.frames.specs.declared.reader.Stage.{Stage}
use Rattle.frames.specs.declared.reader.Stage.TheVariants.{Hunting, Start, Body}
use Rattle.frames.specs.Finding.{Found, dropped, Sized, verdict, misfit, whole, part, Waits}
use Rattle.frames.specs.Reading.{begun, holds, Reads}
use Rattle.frames.proofs.Holding.{waits_held, waits_at}
use Rattle.frames.proofs.Joining.{reads_on}

module _ (n : ℕ) (got stretch : List ℕ) (fits : Sized n) where
  -- too few bytes: they are held as well
  pub gathers_more : length got + length stretch < n → Waits (0xFF ∷ (0x02 ∷ (n ∷ (got ++ stretch)))) (0xFF ∷ (0x02 ∷ (n ∷ (got ++ stretch))))
  gathers_more few = waits_held (part n (got ++ stretch) refl fits (omega (arith, length-append got stretch)))

  -- enough bytes: the candidate is judged
  pub gathers_all : (m : ℕ) (v : Found) → length got + m ≡ n → m ≤ length stretch → v ≡ verdict n (got ++ take m stretch)
      → Reads (0xFF ∷ (0x02 ∷ (n ∷ got))) stretch (Some v) m []
  gathers_all m v enough within is = subst (λ w. Reads (0xFF ∷ (0x02 ∷ (n ∷ got))) stretch (Some w) m []) (sym is) (
    within,
    record {
      noise = [];
      candidate = 0xFF ∷ (0x02 ∷ (n ∷ (got ++ take m stretch)));
      rest = [];
      split = sym (append-nil (0xFF ∷ (0x02 ∷ (n ∷ (got ++ take m stretch)))));
      quiet = tt;
      judged = whole n (got ++ take m stretch) refl fits (length-append got (take m stretch) ∙ ap (λ k. length got + k) (length-take-le m stretch within) ∙ enough) refl;
      counted = omega (arith, length-append got (take m stretch), length-take-le m stretch within);
    },
    refl,
  )

-- what reading comes to, once the stage is known
pub reads_at : (r : Reader) (s : Stage) (stretch after : List ℕ) (f : Option Found) (used : ℕ) → r.stage ≡ s
    → Reads (begun s r.body) stretch f used after → Reads (holds r) stretch f used after
reads_at r s stretch after f used e = subst (λ t. Reads (begun t r.body) stretch f used after) (sym e)

-- as many bytes are held behind LENGTH as the stage says
pub held_behind : (r : Reader) (n got : ℕ) → r.stage ≡ Body n got → length (take got r.body) ≡ got
held_behind r n got e = let fits = r.«open» n got e in length-take-le got r.body (omega (arith, r.whole, fits.0.1, fits.1))

-- the bytes of a stretch that is too short are held behind those that were
pub gathers_held : (r : Reader) (n got : ℕ) (stretch body : List ℕ) → r.stage ≡ Body n got → got + length stretch < n
    → take (got + length stretch) body ≡ take got r.body ++ stretch
    → Waits (holds r ++ stretch) (begun (Body n (got + length stretch)) body)
gathers_held r n got stretch body e few taken =
    waits_at r (Body n got) stretch _ e
    (subst (λ l. Waits (0xFF ∷ (0x02 ∷ (n ∷ (take got r.body ++ stretch)))) (0xFF ∷ (0x02 ∷ (n ∷ l)))) (sym taken)
    (gathers_more n (take got r.body) stretch (r.«open» n got e).0 (omega (arith, held_behind r n got e))))

-- a judged body is the candidate's
pub judged_as : (n : ℕ) (bytes body : List ℕ) (v : Found) → v ≡ verdict (length bytes) bytes → length bytes ≡ n → bytes ≡ body → v ≡ verdict n body
judged_as n bytes body v is long same = is ∙ (λ i. verdict (long i) (same i))

-- a LENGTH that no frame has ends the candidate
pub drops_length : (r after : Reader) (stretch : List ℕ) → r.stage ≡ Start → after.stage ≡ Hunting → 0 < length stretch → (Sized (get_or stretch 0 0) → ⊥)
    → Reads (holds r) stretch (Some (dropped Length 3)) 1 (holds after)
drops_length r after [] at_start rests some small = absurd (omega arith)
drops_length r after (n ∷ more) at_start rests some small =
    reads_at r Start (n ∷ more) (holds after) (Some (dropped Length 3)) 1 at_start (
      omega arith,
      record {
        noise = [];
        candidate = 0xFF ∷ (0x02 ∷ (n ∷ []));
        rest = [];
        split = refl;
        quiet = tt;
        judged = misfit n refl small refl;
        counted = refl;
      },
      ap (λ s. begun s after.body) rests,
    )

-- a LENGTH that a frame can have is held, and the rest of the stretch is gathered
pub goes_on : (r measured : Reader) (stretch after : List ℕ) (f : Option Found) (used : ℕ) → r.stage ≡ Start → 0 < length stretch → Sized (get_or stretch 0 0)
    → measured.stage ≡ Body (get_or stretch 0 0) 0
    → Reads (holds measured) (drop 1 stretch) f used after → Reads (holds r) stretch f (1 + used) after
goes_on r measured [] after f used at_start some fits is reads = absurd (omega arith)
goes_on r measured (n ∷ more) after f used at_start some fits is reads =
    reads_on (holds r) (holds measured) after (n ∷ more) 1 used f (omega arith)
    (waits_at r Start (n ∷ []) (holds measured) at_start
    (subst (Waits (0xFF ∷ (0x02 ∷ (n ∷ [])))) (sym (ap (λ s. begun s measured.body) is)) (waits_held (part n [] refl fits (omega arith))))) reads
