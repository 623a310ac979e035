-- What pulse after pulse reads is what all the bytes taken since a silence hold.
use Rattle.std.proofs.Math.Seq.{drop-append-add}
use Rattle.std.proofs.Common.{◌≡◌, ℕ, ◌+◌, ◌-◌, ◌<◌, ◌≤◌, List, [], ◌∷◌, ◌++◌, length, take, drop, Some, None, Ok, Err, Option, Result, sym, refl, ap, ◌∙◌, subst, inl, inr, ⊎_elim, append_assoc, arith, length-append, length-drop, take-append-drop}
use lib.Seq.{take-append-le}
use Rattle.std.proofs.lemmas.List.{take_at, drop-append-le}
use Rattle.std.proofs.lemmas.Bool.{cases_lt}
use Rattle.frames.specs.Finding.{Found, Finds, Waits, none}
use Rattle.frames.specs.Promises.{Reading}
use Rattle.frames.proofs.Holding.{waits_held}
use Rattle.frames.proofs.Joining.{waits_on, finds_on, finds_before, finds_within}
use Rattle.frames.proofs.Uniqueness.{waits_never}
use Rattle.station.specs.declared.refusal.Refusal.{Refusal}
use Rattle.station.specs.Inquiries.{Outcome}
use Rattle.station.specs.Stations.{Slip, Station, taken, unless_silent, lodge_cause, lodge_after, collect_after}
use Rattle.station.specs.Histories.{lodges, pulses, collects, History, made, ◌▸◌, Run}
use Rattle.station.specs.Promises.{In, since_silence, bytes_heard}

-- a finding that is over within the first bytes is found in them
finds_front : (xs more : List ℕ) (v : Found) (used : ℕ) → used ≤ length xs → Finds (xs ++ more) v used → Finds xs v used
finds_front xs more v used within f =
    let both = f.noise ++ f.candidate in
    let long : length both ≡ used = length-append f.noise f.candidate ∙ sym f.counted in
    let front : take used xs ≡ both =
    sym (take-append-le used xs more within) ∙ ap (take used) (f.split ∙ sym (append_assoc f.noise f.candidate f.rest)) ∙ take_at both f.rest used long in
    record {
      noise = f.noise;
      candidate = f.candidate;
      rest = drop used xs;
      split = sym (take-append-drop used xs) ∙ ap (λ l. l ++ drop used xs) front ∙ append_assoc f.noise f.candidate (drop used xs);
      quiet = f.quiet;
      judged = f.judged;
      counted = f.counted;
    }

-- what is held back is no finding yet: the next one is over behind it
beyond : {bytes held : List ℕ} (more : List ℕ) (v : Found) (used : ℕ) → Waits bytes held → Finds (held ++ more) v used → length held < used
beyond {bytes} {held} more v used w f =
    ⊎_elim (λ lt. lt) (λ le. absurd (waits_never (waits_held w.begun) (finds_front held more v used le f))) (cases_lt (length held) used)

-- the same findings one behind another, at whatever places
abbrev pub Alike : List (ℕ × Found) → List (ℕ × Found) → Type 0
Alike [] [] = Unit {0}
Alike [] (y ∷ ys) = ⊥
Alike (x ∷ xs) [] = ⊥
Alike ((p, v) ∷ xs) ((q, w) ∷ ys) = (v ≡ w) × Alike xs ys

-- the same findings counted from another place
record Moved (from : ℕ) (bytes : List ℕ) (findings : List (ℕ × Found)) (after : List ℕ) : Type 0 where
  there : List (ℕ × Found)
  reading : Reading from bytes there after
  alike : Alike there findings
  each : (place : ℕ) (v : Found) → In (place, v) findings → (p : ℕ) × In (p, v) there × (from ≤ p)

counted_from : (old new : ℕ) (bytes : List ℕ) (findings : List (ℕ × Found)) (after : List ℕ) → Reading old bytes findings after → Moved new bytes findings after
counted_from old new bytes [] after r = record { there = []; reading = r; alike = tt; each = λ place v i. absurd i }
counted_from old new bytes ((place, v) ∷ more) after (n, at, f, rest) =
    let further = counted_from place (new + n) (drop n bytes) more after rest in
    record {
      there = (new + n, v) ∷ further.there;
      reading = (n, refl, f, further.reading);
      alike = (refl, further.alike);
      each = λ p w. ⊎_elim
          (λ e. (new + n, inl (ap (λ x. (new + n, x.1)) e), omega arith))
          (λ i. let it = further.each p w i in (it.0, inr it.1, omega (arith, it.2)));
    }

-- bytes, and more bytes read on from what the first left open
pub record Joined (from : ℕ) (bytes more : List ℕ) (findings now : List (ℕ × Found)) (after : List ℕ) : Type 0 where
  pub extra : List (ℕ × Found)
  pub reading : Reading from (bytes ++ more) (findings ++ extra) after
  pub alike : Alike extra now
  pub each : (place : ℕ) (v : Found) → In (place, v) now → (p : ℕ) × In (p, v) extra × (from + length bytes < p)

first_joined : (from : ℕ) (bytes held more : List ℕ) (now : List (ℕ × Found)) (after : List ℕ) → Waits bytes held → Reading 0 (held ++ more) now after → Joined from bytes more [] now after
first_joined from bytes held more [] after w r = record { extra = []; reading = waits_on w more after r; alike = tt; each = λ place v i. absurd i }
first_joined from bytes held more ((place, v) ∷ now) after w (used, at, f, rest) =
    let past = beyond more v used w f in
    let n = used - length held in
    let is : used ≡ length held + n = omega (arith, past) in
    let found = finds_on w more v n (subst (Finds (held ++ more) v) is f) in
    let left : drop used (held ++ more) ≡ drop (length bytes + n) (bytes ++ more) = ap (λ k. drop k (held ++ more)) is ∙ drop-append-add held more n ∙ sym (drop-append-add bytes more n) in
    let further = counted_from place (from + (length bytes + n)) (drop (length bytes + n) (bytes ++ more)) now after (subst (λ l. Reading place l now after) left rest) in
    record {
      extra = (from + (length bytes + n), v) ∷ further.there;
      reading = (length bytes + n, refl, found, further.reading);
      alike = (refl, further.alike);
      each = λ p x. ⊎_elim
          (λ e. (from + (length bytes + n), inl (ap (λ y. (from + (length bytes + n), y.1)) e), omega (arith, past)))
          (λ i. let it = further.each p x i in (it.0, inr it.1, omega (arith, past, it.2)));
    }

pub joined : (from : ℕ) (bytes held more : List ℕ) (findings now : List (ℕ × Found)) (after : List ℕ) → Reading from bytes findings held → Reading 0 (held ++ more) now after
    → Joined from bytes more findings now after
joined from bytes held more [] now after w r = first_joined from bytes held more now after w r
joined from bytes held more ((place, v) ∷ findings) now after (n, at, f, rest) r =
    let within = finds_within f in
    let further = joined place (drop n bytes) held more findings now after rest r in
    let count : place + length (drop n bytes) ≡ from + length bytes = omega (arith, at, length-drop n bytes, within) in
    record {
      extra = further.extra;
      reading = (n, at, finds_before more f, subst (λ l. Reading place l (findings ++ further.extra) after) (sym (drop-append-le n bytes more within)) further.reading);
      alike = further.alike;
      each = λ p x i. let it = further.each p x i in (it.0, it.1, omega (arith, it.2, count));
    }

pub nothing : Reading 0 [] [] []
nothing = waits_held (none refl)

by_taken : (bytes held : List ℕ) (findings now : List (ℕ × Found)) (after : List ℕ) (taken_now : List ℕ) → Reading 0 bytes findings held → Reading 0 (held ++ taken_now) now after
    → (all : List (ℕ × Found)) × Reading 0 (since_silence bytes taken_now) all (unless_silent taken_now after)
by_taken bytes held findings now after [] r s = ([], nothing)
by_taken bytes held findings now after (b ∷ more) r s = let both = joined 0 bytes held (b ∷ more) findings now after r s in (findings ++ both.extra, both.reading)

lodge_held : (b : Station) (c : ℕ) (d : List ℕ) (o : Option Refusal) → (lodge_after b c d o).held ≡ b.held
lodge_held b c d None = refl
lodge_held b c d (Some r) = refl

collect_held : (b : Station) (slip : Slip) (r : Result Outcome Refusal) → (collect_after b slip r).held ≡ b.held
collect_held b slip (Ok o) = refl
collect_held b slip (Err r) = refl

-- what the reader holds is what the bytes since the last silence left open
pub heard_so_far : (h : History) (s : Station) → Run h s → (all : List (ℕ × Found)) × Reading 0 (bytes_heard h) all s.held
heard_so_far (made m n) s e = subst (λ t. (all : List (ℕ × Found)) × Reading 0 [] all t.held) (sym e) ([], nothing)
heard_so_far (h ▸ lodges c d answer) s (b, run, (a, e)) =
    let old = heard_so_far h b run in (old.0, subst (Reading 0 (bytes_heard h) old.0) (sym (ap (λ t. t.held) e ∙ lodge_held b c d (lodge_cause b c d))) old.1)
heard_so_far (h ▸ collects slip memory answer) s (b, run, (a, e)) =
    let old = heard_so_far h b run in (old.0, subst (Reading 0 (bytes_heard h) old.0) (sym (ap (λ t. t.held) e ∙ collect_held b slip answer)) old.1)
heard_so_far (h ▸ pulses line line_after) s (b, run, p) =
    let old = heard_so_far h b run in
    let new = by_taken (bytes_heard h) b.held old.0 p.findings p.open_end (taken line) old.1 p.reads in
    (new.0, subst (Reading 0 (since_silence (bytes_heard h) (taken line)) new.0) (sym p.held) new.1)
