-- A written frame is found as that frame, and a frame that is found stands as it is written.
use Rattle.std.proofs.Common.{◌≡◌, ℕ, ◌+◌, ◌-◌, ◌*◌, ◌/◌, ◌%◌, ◌<◌, ◌≤◌, List, [], ◌∷◌, ◌++◌, length, get_or, take, drop, Some, None, Option, sym, refl, ap, ◌∙◌, subst, ⊎_elim, append_assoc, append-nil, zero-add, arith, length-append, take-append-drop}
use Rattle.std.proofs.lemmas.List.{take_at, get_or-append_right, get_or-take, length-take-le, drop_more, drop_all, nil_from_length}
use Rattle.std.proofs.lemmas.Bool.{cases_eq}
use Rattle.frames.specs.declared.finding.Cause.{Cause}
use Rattle.frames.specs.Crc.{crc_of}
use Rattle.frames.specs.Frame.{covered, frame_bytes}
use Rattle.frames.specs.Finding.{Found, frame, dropped, Sized, Candidate, misfit, whole, verdict, stored_in, Finds, Waits}
use Rattle.frames.specs.Reading.{Reads}
use Rattle.frames.specs.Promises.{FindsExactly, StandsAsWritten}
use Rattle.frames.proofs.ByteLists.{Bytes, bytes_back}
use Rattle.frames.proofs.Joining.{finds_on}
use Rattle.frames.proofs.Verdicts.{verdict_end, verdict_check, verdict_right}

module _ (cmd : ℕ) (body : List ℕ) where
  abbrev value : ℕ
  value = crc_of (covered cmd body)

  abbrev behind : List ℕ
  behind = value % 256 ∷ (value / 256 ∷ (0x03 ∷ []))

  -- the bytes that LENGTH announces
  abbrev announced : List ℕ
  announced = (cmd ∷ body) ++ behind

  long : length announced ≡ length body + 4
  long = omega (arith, length-append body behind)

  front : take (length body + 4 - 3) announced ≡ cmd ∷ body
  front = take_at (cmd ∷ body) behind (length body + 4 - 3) (omega arith)

  at : (k : ℕ) → get_or announced (length body + 1 + k) 0 ≡ get_or behind k 0
  at k = get_or-append_right (cmd ∷ body) behind (length body + 1) (length body + 1 + k) 0 (omega arith) (omega arith) ∙ ap (λ i. get_or behind i 0) (let e : length body + 1 + k - (length body + 1) ≡ k = omega arith in e)

  at_place : (i k : ℕ) → i ≡ length body + 1 + k → get_or announced i 0 ≡ get_or behind k 0
  at_place i k is = ap (λ j. get_or announced j 0) is ∙ at k

  judged_right : verdict (length body + 4) announced ≡ frame cmd body
  judged_right =
      verdict_right (length body + 4) announced (at_place _ 2 (omega arith))
      ((λ i. at_place (length body + 4 - 3) 0 (omega arith) i + 256 * at_place (length body + 4 - 2) 1 (omega arith) i)
      ∙ (let back : value % 256 + 256 * (value / 256) ≡ value = omega arith in back)
      ∙ sym (ap (λ l. crc_of ((length body + 4) ∷ l)) front))
      ∙ ap (λ l. frame cmd (drop 1 l)) front

  -- a frame and what follows it
  frame_found : (rest : List ℕ) → length body ≤ 250 → Finds (frame_bytes cmd body ++ rest) (frame cmd body) (length (frame_bytes cmd body))
  frame_found rest few = record {
    noise = [];
    candidate = frame_bytes cmd body;
    rest = rest;
    split = refl;
    quiet = tt;
    judged = whole (length body + 4) announced refl (omega arith, omega arith) long (sym judged_right);
    counted = sym (zero-add _);
  }

  pub finds_written : (held stretch before rest : List ℕ) (r : Option Found) (used : ℕ) → FindsExactly held stretch r used → length body ≤ 250 → Waits (held ++ before) []
      → stretch ≡ before ++ (frame_bytes cmd body ++ rest) → (r ≡ Some (frame cmd body)) × (used ≡ length before + length (frame_bytes cmd body))
  finds_written held stretch before rest r used exact few hunting is =
      let size = length (frame_bytes cmd body) in
      let joined = append_assoc held before (frame_bytes cmd body ++ rest) ∙ ap (λ l. held ++ l) (sym is) in
      let here = subst (λ l. Finds l (frame cmd body) (length (held ++ before) + size)) joined
      (finds_on hunting (frame_bytes cmd body ++ rest) (frame cmd body) size (subst (Finds _ (frame cmd body)) (sym (zero-add size)) (frame_found rest few))) in
      let told = (exact (frame cmd body) (length (held ++ before) + size)).0 here in
      (told.0, omega (arith, told.1, length-append held before))

-- the last three bytes, one by one
last_three : (n : ℕ) (bs : List ℕ) → length bs ≡ n → 4 ≤ n → drop (n - 3) bs ≡ get_or bs (n - 3) 0 ∷ (get_or bs (n - 2) 0 ∷ (get_or bs (n - 1) 0 ∷ []))
last_three n bs long enough =
    drop_more bs (n - 3) 0 (omega arith)
    ∙ ap (λ l. get_or bs (n - 3) 0 ∷ l) (ap (λ k. drop k bs) (let e : n - 3 + 1 ≡ n - 2 = omega arith in e) ∙ drop_more bs (n - 2) 0 (omega arith))
    ∙ ap (λ l. get_or bs (n - 3) 0 ∷ (get_or bs (n - 2) 0 ∷ l))
    (ap (λ k. drop k bs) (let e : n - 2 + 1 ≡ n - 1 = omega arith in e) ∙ drop_more bs (n - 1) 0 (omega arith) ∙ ap (λ l. get_or bs (n - 1) 0 ∷ l) (drop_all (n - 1 + 1) bs (omega arith)))

-- a drop is no frame
no_frame : (cmd : ℕ) (body : List ℕ) (cause : Cause) (size : ℕ) → frame cmd body ≡ dropped cause size → ⊥
no_frame cmd body cause size e = let z : ◌≡◌ {A = ℕ} 0 1 = cc in omega arith

module _ (n : ℕ) (bs : List ℕ) (fits : Sized n) (long : length bs ≡ n) (small : Bytes bs) where
  -- only the last way of the verdict is a frame
  only_right : (cmd : ℕ) (body : List ℕ) → frame cmd body ≡ verdict n bs
      → (get_or bs (n - 1) 0 ≡ 0x03) × (stored_in n bs ≡ crc_of (n ∷ take (n - 3) bs)) × (cmd ≡ get_or bs 0 0) × (body ≡ drop 1 (take (n - 3) bs))
  only_right cmd body is =
      ⊎_elim
      (λ ends. ⊎_elim
      (λ right. let same = is ∙ verdict_right n bs ends right in (ends, right, cc same, cc same))
      (λ wrong. absurd (no_frame cmd body _ _ (is ∙ verdict_check n bs ends wrong)))
      (cases_eq (stored_in n bs) (crc_of (n ∷ take (n - 3) bs))))
      (λ wrong. absurd (no_frame cmd body _ _ (is ∙ verdict_end n bs wrong)))
      (cases_eq (get_or bs (n - 1) 0) 0x03)

  as_written : (cmd : ℕ) (body : List ℕ) → frame cmd body ≡ verdict n bs → 0xFF ∷ (0x02 ∷ (n ∷ bs)) ≡ frame_bytes cmd body
  as_written cmd body is =
      let (ends, right, cmd_is, body_is) = only_right cmd body is in
      let some : 0 < length (take (n - 3) bs) = omega (arith, length-take-le (n - 3) bs (omega arith)) in
      let top : take (n - 3) bs ≡ cmd ∷ body = drop_more (take (n - 3) bs) 0 0 some ∙ (λ i. (get_or-take (n - 3) bs 0 0 (omega arith) ∙ sym cmd_is) i ∷ sym body_is i) in
      let size : n ≡ length body + 4 = omega (arith, ap length top, length-take-le (n - 3) bs (omega arith)) in
      let value_is : crc_of (covered cmd body) ≡ stored_in n bs = (λ i. crc_of (sym size i ∷ sym top i)) ∙ sym right in
      let low : get_or bs (n - 3) 0 ≡ crc_of (covered cmd body) % 256 = omega (arith, small (n - 3), value_is) in
      let high : get_or bs (n - 2) 0 ≡ crc_of (covered cmd body) / 256 = omega (arith, small (n - 3), value_is) in
      let split : bs ≡ (cmd ∷ body) ++ (get_or bs (n - 3) 0 ∷ (get_or bs (n - 2) 0 ∷ (get_or bs (n - 1) 0 ∷ []))) =
      sym (take-append-drop (n - 3) bs) ∙ (λ i. top i ++ last_three n bs long fits.0 i) in
      (λ i. 0xFF ∷ (0x02 ∷ (size i ∷ split i))) ∙ (λ i. 0xFF ∷ (0x02 ∷ ((length body + 4) ∷ ((cmd ∷ body) ++ (low i ∷ (high i ∷ (ends i ∷ [])))))))

-- the bytes of a candidate that is a frame
candidate_as_written : {bytes : List ℕ} (cmd : ℕ) (body : List ℕ) → Bytes bytes → Candidate bytes (frame cmd body) → bytes ≡ frame_bytes cmd body
candidate_as_written cmd body small (misfit n e unfit is) = absurd (no_frame cmd body _ _ is)
candidate_as_written cmd body small (whole n bs e fits long is) =
    e ∙ as_written n bs fits long (bytes_back (0xFF ∷ (0x02 ∷ (n ∷ []))) bs (subst Bytes e small)) cmd body is

pub stands_as_written : (held stretch after : List ℕ) (r : Option Found) (used : ℕ) → Bytes (held ++ take used stretch) → Reads held stretch r used after
    → StandsAsWritten held stretch r used
stands_as_written held stretch after None used small reads cmd body is = absurd (let z : ◌≡◌ {A = ℕ} 0 1 = cc in omega arith)
stands_as_written held stretch after (Some v) used small (less, f, rests) cmd body is =
    let read = f.split in
    let none : f.rest ≡ [] = nil_from_length f.rest (omega (arith, f.counted, ap length read, length-append held (take used stretch), length-take-le used stretch less, length-append f.noise (f.candidate ++ f.rest), length-append f.candidate f.rest)) in
    let ends : held ++ take used stretch ≡ f.noise ++ f.candidate = read ∙ ap (λ l. f.noise ++ (f.candidate ++ l)) none ∙ ap (λ l. f.noise ++ l) (append-nil f.candidate) in
    let same : v ≡ frame cmd body = cc is in
    let right = candidate_as_written cmd body (bytes_back f.noise f.candidate (subst Bytes ends small)) (subst (Candidate f.candidate) same f.judged) in
    (f.noise, ends ∙ ap (λ l. f.noise ++ l) right)
