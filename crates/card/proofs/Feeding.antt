-- A finding changes what a card holds as it changes its paper card.
use Rattle.std.proofs.Common.{◌≡◌, ℕ, ◌+◌, ◌≤◌, Bool, true, false, cond, not, ◌&&◌, eqb, leb, List, [], ◌∷◌, length, get_or, drop, is_some, Some, None, Option, sym, refl, ap, ◌∙◌, subst, ⊎_elim, arith}
use Rattle.std.proofs.lemmas.Bool.{leb-true, le-leb, lt-leb, eq-eqb, ne_eqb, eqb-true, and_from, and_left, and_right, and_parts, cases_order, cases_Bool, cond_both, cond-false, both_ways}
use Rattle.frames.specs.Finding.{Found, frame, dropped}
use Rattle.station.specs.declared.refusal.Refusal.TheVariants.{DataLength}
use Rattle.parameters.specs.declared.parameter.Parameter.{Parameter}
use Rattle.parameters.specs.declared.parameter.Lawful.{Lawful}
use Rattle.parameters.specs.declared.parameter.Lawful.TheVariants.{AnyByte, ByteUpto, RouteUpto}
use Rattle.parameters.specs.Parameters.{row_for, parameter_numbered, admits}
use Rattle.parameters.specs.Values.{lawful_if, lawful, writes, after_write}
use Rattle.boards.specs.Boards.{Kind, admitted}
use Rattle.card.specs.Contents.{Contents, Same, channel_mode}
use Rattle.card.specs.Requests.{with_values, with_mode, with_channel, with_power, lawful_length, mode_sent, sets_channel}
use Rattle.card.specs.CardPulse.{holds_after, holds_after_all}
use Rattle.card.specs.PaperCard.{fed_one, fed}
use Rattle.card.specs.CardHistories.{right_frames}
use Rattle.parameters.proofs.Fields.{value_fits}
use Rattle.parameters.proofs.Short.{widest}

pub all_same : (a b : Contents) → Same a b → a ≡ b
all_same a b s = λ i. record { values = λ p. s.values p i; mode = s.mode i; channel = s.channel i; power = s.power i }

pub same_as : (a b : Contents) → a ≡ b → Same a b
same_as a b e = record {
  values = λ p. ap (λ x. x.values p) e;
  mode = ap (λ x. x.mode) e;
  channel = ap (λ x. x.channel) e;
  power = ap (λ x. x.power) e;
}

-- One setting changes where the length and the value are lawful.
module _ (now : Contents) (n : ℕ) where
  sets_mode : (fits ok : Bool) → cond fits (cond ok (with_mode now n) now) now ≡ with_mode now (cond (fits && ok) n now.mode)
  sets_mode true true = refl
  sets_mode true false = refl
  sets_mode false ok = refl

  sets_the_channel : (fits ok : Bool) → cond fits (cond ok (with_channel now n) now) now ≡ with_channel now (cond (fits && ok) n now.channel)
  sets_the_channel true true = refl
  sets_the_channel true false = refl
  sets_the_channel false ok = refl

  sets_power : (settable fits ok : Bool)
      → cond ((settable && true) && fits) (cond (settable && ok) (with_power now n) now) now ≡ with_power now (cond (fits && (settable && ok)) n now.power)
  sets_power true true true = refl
  sets_power true true false = refl
  sets_power true false ok = refl
  sets_power false true ok = refl
  sets_power false false ok = refl

-- A number of bytes fits a row of the table exactly if it is within it.
fits_row : (within : Bool) → not (is_some (cond within None (Some DataLength))) ≡ within
fits_row true = refl
fits_row false = refl

exactly : (m n : ℕ) → (leb m n && leb n m) ≡ eqb n m
exactly m n =
    ⊎_elim (λ e. and_from (leb m n) (leb n m) (le-leb m n (omega arith)) (le-leb n m (omega arith)) ∙ sym (eq-eqb n m (sym e)))
    (λ apart. ⊎_elim
    (λ less. and_right (leb m n) (leb n m) (lt-leb n m less) ∙ sym (ne_eqb n m (λ e. omega arith)))
    (λ more. and_left (leb m n) (leb n m) (lt-leb m n more) ∙ sym (ne_eqb n m (λ e. omega arith))) apart)
    (cases_order m n)

fits_exactly : (m n : ℕ) → not (is_some (cond (leb m n && leb n m) None (Some DataLength))) ≡ eqb n m
fits_exactly m n = fits_row (leb m n && leb n m) ∙ exactly m n

-- A lawful value has a byte.
value_some : (l : Lawful) (value : List ℕ) → admits l value ≡ true → 1 ≤ length value
value_some AnyByte value ok = omega (arith, eqb-true (length value) 1 ok)
value_some (ByteUpto most) [] ok = absurd (let z : ◌≡◌ {A = ℕ} 0 1 = cc in omega arith)
value_some (ByteUpto most) (b ∷ rest) ok = omega arith
value_some (RouteUpto most) [] ok = absurd (let z : ◌≡◌ {A = ℕ} 0 1 = cc in omega arith)
value_some (RouteUpto most) (count ∷ rest) ok = omega arith

-- A lawful write has a length that the table admits.
sized : (o : Option Parameter) (value : List ℕ) → lawful_if o value ≡ true → (1 ≤ length value) × (length value ≤ 241)
sized None value ok = absurd (let z : ◌≡◌ {A = ℕ} 0 1 = cc in omega arith)
sized (Some p) value ok =
    (value_some (row_for p).lawful value ok, omega (arith, value_fits (row_for p).lawful value ok, leb-true _ 241 (widest p)))

behind_one : (d : List ℕ) → 1 ≤ length (drop 1 d) → length d ≡ 1 + length (drop 1 d)
behind_one [] some = omega arith
behind_one (x ∷ d) some = omega arith

write_fits : (p : Parameter) (d : List ℕ) → writes p (get_or d 0 0) (drop 1 d) ≡ true → lawful_length 0x40 d ≡ true
write_fits p d w =
    let ok = (and_parts (eqb (row_for p).number (get_or d 0 0)) (lawful (get_or d 0 0) (drop 1 d)) w).1 in
    let size = sized (parameter_numbered (get_or d 0 0)) (drop 1 d) ok in
    let whole = behind_one d size.0 in
    fits_row (leb 2 (length d) && leb (length d) 242)
    ∙ and_from (leb 2 (length d)) (leb (length d) 242) (le-leb 2 (length d) (omega arith)) (le-leb (length d) 242 (omega arith))

module _ (kind : Kind) (now : Contents) where
  abbrev paper : ℕ → List ℕ → Contents
  paper c d = fed_one channel_mode kind now (record { cmd = c; body = d })

  writes_value : (d : List ℕ) → holds_after kind now (frame 0x40 d) ≡ paper 0x40 d
  writes_value d =
      cond_both (lawful_length 0x40 d) (with_values now (after_write now.values (get_or d 0 0) (drop 1 d))) now (λ x. x ≡ paper 0x40 d)
      (λ fits. refl)
      (λ short. all_same now (paper 0x40 d) (record {
        values = λ p. sym (cond-false (writes p (get_or d 0 0) (drop 1 d)) (drop 1 d) (now.values p)
            (⊎_elim (λ w. absurd (both_ways (lawful_length 0x40 d) short (write_fits p d w))) (λ not_written. not_written) (cases_Bool (writes p (get_or d 0 0) (drop 1 d)))));
        mode = refl;
        channel = refl;
        power = refl;
      }))

  writes_mode : (d : List ℕ) → holds_after kind now (frame 0x64 d) ≡ paper 0x64 d
  writes_mode d =
      sets_mode now (mode_sent d) (lawful_length 0x64 d) (admitted kind (mode_sent d))
      ∙ ap (λ t. with_mode now (cond (t && admitted kind (mode_sent d)) (mode_sent d) now.mode)) (fits_exactly 2 (length d))

  writes_channel : (d : List ℕ) → holds_after kind now (frame 0x60 d) ≡ paper 0x60 d
  writes_channel d =
      sets_the_channel now (get_or d 0 0) (lawful_length 0x60 d) (sets_channel now (get_or d 0 0))
      ∙ ap (λ t. with_channel now (cond (t && sets_channel now (get_or d 0 0)) (get_or d 0 0) now.channel)) (fits_exactly 1 (length d))

  writes_power : (d : List ℕ) → holds_after kind now (frame 0x44 d) ≡ paper 0x44 d
  writes_power d =
      sets_power now (get_or d 0 0) kind.power_settable (lawful_length 0x44 d) (leb (get_or d 0 0) 0x0A)
      ∙ ap (λ t. with_power now (cond (t && (kind.power_settable && leb (get_or d 0 0) 0x0A)) (get_or d 0 0) now.power)) (fits_exactly 1 (length d))

-- A frame that is none of the four writes.
idle : (done : Bool) (now : Contents) → cond done now now ≡ now
idle true now = refl
idle false now = refl

by_number : (c n : ℕ) (P : ℕ → Type 0) → P n → (eqb c n ≡ false → P c) → P c
by_number c n P here apart = ⊎_elim (λ e. subst P (sym (eqb-true c n e)) here) apart (cases_Bool (eqb c n))

pub one_frame : (kind : Kind) (now : Contents) (c : ℕ) (d : List ℕ) → holds_after kind now (frame c d) ≡ fed_one channel_mode kind now (record { cmd = c; body = d })
one_frame kind now c d =
    by_number c 0x40 P (writes_value kind now d)
    (λ a. by_number c 0x60 P (writes_channel kind now d)
    (λ b. by_number c 0x64 P (writes_mode kind now d)
    (λ e. by_number c 0x44 P (writes_power kind now d) (λ f. rw (a, b, e, f) (idle _ now)))))
  where
    P : ℕ → Type 0
    P n = holds_after kind now (frame n d) ≡ paper kind now n d

-- All findings of a pulse.
pub all_findings : (kind : Kind) (findings : List (ℕ × Found)) (now : Contents) → holds_after_all kind findings now ≡ fed channel_mode kind now (right_frames findings)
all_findings kind [] now = refl
all_findings kind ((place, dropped cause n) ∷ more) now = all_findings kind more now
all_findings kind ((place, frame c d) ∷ more) now =
    ap (holds_after_all kind more) (one_frame kind now c d) ∙ all_findings kind more (paper kind now c d)
