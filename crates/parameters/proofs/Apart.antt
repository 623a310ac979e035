-- The fields of the image lie apart: a write into one leaves the others.
use Rattle.std.proofs.Common.{◌≡◌, ℕ, ◌+◌, ◌≤◌, Bool, true, false, ◌||◌, leb, List, length, take, drop, Some, sym, refl, ap, ◌∙◌, ⊎_elim, arith}
use borrow.Rule.Slice.PartMut.{put_mid}
use Rattle.std.proofs.lemmas.List.{drop-take, take_at, drop_at, length-take-le}
use Rattle.std.proofs.lemmas.Slice.{take-put_mid_below, drop-put_mid}
use Rattle.std.proofs.lemmas.Bool.{eqb-true, leb-true, or_cases, both_ways}
use Rattle.parameters.specs.declared.parameter.Parameter.{Parameter}
use Rattle.parameters.specs.declared.parameter.Parameter.TheVariants.{OwnPollingGroup, RadioAcknowledge, RelayRouteStatus, RelayRoute, PollingRoute, GroupNumber, PollingTime, UserTimeOut, ExchangeStatus, SwitchMode}
use Rattle.parameters.specs.Parameters.{row_for, parameter_numbered}
use Rattle.parameters.specs.Images.{same, start_of, width_of, field_in}
use Rattle.parameters.proofs.EachParameter.{each_parameter}

-- Each parameter is found by its number.
pub numbered_own : (p : Parameter) → parameter_numbered (row_for p).number ≡ Some p
numbered_own = each_parameter (λ p. parameter_numbered (row_for p).number ≡ Some p) refl refl refl refl refl refl refl refl refl refl

-- Parameters with one number are one.
pub same_is : (q p : Parameter) → same q p ≡ true → q ≡ p
same_is q p is =
    let number = eqb-true (row_for q).number (row_for p).number is in
    let found : Some q ≡ Some p = sym (numbered_own q) ∙ ap parameter_numbered number ∙ numbered_own p in
    cc

-- Each field ends within the image.
pub ends_within : (p : Parameter) → leb (start_of p + width_of p) 268 ≡ true
ends_within = each_parameter (λ p. leb (start_of p + width_of p) 268 ≡ true) refl refl refl refl refl refl refl refl refl refl

-- Two parameters are one, or the field of one ends before that of the other starts.
abbrev clear : Parameter → Parameter → Bool
clear p q = same q p || (leb (start_of q + width_of q) (start_of p) || leb (start_of p + width_of p) (start_of q))

all_clear : (p q : Parameter) → clear p q ≡ true
all_clear = each_parameter (λ p. (q : Parameter) → clear p q ≡ true)
    (each_parameter (λ q. clear OwnPollingGroup q ≡ true) refl refl refl refl refl refl refl refl refl refl)
    (each_parameter (λ q. clear RadioAcknowledge q ≡ true) refl refl refl refl refl refl refl refl refl refl)
    (each_parameter (λ q. clear RelayRouteStatus q ≡ true) refl refl refl refl refl refl refl refl refl refl)
    (each_parameter (λ q. clear RelayRoute q ≡ true) refl refl refl refl refl refl refl refl refl refl)
    (each_parameter (λ q. clear PollingRoute q ≡ true) refl refl refl refl refl refl refl refl refl refl)
    (each_parameter (λ q. clear GroupNumber q ≡ true) refl refl refl refl refl refl refl refl refl refl)
    (each_parameter (λ q. clear PollingTime q ≡ true) refl refl refl refl refl refl refl refl refl refl)
    (each_parameter (λ q. clear UserTimeOut q ≡ true) refl refl refl refl refl refl refl refl refl refl)
    (each_parameter (λ q. clear ExchangeStatus q ≡ true) refl refl refl refl refl refl refl refl refl refl)
    (each_parameter (λ q. clear SwitchMode q ≡ true) refl refl refl refl refl refl refl refl refl refl)

module _ (bytes field : List ℕ) (p : Parameter) (room : start_of p + width_of p ≤ length bytes) (whole : length field ≡ width_of p) where
  -- The bytes after the field was written.
  abbrev after : List ℕ
  after = put_mid (start_of p) (width_of p) bytes field

  pub own_field : field_in after p ≡ field
  own_field =
      let front : length (take (start_of p) bytes) ≡ start_of p = length-take-le (start_of p) bytes (omega arith) in
      ap (take (width_of p)) (drop_at (take (start_of p) bytes) _ (start_of p) front)
      ∙ take_at field _ (width_of p) whole

  pub other_field : (q : Parameter) → same q p ≡ false → field_in after q ≡ field_in bytes q
  other_field q differs =
      ⊎_elim (λ one. absurd (both_ways (same q p) differs one))
      (λ apart. ⊎_elim
      (λ before.
      let ends : start_of q + width_of q ≤ start_of p = leb-true (start_of q + width_of q) (start_of p) before in
      sym (drop-take (start_of q) (width_of q) after)
      ∙ ap (drop (start_of q)) (take-put_mid_below (start_of p) (width_of p) bytes field (start_of q + width_of q) ends (omega arith))
      ∙ drop-take (start_of q) (width_of q) bytes)
      (λ behind.
      let starts : start_of p + width_of p ≤ start_of q = leb-true (start_of p + width_of p) (start_of q) behind in
      ap (take (width_of q)) (drop-put_mid (start_of p) (width_of p) bytes field (start_of q) starts (omega arith) whole))
      (or_cases (leb (start_of q + width_of q) (start_of p)) (leb (start_of p + width_of p) (start_of q)) apart))
      (or_cases (same q p) (leb (start_of q + width_of q) (start_of p) || leb (start_of p + width_of p) (start_of q)) (all_clear p q))
