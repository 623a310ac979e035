-- Reading an image parameter by parameter: a field that is sound gives its value, and one that is not refuses the image.
use Rattle.std.proofs.Common.{◌≡◌, ℕ, ◌+◌, ◌<◌, Bool, true, false, ◌||◌, cond, List, [], ◌∷◌, ◌++◌, length, take, drop, map, get_or, inl, inr, ◌⊎◌, is_ok, is_err, Ok, Err, Result, sym, refl, ap, ◌∙◌, subst, ⊎_elim}
use Rattle.std.proofs.lemmas.Bool.{and_from, and_left, and_right, and_parts, both_ways, cases_Bool, cond-true, cond-false, or_cases, or_left, or_right}
use Rattle.std.proofs.lemmas.List.{get_or-map, take_more}
use Rattle.parameters.specs.declared.parameter.Row.{Row}
use Rattle.parameters.specs.declared.parameter.Lawful.{Lawful}
use Rattle.parameters.specs.declared.parameter.Parameter.{Parameter}
use Rattle.parameters.specs.declared.parameter.Parameter.TheVariants.{OwnPollingGroup, RadioAcknowledge, RelayRouteStatus, RelayRoute, PollingRoute, GroupNumber, PollingTime, UserTimeOut, ExchangeStatus, SwitchMode}
use Rattle.parameters.specs.Parameters.{row_for, parameters}
use Rattle.parameters.specs.Values.{Values}
use Rattle.parameters.specs.Images.{same, start_of, width, used, blank, field_in, value_in, sound_field, sound_among}
use Rattle.parameters.proofs.Apart.{same_is}
use Rattle.parameters.proofs.Known.{own_row}

-- Fields that are all sound make a sound image.
pub all_sound : (image : List ℕ) → ((p : Parameter) → sound_field (row_for p).lawful (field_in image p) ≡ true)
    → (ps : List Parameter) → sound_among image ps ≡ true
all_sound image each [] = refl
all_sound image each (p ∷ ps) =
    and_from (sound_field (row_for p).lawful (field_in image p)) (sound_among image ps) (each p) (all_sound image each ps)

-- One field that is not sound refuses the image.
unsound_among : (image : List ℕ) (p : Parameter) (before behind : List Parameter)
    → sound_field (row_for p).lawful (field_in image p) ≡ false → sound_among image (before ++ p ∷ behind) ≡ false
unsound_among image p [] behind unlawful = and_left (sound_field (row_for p).lawful (field_in image p)) (sound_among image behind) unlawful
unsound_among image p (q ∷ qs) behind unlawful =
    and_right (sound_field (row_for q).lawful (field_in image q)) (sound_among image (qs ++ p ∷ behind)) (unsound_among image p qs behind unlawful)

-- Each parameter stands among the parameters.
among_all : (p : Parameter) → (before : List Parameter) × (behind : List Parameter) × (before ++ p ∷ behind ≡ parameters)
among_all OwnPollingGroup = (take 0 parameters, drop 1 parameters, refl)
among_all RadioAcknowledge = (take 1 parameters, drop 2 parameters, refl)
among_all RelayRouteStatus = (take 2 parameters, drop 3 parameters, refl)
among_all RelayRoute = (take 3 parameters, drop 4 parameters, refl)
among_all PollingRoute = (take 4 parameters, drop 5 parameters, refl)
among_all GroupNumber = (take 5 parameters, drop 6 parameters, refl)
among_all PollingTime = (take 6 parameters, drop 7 parameters, refl)
among_all UserTimeOut = (take 7 parameters, drop 8 parameters, refl)
among_all ExchangeStatus = (take 8 parameters, drop 9 parameters, refl)
among_all SwitchMode = (take 9 parameters, drop 10 parameters, refl)

pub false_image : (image : List ℕ) (p : Parameter) → sound_field (row_for p).lawful (field_in image p) ≡ false → sound_among image parameters ≡ false
false_image image p unlawful =
    let at = among_all p in ap (sound_among image) (sym at.2) ∙ unsound_among image p at.0 at.1 unlawful

-- In a sound image each field is sound.
pub each_sound : (image : List ℕ) (p : Parameter) → sound_among image parameters ≡ true → sound_field (row_for p).lawful (field_in image p) ≡ true
each_sound image p sound =
    ⊎_elim (λ yes_field. yes_field)
    (λ unlawful. absurd (both_ways (sound_among image parameters) (false_image image p unlawful) sound))
    (cases_Bool (sound_field (row_for p).lawful (field_in image p)))

-- Whether a parameter is one of some.
abbrev pub one_of : Parameter → List Parameter → Bool
one_of p [] = false
one_of p (q ∷ qs) = same q p || one_of p qs

-- The fields of some parameters are sound, and the values are those of the image.
pub record ReadSoFar (image : List ℕ) (values : Values) (ps : List Parameter) : Type 0 where
  pub sound : sound_among image ps ≡ true
  pub held : (p : Parameter) → one_of p ps ≡ true → values p ≡ value_in image p

one_more : (p q : Parameter) (ps : List Parameter) → one_of p (ps ++ q ∷ []) ≡ true → (same q p ≡ true) ⊎ (one_of p ps ≡ true)
one_more p q [] is = or_cases (same q p) false is
one_more p q (r ∷ ps) is =
    ⊎_elim (λ first. inr (or_left (same r p) (one_of p ps) first))
    (λ later. ⊎_elim (λ here. inl here) (λ before. inr (or_right (same r p) (one_of p ps) before)) (one_more p q ps later))
    (or_cases (same r p) (one_of p (ps ++ q ∷ [])) is)

sound_more : (image : List ℕ) (q : Parameter) (ps : List Parameter) → sound_among image ps ≡ true
    → sound_field (row_for q).lawful (field_in image q) ≡ true → sound_among image (ps ++ q ∷ []) ≡ true
sound_more image q [] sound here = and_from (sound_field (row_for q).lawful (field_in image q)) true here refl
sound_more image q (p ∷ ps) sound here =
    let parts = and_parts (sound_field (row_for p).lawful (field_in image p)) (sound_among image ps) sound in
    and_from (sound_field (row_for p).lawful (field_in image p)) (sound_among image (ps ++ q ∷ [])) parts.0 (sound_more image q ps parts.1 here)

-- One more parameter that was read.
pub read_more : (image : List ℕ) (values after : Values) (ps : List Parameter) (q : Parameter) → ReadSoFar image values ps
    → sound_field (row_for q).lawful (field_in image q) ≡ true
    → ((p : Parameter) → after p ≡ cond (same q p) (value_in image q) (values p)) → ReadSoFar image after (ps ++ q ∷ [])
read_more image values after ps q before here held = record {
  sound = sound_more image q ps before.sound here;
  held = λ p is.
      ⊎_elim
      (λ one. held p ∙ cond-true (same q p) (value_in image q) (values p) one ∙ ap (value_in image) (same_is q p one))
      (λ other.
      held p
      ∙ ⊎_elim (λ one. cond-true (same q p) (value_in image q) (values p) one ∙ ap (value_in image) (same_is q p one))
      (λ apart. cond-false (same q p) (value_in image q) (values p) apart ∙ before.held p other)
      (cases_Bool (same q p)))
      (one_more p q ps is);
}

-- The next parameter was read, by its row.
pub read_next : (image : List ℕ) (values after : Values) (i : ℕ) (d : Row) → i < length parameters
    → ReadSoFar image values (take i parameters)
    → true ≡ sound_field (row_for (get_or (map row_for parameters) i d).parameter).lawful (field_in image (get_or (map row_for parameters) i d).parameter)
    → ((p : Parameter) → after p ≡ cond (same (get_or (map row_for parameters) i d).parameter p)
    (value_in image (get_or (map row_for parameters) i d).parameter) (values p))
    → ReadSoFar image after (take (i + 1) parameters)
read_next image values after i d within before here held =
    let q = (get_or (map row_for parameters) i d).parameter in
    let row = get_or-map row_for parameters i OwnPollingGroup d within in
    let next : q ≡ get_or parameters i OwnPollingGroup = ap (λ r. r.parameter) row ∙ own_row (get_or parameters i OwnPollingGroup) in
    subst (ReadSoFar image after)
    (ap (λ p. take i parameters ++ p ∷ []) next ∙ sym (take_more parameters i OwnPollingGroup within))
    (read_more image values after (take i parameters) q before (sym here) held)

-- The next parameter refuses the image, by its row.
pub refuse_next : (image : List ℕ) (i : ℕ) (d : Row)
    → false ≡ sound_field (row_for (get_or (map row_for parameters) i d).parameter).lawful (field_in image (get_or (map row_for parameters) i d).parameter)
    → sound_among image parameters ≡ false
refuse_next image i d unsound = false_image image (get_or (map row_for parameters) i d).parameter (sym unsound)

-- What is refused is not answered.
pub not_ok : {X E : Type 0} (r : Result X E) → is_err r ≡ true → is_ok r ≡ false
not_ok (Ok x) err = sym err
not_ok (Err y) err = refl

-- A part of an image, as the program cuts it out for a parameter.
module _ (image : List ℕ) (p : Parameter) (lawful : Lawful) (s k : ℕ) (is : lawful ≡ (row_for p).lawful)
    (starts : s ≡ start_of p) (wide : k ≡ width lawful) where
  abbrev part : List ℕ
  part = take k (drop s image)

  part_is : part ≡ field_in image p
  part_is = (λ i. take ((wide ∙ ap width is) i) (drop (starts i) image))

  pub blank_is : blank (drop (used lawful part) part) ≡ blank (drop (used (row_for p).lawful (field_in image p)) (field_in image p))
  blank_is = (λ i. blank (drop (used (is i) (part_is i)) (part_is i)))
