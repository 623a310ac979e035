-- A lawful write keeps the bytes an image that opens to the values held.
use Rattle.std.proofs.Common.{◌≡◌, ℕ, ◌+◌, ◌-◌, ◌≤◌, true, cond, List, ◌++◌, length, take, drop, replicate, Some, sym, ap, ◌∙◌, subst, ⊎_elim, arith}
use borrow.Rule.Slice.PartMut.{put_mid, same_len_mid}
use Rattle.std.proofs.lemmas.List.{length-append, length-replicate, length-take-le, length-drop}
use Rattle.std.proofs.lemmas.Bool.{leb-true, cond-true, cond-false, cases_Bool}
use Rattle.parameters.specs.declared.parameter.Parameter.{Parameter}
use Rattle.parameters.specs.declared.parameter.Row.{Row}
use Rattle.parameters.specs.Parameters.{row_for, parameters, row_numbered, lawful_for}
use Rattle.parameters.specs.Values.{Values, lawful, after_write}
use Rattle.parameters.specs.Images.{width, width_of, same, start_of, field_in, used, value_in, sound_field, OpensTo}
use Rattle.parameters.proofs.Apart.{same_is, ends_within, own_field, other_field}
use Rattle.parameters.proofs.Fields.{field, value_fits, reads_value, put_sound}
use Rattle.parameters.proofs.Known.{row_found, lawful_there, written_there}
use Rattle.parameters.proofs.Opening.{all_sound, each_sound}
use Rattle.parameters.proofs.Refusing.{not_refused, opened_length, opened_sound}

add_back : (m n : ℕ) → m ≤ n → m + (n - m) ≡ n
add_back m n less = omega arith

module _ (bytes : List ℕ) (values : Values) (open_now : OpensTo bytes values) where
  -- The field of each parameter ends within the bytes.
  reaches : (p : Parameter) → start_of p + width_of p ≤ length bytes
  reaches p = omega (arith, leb-true (start_of p + width_of p) 268 (ends_within p), opened_length bytes open_now.opens)

  module _ (p : Parameter) (value : List ℕ) (ok : lawful_for p value ≡ true) where
    -- The bytes after the value was put into its field.
    abbrev after : List ℕ
    after = put_mid (start_of p) (width_of p) bytes (field p value)

    whole : length (field p value) ≡ width_of p
    whole =
        let fits = value_fits (row_for p).lawful value ok in
        length-append value (replicate (width_of p - length value) 0)
        ∙ ap (λ n. length value + n) (length-replicate (width_of p - length value) 0)
        ∙ add_back (length value) (width_of p) fits

    length_kept : length after ≡ 268
    length_kept =
        let room = reaches p in
        let part : length (take (width_of p) (drop (start_of p) bytes)) ≡ width_of p =
        length-take-le (width_of p) (drop (start_of p) bytes) (simp length-drop (omega arith)) in
        same_len_mid (start_of p) (width_of p) bytes (field p value) (whole ∙ sym part) ∙ opened_length bytes open_now.opens

    sound_after : (q : Parameter) → sound_field (row_for q).lawful (field_in after q) ≡ true
    sound_after q =
        ⊎_elim
        (λ one. subst (λ r. sound_field (row_for r).lawful (field_in after r) ≡ true) (sym (same_is q p one))
        (ap (sound_field (row_for p).lawful) (own_field bytes (field p value) p (reaches p) whole)
        ∙ put_sound (row_for p).lawful value (width_of p - length value) ok))
        (λ apart. ap (sound_field (row_for q).lawful) (other_field bytes (field p value) p (reaches p) whole q apart)
        ∙ each_sound bytes q (opened_sound bytes open_now.opens))
        (cases_Bool (same q p))

    tells_after : (q : Parameter) → value_in after q ≡ cond (same q p) value (values q)
    tells_after q =
        ⊎_elim
        (λ one. subst (λ r. value_in after r ≡ value) (sym (same_is q p one))
        (ap (λ b. take (used (row_for p).lawful b) b) (own_field bytes (field p value) p (reaches p) whole)
        ∙ reads_value (row_for p).lawful value (width_of p - length value) ok)
        ∙ sym (cond-true (same q p) value (values q) one))
        (λ apart. ap (λ b. take (used (row_for q).lawful b) b) (other_field bytes (field p value) p (reaches p) whole q apart)
        ∙ open_now.tells q ∙ sym (cond-false (same q p) value (values q) apart))
        (cases_Bool (same q p))

    put_opens : OpensTo after (λ q. cond (same q p) value (values q))
    put_opens = record {
      opens = sym (not_refused after length_kept (sym (all_sound after sound_after parameters)));
      tells = tells_after;
    }

-- The same, as the program says it: by a number, its row, and where the row's field lies.
module _ (image : List ℕ) (before after : Values) (number : ℕ) (row : Row) (value : List ℕ) (s k : ℕ) (bytes : List ℕ)
    (is : Some row ≡ row_numbered number) (ok : lawful number value ≡ true)
    (held : (q : Parameter) → after q ≡ after_write before number value q)
    (starts : s ≡ start_of row.parameter) (wide : k ≡ width row.lawful)
    (put : bytes ≡ value ++ replicate (k - length value) 0) where
  abbrev p : Parameter
  p = row.parameter

  width_is : k ≡ width_of p
  width_is = wide ∙ ap (λ r. width r.lawful) (row_found number row is).1

  pub stays_open : OpensTo image before → OpensTo (put_mid s k image bytes) after
  stays_open open_now =
      let known = (row_found number row is).0 in
      let opens = put_opens image before open_now p value (lawful_there number p value known ok) in
      let bytes_are : bytes ≡ field p value = put ∙ ap (λ n. value ++ replicate (n - length value) 0) width_is in
      let image_is : put_mid s k image bytes ≡ put_mid (start_of p) (width_of p) image (field p value) =
      (λ i. put_mid (starts i) (width_is i) image (bytes_are i)) in
      subst (λ b. OpensTo b after) (sym image_is) (record {
        opens = opens.opens;
        tells = λ q. opens.tells q ∙ written_there number p value known ok before q ∙ sym (held q);
      })
