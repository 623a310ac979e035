-- What a box draws from the line below, byte by byte, and what that does to the line that the box makes.
use Rattle.std.proofs.Common.{◌≡◌, ℕ, ◌+◌, ◌≤◌, min, List, [], ◌∷◌, ◌++◌, length, Some, None, Option, option_to_list, sym, refl, ap, ◌∙◌, append_assoc, append-nil, zero-add, arith}
use Rattle.std.proofs.lemmas.List.{same_from_push}
use Rattle.lines.specs.declared.script.Entry.{Entry}
use Rattle.lines.specs.Meaning.{Taken}
use Rattle.lines.specs.Faults.{spoiled, past_all, next_position, position_after, PositionCountsBytes, faulted}
use Rattle.lines.specs.Boxes.{Boxed, box_line, EmptyScriptIsClear, Drawn, TakenThrough}

-- Without a script every byte comes out as it is.
pub faulted_none : (position : ℕ) (bytes : List ℕ) → faulted [] position bytes ≡ bytes
faulted_none position [] = refl
faulted_none position (byte ∷ rest) = ap (λ bytes. byte ∷ bytes) (faulted_none (next_position position) rest)

-- So a box with an empty script means the line below.
pub empty_is_clear : EmptyScriptIsClear
empty_is_clear box empty =
    let below = box.below in
    ap (λ bytes. record { waiting = bytes; outgoing = below.outgoing; capacity = below.capacity })
    (ap (λ script. faulted script box.setting.position below.waiting) empty ∙ faulted_none box.setting.position below.waiting)

-- The script acts on a front and then on the rest.
faulted-++ : (script : List Entry) (position : ℕ) (xs ys : List ℕ) → faulted script position (xs ++ ys) ≡ faulted script position xs ++ faulted script (position_after position xs) ys
faulted-++ script position [] ys = refl
faulted-++ script position (x ∷ xs) ys =
    let out = option_to_list (spoiled script position x) in
    ap (λ rest. out ++ rest) (faulted-++ script (next_position position) xs ys)
    ∙ sym (append_assoc out (faulted script (next_position position) xs) (faulted script (position_after (next_position position) xs) ys))

position_after-++ : (position : ℕ) (xs ys : List ℕ) → position_after position (xs ++ ys) ≡ position_after (position_after position xs) ys
position_after-++ position [] ys = refl
position_after-++ position (x ∷ xs) ys = position_after-++ (next_position position) xs ys

-- Counting on from a position.
position_counts : (position : ℕ) (bytes : List ℕ) → position ≤ past_all → position_after position bytes ≡ min (position + length bytes) past_all
position_counts position [] within = omega arith
position_counts position (byte ∷ rest) within =
    let next : next_position position ≤ past_all = omega arith in
    position_counts (next_position position) rest next ∙ omega arith

pub position_counts_bytes : PositionCountsBytes
position_counts_bytes passed = position_counts 0 passed (omega arith) ∙ ap (λ n. min n past_all) (zero-add (length passed))

-- One byte more, after some that were lost.
pub drawn_more : {before between after : Boxed} {drawn : List ℕ} {byte : ℕ} {out : Option ℕ} → Drawn before drawn [] between → Taken between.below (Some byte) after.below → after.setting.position ≡ next_position between.setting.position → after.setting.script ≡ between.setting.script → out ≡ spoiled between.setting.script between.setting.position byte → Drawn before (drawn ++ byte ∷ []) (option_to_list out) after
drawn_more {before} {between} {after} {drawn} {byte} {out} lost taken moved kept spoils =
    record {
      gone_below =
          lost.gone_below
          ∙ ap (λ rest. drawn ++ rest) taken.waiting_moves
          ∙ sym (append_assoc drawn (byte ∷ []) after.below.waiting);
      came_out =
          faulted-++ before.setting.script before.setting.position drawn (byte ∷ [])
          ∙ ap (λ front. front ++ faulted before.setting.script (position_after before.setting.position drawn) (byte ∷ [])) lost.came_out
          ∙ ap (λ position. faulted before.setting.script position (byte ∷ [])) (sym lost.counted)
          ∙ ap (λ script. faulted script between.setting.position (byte ∷ [])) (sym lost.script_kept)
          ∙ append-nil (option_to_list (spoiled between.setting.script between.setting.position byte))
          ∙ ap option_to_list (sym spoils);
      counted = moved ∙ ap next_position lost.counted ∙ sym (position_after-++ before.setting.position drawn (byte ∷ []));
      script_kept = kept ∙ lost.script_kept;
      outgoing_kept = taken.outgoing_kept ∙ lost.outgoing_kept;
      capacity_kept = taken.capacity_kept ∙ lost.capacity_kept;
    }

-- A byte came out, after some that were lost.
pub drawn_out : {before between after : Boxed} {lost : List ℕ} {byte out : ℕ} → Drawn before lost [] between → Taken between.below (Some byte) after.below → after.setting.position ≡ next_position between.setting.position → after.setting.script ≡ between.setting.script → Some out ≡ spoiled between.setting.script between.setting.position byte → TakenThrough before (Some out) after
drawn_out {before} {between} {after} {lost} {byte} {out} passed taken moved kept spoils =
    record {
      drawn = lost ++ byte ∷ [];
      passed = drawn_more {out = Some out} passed taken moved kept spoils;
      stops = λ front last e. ap (faulted before.setting.script before.setting.position) (sym (same_from_push lost front byte last e).0) ∙ passed.came_out;
    }

-- What comes out stands before what is still to come.
waiting_drawn : {before after : Boxed} {drawn out : List ℕ} → Drawn before drawn out after → (box_line before).waiting ≡ out ++ (box_line after).waiting
waiting_drawn {before} {after} {drawn} {out} passed =
    ap (faulted before.setting.script before.setting.position) passed.gone_below
    ∙ faulted-++ before.setting.script before.setting.position drawn after.below.waiting
    ∙ ap (λ front. front ++ faulted before.setting.script (position_after before.setting.position drawn) after.below.waiting) passed.came_out
    ∙ ap (λ position. out ++ faulted before.setting.script position after.below.waiting) (sym passed.counted)
    ∙ ap (λ script. out ++ faulted script after.setting.position after.below.waiting) (sym passed.script_kept)

-- To the line that the box makes it is a `take`.
pub taken_from_through : (before after : Boxed) (answer : Option ℕ) → TakenThrough before answer after → Taken (box_line before) answer (box_line after)
taken_from_through before after (Some byte) taken =
    record { waiting_moves = waiting_drawn taken.passed; outgoing_kept = taken.passed.outgoing_kept; capacity_kept = taken.passed.capacity_kept }
taken_from_through before after None taken =
    let none : (box_line after).waiting ≡ [] = ap (faulted after.setting.script after.setting.position) taken.stops in
    record { waiting_moves = (waiting_drawn taken.passed ∙ none, none); outgoing_kept = taken.passed.outgoing_kept; capacity_kept = taken.passed.capacity_kept }
