-- What a fault box means, given the line below, and what its calls do to that line.
use Rattle.std.specs.Prelude.{◌≡◌, ℕ, List, [], ◌∷◌, ◌++◌, Some, None, Option, Result, option_to_list}
use Rattle.lines.specs.declared.refusal.Refusal.{Refusal}
use Rattle.lines.specs.declared.script.Entry.{Entry}
use Rattle.lines.specs.declared.fault_box.FaultBox.{FaultBox}
use Rattle.lines.specs.Meaning.{Meaning, Put}
use Rattle.lines.specs.Faults.{faulted, position_after}

-- Where a box stands: its script, and the position of the next byte from below.
pub record Setting : Type 0 where
  pub script : List Entry
  pub position : ℕ

-- A fault box: where it stands, and the line below.
pub record Boxed : Type 0 where
  pub setting : Setting
  pub below : Meaning

-- Where a box stands.
abbrev pub box_setting : {L : Type 0} → FaultBox L → Setting
box_setting box = record { script = box.script; position = box.position }

-- What a box holds, given what lines of its kind below mean.
abbrev pub boxed : {L : Type 0} → (L → Meaning) → FaultBox L → Boxed
boxed meaning box = record { setting = box_setting box; below = meaning box.below }

-- What no call of a line changes in a box: its script, and what is fixed below.
abbrev pub box_fixed : {L Fixture : Type 0} → (L → Fixture) → FaultBox L → List Entry × Fixture
box_fixed fixed box = (box.script, fixed box.below)

-- The line that a box makes: its waiting bytes are those below after the script, and the rest is as below.
abbrev pub box_line : Boxed → Meaning
box_line box =
    record { waiting = faulted box.setting.script box.setting.position box.below.waiting; outgoing = box.below.outgoing; capacity = box.below.capacity }

-- What a box means, given what lines of its kind below mean.
abbrev pub box_meaning : {L : Type 0} → (L → Meaning) → FaultBox L → Meaning
box_meaning meaning box = box_line (boxed meaning box)

-- A box with an empty script means exactly the line below, however many bytes have passed.
abbrev pub EmptyScriptIsClear : Type 0
EmptyScriptIsClear = (box : Boxed) → box.setting.script ≡ [] → box_line box ≡ box.below

-- The bytes `drawn` went from below through the script, and `out` came out of it; nothing else changes.
pub record Drawn (before : Boxed) (drawn out : List ℕ) (after : Boxed) : Type 0 where
  pub gone_below : before.below.waiting ≡ drawn ++ after.below.waiting
  pub came_out : faulted before.setting.script before.setting.position drawn ≡ out
  pub counted : after.setting.position ≡ position_after before.setting.position drawn
  pub script_kept : after.setting.script ≡ before.setting.script
  pub outgoing_kept : after.below.outgoing ≡ before.below.outgoing
  pub capacity_kept : after.below.capacity ≡ before.below.capacity

-- An answer comes as soon as there is one: the bytes drawn before the last were lost. No answer means that no byte is left below.
abbrev pub StopsThere : Option ℕ → Boxed → List ℕ → Boxed → Type 0
StopsThere (Some byte) before drawn after =
    (front : List ℕ) (last : ℕ) → drawn ≡ front ++ last ∷ [] → faulted before.setting.script before.setting.position front ≡ []
StopsThere None before drawn after = after.below.waiting ≡ []

-- Taking draws bytes from below until one comes out, which is the answer, or none is left there.
pub record TakenThrough (before : Boxed) (answer : Option ℕ) (after : Boxed) : Type 0 where
  pub drawn : List ℕ
  pub passed : Drawn before drawn (option_to_list answer) after
  pub stops : StopsThere answer before drawn after

-- Putting is putting to the line below; script and position stay.
pub record PutBelow (before : Boxed) (bytes : List ℕ) (answer : Result (Unit {0}) Refusal) (after : Boxed) : Type 0 where
  pub below_moves : Put before.below bytes answer after.below
  pub setting_kept : after.setting ≡ before.setting

-- What a line means through boxes around it, the outermost first.
abbrev pub through_boxes : List Setting → Meaning → Meaning
through_boxes [] line = line
through_boxes (box ∷ inner) line = box_line (record { setting = box; below = through_boxes inner line })
