-- What a fault box holds of its script, and what reading and loading one does.
use Rattle.std.specs.Prelude.{◌≡◌, true, false, List, Ok, Err, Result}
use Rattle.lines.specs.declared.refusal.Refusal.{Refusal}
use Rattle.lines.specs.declared.script.Entry.{Entry}
use Rattle.lines.specs.declared.script.Script.{Script}
use Rattle.lines.specs.Refusals.{refusal_number}
use Rattle.lines.specs.Faults.{lawful_script}

-- Reading gives the script with just these entries if they make one, and is refused with 14 otherwise.
abbrev pub Read : List Entry → Result Script Refusal → Type 0
Read entries (Ok script) = (lawful_script entries ≡ true) × (script ≡ entries)
Read entries (Err refusal) = (lawful_script entries ≡ false) × (refusal_number refusal ≡ 14)

-- Loading puts the entries in the script's place if they make one, and is refused with 14 otherwise, when the script stays.
abbrev pub Loaded : List Entry → List Entry → Result (Unit {0}) Refusal → List Entry → Type 0
Loaded before entries (Ok _) after = (lawful_script entries ≡ true) × (after ≡ entries)
Loaded before entries (Err refusal) after = (lawful_script entries ≡ false) × (refusal_number refusal ≡ 14) × (after ≡ before)
