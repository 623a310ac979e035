-- Runs of calls on a store, and what every run keeps.
use Rattle.std.specs.Prelude.{◌≡◌, ℕ, Bool, cond, List, length, Option}
use Rattle.parameters.specs.declared.parameter.Parameter.{Parameter}
use Rattle.parameters.specs.Values.{Values, asked, byte_at, lawful, writes, after_write}

infixl 20 ◌▸◌
-- A call on a store, with what it answered.
pub data Call : Type 0 where
  told_length : (number answer : ℕ) → Call
  told_byte : (number place : ℕ) (answer : Option ℕ) → Call
  wrote : (number : ℕ) (value : List ℕ) (taken : Bool) → Call

-- The calls on a store since it began with some values, the newest last.
pub data History : Type 0 where
  began : Values → History
  ◌▸◌ : History → Call → History

-- One call leads from values to values.
abbrev pub Step : Values → Call → Values → Type 0
Step before (told_length number answer) after =
    (answer ≡ length (asked before number)) × ((p : Parameter) → after p ≡ before p)
Step before (told_byte number place answer) after =
    (answer ≡ byte_at (asked before number) place) × ((p : Parameter) → after p ≡ before p)
Step before (wrote number value taken) after =
    (taken ≡ lawful number value) × ((p : Parameter) → after p ≡ after_write before number value p)

-- The calls of a history lead to these values.
abbrev pub Run : History → Values → Type 0
Run (began first) values = (p : Parameter) → values p ≡ first p
Run (h ▸ call) values = (before : Values) × Run h before × Step before call values

-- The last lawful write to each parameter, else the value that it began with.
abbrev pub last_lawful : History → Values
last_lawful (began first) p = first p
last_lawful (h ▸ told_length number answer) p = last_lawful h p
last_lawful (h ▸ told_byte number place answer) p = last_lawful h p
last_lawful (h ▸ wrote number value taken) p = cond (writes p number value) value (last_lawful h p)

-- Every answer was right by the last lawful writes before it.
abbrev pub ToldRight : History → Type 0
ToldRight (began first) = Unit {0}
ToldRight (h ▸ told_length number answer) = ToldRight h × (answer ≡ length (asked (last_lawful h) number))
ToldRight (h ▸ told_byte number place answer) = ToldRight h × (answer ≡ byte_at (asked (last_lawful h) number) place)
ToldRight (h ▸ wrote number value taken) = ToldRight h × (taken ≡ lawful number value)

-- What every run keeps: each parameter holds its last lawful write, else what it began with, and every answer was right.
pub record LawOfRuns (h : History) (values : Values) : Type 0 where
  pub holds : (p : Parameter) → values p ≡ last_lawful h p
  pub told : ToldRight h

-- A call added to a history: it leads on, and the law holds.
pub record LeadsOn (h : History) (values : Values) : Type 0 where
  pub run : Run h values
  pub law : LawOfRuns h values
