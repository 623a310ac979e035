-- The numbers of this level's refusals and faults.
use Rattle.std.specs.Prelude.{ℕ, Some, None, Ok, Err, Option, Result}
use Rattle.station.specs.declared.refusal.Refusal.{Refusal}
use Rattle.station.specs.declared.refusal.Refusal.TheVariants.{UnknownCommand, DataLength, PlacesTaken, NumbersUsedUp, MemoryShort, OtherMark, NumberNotHeld, NotEnded}
use Rattle.station.specs.declared.fault.Fault.{Fault}
use Rattle.station.specs.declared.fault.Fault.TheVariants.{NotSent, NotAcknowledged, ErrorReply, NoAnswer, NoRadioAnswer}

-- each refusal has its number here and nowhere else
abbrev pub refusal_number : Refusal → ℕ
refusal_number UnknownCommand = 1
refusal_number DataLength = 2
refusal_number PlacesTaken = 3
refusal_number NumbersUsedUp = 4
refusal_number MemoryShort = 5
refusal_number OtherMark = 6
refusal_number NumberNotHeld = 7
refusal_number NotEnded = 8

-- each fault has its number here and nowhere else
abbrev pub fault_number : Fault → ℕ
fault_number NotSent = 21
fault_number NotAcknowledged = 22
fault_number ErrorReply = 23
fault_number NoAnswer = 24
fault_number NoRadioAnswer = 25

-- the refusal in an answer, if it is one
abbrev pub refusal_in : {X : Type 0} → Result X Refusal → Option Refusal
refusal_in (Ok x) = None
refusal_in (Err e) = Some e
