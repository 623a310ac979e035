-- The table of inquiries: looking one up, and changing it alone.
use Rattle.std.specs.Prelude.{◌≡◌, Bool, true, List, [], ◌∷◌, None}
use Rattle.lines.specs.Meaning.{Meaning}
use Rattle.station.specs.Inquiries as rules
use Rattle.station.specs.Inquiries.{under_way, is_due}
use Rattle.station.specs.Putting.{PutsIf}
use Rattle.station.specs.Stations.{attempts, due_frame, first}

-- What a closure gives at an inquiry is what a test says of its stage.
abbrev pub Tests : (rules.Inquiry → Bool → Type 0) → (rules.Stage → Bool) → Type 0
Tests Gives test = (q : rules.Inquiry) (b : Bool) → Gives q b → b ≡ test q.stage

-- One inquiry is under way at a time: behind one that is, none is.
abbrev pub OneAtATime : List rules.Inquiry → Type 0
OneAtATime [] = Unit {0}
OneAtATime (q ∷ qs) = (under_way q.stage ≡ true → first under_way qs ≡ None) × OneAtATime qs

-- What step 4 does to the inquiries and to the line.
pub record Attempts (before after : List rules.Inquiry) (line line_after : Meaning) : Type 0 where
  pub places : after ≡ attempts line.capacity line.outgoing before
  pub puts : PutsIf (due_frame (first is_due before)) line line_after
