-- A station, and what lodging, a pulse and collecting do to it.
use Rattle.std.specs.Prelude.{◌≡◌, ℕ, ◌+◌, Bool, cond, List, [], ◌∷◌, ◌++◌, length, take, drop, Some, None, Ok, Err, Option, Result, ◌==◌, nat_le, nat_lt}
use Rattle.frames.specs.Finding.{Found}
use Rattle.frames.specs.Promises.{Reading}
use Rattle.lines.specs.Meaning.{Meaning}
use Rattle.station.specs.declared.refusal.Refusal.{Refusal}
use Rattle.station.specs.declared.refusal.Refusal.TheVariants.{PlacesTaken, NumbersUsedUp, MemoryShort, OtherMark, NumberNotHeld, NotEnded}
use Rattle.station.specs.Commands.{request_cause}
use Rattle.station.specs.Inquiries.{Outcome, Stage, waiting, due, acknowledging, answering, receiving, ended, Inquiry, Frame, written, own_frame, under_way, waits_still, is_due}
use Rattle.station.specs.Exchange.{reply, heard, ticked, begun, attempted}

-- How many inquiries a station holds at most.
abbrev pub most_places : ℕ
most_places = 8

-- The last number that a station gives.
abbrev pub last_number : ℕ
last_number = 4294967295

-- The least memory with which one collects.
abbrev pub least_memory : ℕ
least_memory = 250

-- How many bytes a pulse takes at most.
abbrev pub most_taken : ℕ
most_taken = 300

-- What a slip says: whose it is, and the inquiry's number.
pub record Slip : Type 0 where
  pub mark : ℕ
  pub number : ℕ

-- A station: its mark, the next number, its inquiries in the order lodged, and the bytes that its reader holds.
pub record Station : Type 0 where
  pub mark : ℕ
  pub next : ℕ
  pub places : List Inquiry
  pub held : List ℕ

-- A station as it is made.
abbrev pub fresh : ℕ → ℕ → Station
fresh m first = record { mark = m; next = first; places = []; held = [] }

-- The inquiries change; nothing else does.
abbrev pub with_places : Station → List Inquiry → Station
with_places s qs = record { mark = s.mark; next = s.next; places = qs; held = s.held }

-- Lodging: the refusals by the table come first, then places, then numbers.
abbrev pub by_room : Station → Option Refusal → Option Refusal
by_room s (Some r) = Some r
by_room s None = cond (nat_le most_places (length s.places)) (Some PlacesTaken) (cond (nat_lt last_number s.next) (Some NumbersUsedUp) None)

-- Why lodging is refused, if it is.
abbrev pub lodge_cause : Station → ℕ → List ℕ → Option Refusal
lodge_cause s c d = by_room s (request_cause c (length d))

-- A newly lodged inquiry waits, under the next number.
abbrev pub new_inquiry : ℕ → ℕ → List ℕ → Inquiry
new_inquiry n c d = record { number = n; cmd = c; sent = d; copies = 0; stage = waiting }

-- What lodging answers: the slip, or the refusal.
abbrev pub lodge_answer : Station → Option Refusal → Result Slip Refusal
lodge_answer s None = Ok (record { mark = s.mark; number = s.next })
lodge_answer s (Some r) = Err r

-- The station after lodging; a refusal leaves it as it was.
abbrev pub lodge_after : Station → ℕ → List ℕ → Option Refusal → Station
lodge_after s c d None = record { mark = s.mark; next = s.next + 1; places = s.places ++ (new_inquiry s.next c d ∷ []); held = s.held }
lodge_after s c d (Some r) = s

-- The first inquiry whose stage passes a test changes; the others stay.
abbrev pub change : (Stage → Bool) → (Inquiry → Inquiry) → List Inquiry → List Inquiry
change passes f [] = []
change passes f (q ∷ qs) = cond (passes q.stage) (f q ∷ qs) (q ∷ change passes f qs)

-- The first inquiry whose stage passes a test.
abbrev pub first : (Stage → Bool) → List Inquiry → Option Inquiry
first passes [] = None
first passes (q ∷ qs) = cond (passes q.stage) (Some q) (first passes qs)

-- Step 1, for the inquiry under way: it hears what was found, in that order.
abbrev pub hears : List (ℕ × Found) → List Inquiry → List Inquiry
hears findings qs = change under_way (heard findings) qs

-- Step 2: a period that ends with this pulse ends.
abbrev pub ends_periods : List Inquiry → List Inquiry
ends_periods qs = change under_way ticked qs

-- Step 3: if no inquiry is under way, the oldest waiting one begins.
abbrev pub begins_unless : Option Inquiry → List Inquiry → List Inquiry
begins_unless (Some q) qs = qs
begins_unless None qs = change waits_still begun qs

-- Step 3, by the inquiry that is under way, if there is one.
abbrev pub begins : List Inquiry → List Inquiry
begins qs = begins_unless (first under_way qs) qs

-- The line has space for these bytes behind those that go out already.
abbrev pub has_space : ℕ → List ℕ → List ℕ → Bool
has_space capacity outgoing bytes = nat_le (length outgoing + length bytes) capacity

-- A frame is put whole where the space suffices, and not at all otherwise.
abbrev pub put : ℕ → List ℕ → Option Frame → List ℕ
put capacity outgoing None = outgoing
put capacity outgoing (Some f) = cond (has_space capacity outgoing (written f)) (outgoing ++ written f) outgoing

-- The outgoing bytes after the replies of step 1, in the order found; a reply that finds no space is lost.
abbrev pub replies : ℕ → List (ℕ × Found) → List ℕ → List ℕ
replies capacity [] outgoing = outgoing
replies capacity ((place, v) ∷ more) outgoing = replies capacity more (put capacity outgoing (reply v))

-- Step 4, for the inquiry: a due attempt is spent, and counts as a copy where the space suffices.
abbrev pub attempts : ℕ → List ℕ → List Inquiry → List Inquiry
attempts capacity outgoing qs = change is_due (λ q. attempted (has_space capacity outgoing (written (own_frame q))) q) qs

-- Step 4, for the line: the frame of the due attempt.
abbrev pub due_frame : Option Inquiry → Option Frame
due_frame None = None
due_frame (Some q) = Some (own_frame q)

-- The inquiries after steps 1 to 3.
abbrev pub up_to_step_three : List (ℕ × Found) → List Inquiry → List Inquiry
up_to_step_three findings qs = begins (ends_periods (hears findings qs))

-- The bytes that a pulse takes.
unfoldable pub taken : Meaning → List ℕ
taken line = take most_taken line.waiting

-- The bytes that a pulse leaves waiting.
unfoldable pub left_waiting : Meaning → List ℕ
left_waiting line = drop most_taken line.waiting

-- In a silence the reader forgets what it holds.
abbrev pub unless_silent : List ℕ → List ℕ → List ℕ
unless_silent [] held = []
unless_silent (b ∷ bytes) held = held

-- A pulse on a line: what the station and the line are afterwards.
pub record Pulsed (before : Station) (line : Meaning) (after : Station) (line_after : Meaning) : Type 0 where
  pub findings : List (ℕ × Found)
  pub open_end : List ℕ
  -- the findings of this pulse are all that the bytes held and taken hold
  pub reads : Reading 0 (before.held ++ taken line) findings open_end
  pub held : after.held ≡ unless_silent (taken line) open_end
  pub places : after.places ≡ attempts line.capacity (replies line.capacity findings line.outgoing) (up_to_step_three findings before.places)
  pub mark : after.mark ≡ before.mark
  pub next : after.next ≡ before.next
  pub outgoing : line_after.outgoing ≡ put line.capacity (replies line.capacity findings line.outgoing) (due_frame (first is_due (up_to_step_three findings before.places)))
  pub waits_on : line_after.waiting ≡ left_waiting line
  pub capacity : line_after.capacity ≡ line.capacity

-- The first inquiry of a number.
abbrev pub held_under : ℕ → List Inquiry → Option Inquiry
held_under n [] = None
held_under n (q ∷ qs) = cond (q.number == n) (Some q) (held_under n qs)

-- The first inquiry of a number is gone.
abbrev pub without : ℕ → List Inquiry → List Inquiry
without n [] = []
without n (q ∷ qs) = cond (q.number == n) qs (q ∷ without n qs)

-- Collecting: the outcome of an inquiry that has ended.
abbrev pub outcome_at : ℕ → Stage → Result Outcome Refusal
outcome_at n waiting = Err NotEnded
outcome_at n (due k) = Err NotEnded
outcome_at n (acknowledging k left) = Err NotEnded
outcome_at n (answering left) = Err NotEnded
outcome_at n (receiving left) = Err NotEnded
outcome_at n (ended e) = Ok (record { copies = n; ending = e })

-- What collecting an inquiry answers, if one is held under the number.
abbrev pub outcome_of : Option Inquiry → Result Outcome Refusal
outcome_of None = Err NumberNotHeld
outcome_of (Some q) = outcome_at q.copies q.stage

-- Collecting: memory comes first, then the mark, then the number, then the end.
abbrev pub collect_answer : Station → Slip → ℕ → Result Outcome Refusal
collect_answer s slip memory =
    cond (nat_lt memory least_memory) (Err MemoryShort)
    (cond (slip.mark == s.mark) (outcome_of (held_under slip.number s.places)) (Err OtherMark))

-- Handing an outcome out frees the place.
abbrev pub collect_after : Station → Slip → Result Outcome Refusal → Station
collect_after s slip (Ok o) = with_places s (without slip.number s.places)
collect_after s slip (Err r) = s
