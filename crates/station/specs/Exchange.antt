-- What one inquiry does in a pulse: by a frame that is found, by a period's end, by its turn and by a due attempt.
use Rattle.std.specs.Prelude.{ℕ, ◌+◌, ◌-◌, Bool, cond, ◌&&◌, ◌||◌, List, [], ◌∷◌, take, Some, None, Option, ◌==◌, nat_le, nat_lt, slice_index}
use Rattle.std.specs.Str.{bytes_eq}
use Rattle.frames.specs.declared.finding.Cause.TheVariants.{Length, End, Check}
use Rattle.frames.specs.Finding.{Found, frame, dropped}
use Rattle.station.specs.declared.fault.Fault.TheVariants.{NotSent, NotAcknowledged, ErrorReply, NoAnswer, NoRadioAnswer}
use Rattle.station.specs.Commands.{answer_of, radio_answer, is_answer, lawful_answer}
use Rattle.station.specs.Inquiries.{answered, failed, Stage, waiting, due, acknowledging, answering, receiving, ended, Inquiry, Frame, at_stage}

-- How often an inquiry is tried.
abbrev pub most_attempts : ℕ
most_attempts = 4

-- The acknowledgement period is the next five pulses.
abbrev pub acknowledgement_pulses : ℕ
acknowledgement_pulses = 5

-- The answer period is this pulse and the 20 following.
abbrev pub answer_pulses : ℕ
answer_pulses = 21

-- The radio period is this pulse and the 30 following.
abbrev pub radio_pulses : ℕ
radio_pulses = 31

-- ACK: the frame has come.
abbrev pub ack : Frame
ack = record { cmd = 0x06; body = [] }

-- NAK: not understood, or damaged.
abbrev pub nak : Frame
nak = record { cmd = 0x15; body = [] }

-- ERROR: no such command here.
abbrev pub error : Frame
error = record { cmd = 0x00; body = 0x01 ∷ [] }

-- A frame with this CMD and DATA is this one.
abbrev pub is : Frame → ℕ → List ℕ → Bool
is f c d = f.cmd == c && bytes_eq f.body d

-- A CMD of a control frame, whatever the data.
abbrev pub control_cmd : ℕ → Bool
control_cmd c = c == 0x06 || (c == 0x15 || c == 0x00)

-- The reply that a finding draws, whatever inquiry is under way.
abbrev pub reply : Found → Option Frame
reply (dropped Length n) = None
reply (dropped End n) = Some nak
reply (dropped Check n) = Some nak
reply (frame c d) = cond (control_cmd c) None (cond (is_answer c) (cond (lawful_answer c d) (Some ack) (Some nak)) (Some error))

-- After a failed attempt the next is due; after the last the inquiry ends, unsent or not acknowledged.
abbrev pub after_attempt : ℕ → ℕ → Stage
after_attempt copies k = cond (nat_lt k most_attempts) (due (k + 1)) (ended (failed (cond (copies == 0) NotSent NotAcknowledged)))

-- A frame in an acknowledgement period: control frames matter once a copy was put.
abbrev pub in_acknowledgement : Inquiry → ℕ → List ℕ → Stage → ℕ → Stage
in_acknowledgement q c d now k =
    cond (q.copies == 0) now
    (cond (is ack c d) (answering answer_pulses)
    (cond (is nak c d) (after_attempt q.copies k)
    (cond (is error c d) (ended (failed ErrorReply)) now)))

-- A frame answers an inquiry's command, with lawful data.
abbrev pub awaits : Inquiry → ℕ → List ℕ → Bool
awaits q c d = c == answer_of q.cmd && lawful_answer c d

-- A frame in an answer period: the awaited answer ends the inquiry, but 0x21 with 00 opens the radio period of a 0x20.
abbrev pub in_answer : Inquiry → ℕ → List ℕ → Stage → Stage
in_answer q c d now =
    cond (awaits q c d)
    (cond (q.cmd == 0x20 && slice_index d 0 == 0) (receiving radio_pulses) (ended (answered d)))
    now

-- A frame in a radio period: only a radio answer from the address sent ends the inquiry.
abbrev pub in_radio : Inquiry → ℕ → List ℕ → Stage → Stage
in_radio q c d now =
    cond (c == radio_answer && (lawful_answer c d && bytes_eq (take 6 d) (take 6 q.sent))) (ended (answered d)) now

-- The stage to which a finding brings an inquiry.
abbrev pub hear : Inquiry → Found → Stage → Stage
hear q (dropped cause n) now = now
hear q (frame c d) waiting = waiting
hear q (frame c d) (due k) = due k
hear q (frame c d) (acknowledging k left) = in_acknowledgement q c d (acknowledging k left) k
hear q (frame c d) (answering left) = in_answer q c d (answering left)
hear q (frame c d) (receiving left) = in_radio q c d (receiving left)
hear q (frame c d) (ended e) = ended e

-- The stage to which findings bring an inquiry, one after another.
abbrev pub hear_all : Inquiry → List (ℕ × Found) → Stage → Stage
hear_all q [] now = now
hear_all q ((place, v) ∷ more) now = hear_all q more (hear q v now)

-- An inquiry after it has heard all that was found.
abbrev pub heard : List (ℕ × Found) → Inquiry → Inquiry
heard findings q = at_stage q (hear_all q findings q.stage)

-- A period is one pulse shorter, or it ends with this pulse.
abbrev pub shorter : ℕ → Stage → Stage → Stage
shorter left over longer = cond (nat_le left 1) over longer

-- The stage after step 2: each period has its own end.
abbrev pub tick : ℕ → Stage → Stage
tick copies waiting = waiting
tick copies (due k) = due k
tick copies (acknowledging k left) = shorter left (after_attempt copies k) (acknowledging k (left - 1))
tick copies (answering left) = shorter left (ended (failed NoAnswer)) (answering (left - 1))
tick copies (receiving left) = shorter left (ended (failed NoRadioAnswer)) (receiving (left - 1))
tick copies (ended e) = ended e

-- An inquiry after step 2.
abbrev pub ticked : Inquiry → Inquiry
ticked q = at_stage q (tick q.copies q.stage)

-- An inquiry begins with attempt 1 due.
abbrev pub begun : Inquiry → Inquiry
begun q = at_stage q (due 1)

-- A due attempt opens its acknowledgement period, whether its frame was put or not.
abbrev pub opened : Stage → Stage
opened waiting = waiting
opened (due k) = acknowledging k acknowledgement_pulses
opened (acknowledging k left) = acknowledging k left
opened (answering left) = answering left
opened (receiving left) = receiving left
opened (ended e) = ended e

-- A due attempt whose frame was put counts as a copy.
abbrev pub counted : Bool → Stage → ℕ → ℕ
counted put waiting n = n
counted put (due k) n = cond put (n + 1) n
counted put (acknowledging k left) n = n
counted put (answering left) n = n
counted put (receiving left) n = n
counted put (ended e) n = n

-- An attempt that is due, spent: its frame was put or not.
abbrev pub attempted : Bool → Inquiry → Inquiry
attempted put q = record { number = q.number; cmd = q.cmd; sent = q.sent; copies = counted put q.stage q.copies; stage = opened q.stage }
