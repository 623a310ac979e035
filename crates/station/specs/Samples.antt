-- Cases worked out by hand, as one table: each row is a test that computes to true.
use Rattle.std.specs.Prelude.{ℕ, zero, suc, ◌+◌, Bool, false, cond, ◌&&◌, List, [], ◌∷◌, ◌++◌, Ok, Err, Result, ◌==◌}
use Rattle.std.specs.Str.{bytes_eq}
use Rattle.frames.specs.Samples.{samples as frame_samples}
use Rattle.lines.specs.Meaning.{Meaning}
use Rattle.station.specs.declared.refusal.Refusal.{Refusal}
use Rattle.station.specs.Refusals.{refusal_number, fault_number}
use Rattle.station.specs.Inquiries.{Ending, answered, failed, Outcome, written}
use Rattle.station.specs.Exchange.{ack}
use Rattle.station.specs.Stations.{Slip, Station, fresh, lodge_cause, lodge_answer, lodge_after, collect_answer, collect_after}
use Rattle.station.specs.Computing.{reads, station_after, line_after}

-- A line with these bytes waiting and nothing going out yet.
abbrev pub line_with : ℕ → List ℕ → Meaning
line_with room bytes = record { waiting = bytes; outgoing = []; capacity = room }

-- The station after this was lodged.
unfoldable pub lodged : Station → ℕ → List ℕ → Station
lodged s c d = lodge_after s c d (lodge_cause s c d)

-- A station with mark 7 and first number 1 at which this was lodged.
abbrev pub one_lodged : ℕ → List ℕ → Station
one_lodged c d = lodged (fresh 7 1) c d

-- The station after so many pulses, the pulse numbers counting from `i`; at each the line has these bytes waiting.
unfoldable pub after_pulses : ℕ → (ℕ → List ℕ) → ℕ → ℕ → Station → Station
after_pulses room brings zero i s = s
after_pulses room brings (suc n) i s = after_pulses room brings n (i + 1) (station_after s (line_with room (brings i)) (reads s (line_with room (brings i))))

-- The station after its first pulses.
unfoldable pub pulsed : ℕ → (ℕ → List ℕ) → ℕ → Station → Station
pulsed room brings n s = after_pulses room brings n 1 s

-- What pulse n + 1 puts.
unfoldable pub puts_next : ℕ → (ℕ → List ℕ) → ℕ → Station → List ℕ
puts_next room brings n s =
    (line_after (pulsed room brings n s) (line_with room (brings (n + 1))) (reads (pulsed room brings n s) (line_with room (brings (n + 1))))).outgoing

-- The slip of the inquiry lodged first.
abbrev pub own_slip : Slip
own_slip = record { mark = 7; number = 1 }

-- What collecting that slip answers.
abbrev pub told_by : Station → Result Outcome Refusal
told_by s = collect_answer s own_slip 250

-- The answer is this data, with so many copies.
abbrev pub ending_answers : Ending → List ℕ → Bool
ending_answers (answered d) expected = bytes_eq d expected
ending_answers (failed f) expected = false

-- An outcome with this answer and so many copies.
abbrev pub is_answered : Result Outcome Refusal → ℕ → List ℕ → Bool
is_answered (Ok o) copies d = o.copies == copies && ending_answers o.ending d
is_answered (Err r) copies d = false

-- The fault has this number, with so many copies.
abbrev pub ending_fails : Ending → ℕ → Bool
ending_fails (answered d) number = false
ending_fails (failed f) number = fault_number f == number

-- An outcome with this fault and so many copies.
abbrev pub is_failed : Result Outcome Refusal → ℕ → ℕ → Bool
is_failed (Ok o) copies number = o.copies == copies && ending_fails o.ending number
is_failed (Err r) copies number = false

-- The refusal has this number.
abbrev pub is_refused : {X : Type 0} → Result X Refusal → ℕ → Bool
is_refused (Ok x) number = false
is_refused (Err r) number = refusal_number r == number

-- Lodging is refused with this number.
abbrev pub lodge_refused : Station → ℕ → List ℕ → ℕ → Bool
lodge_refused s c d number = is_refused (lodge_answer s (lodge_cause s c d)) number

-- A dead line brings nothing.
abbrev pub dead : ℕ → List ℕ
dead i = []

-- At one pulse these bytes, at all others what else comes.
abbrev pub at_pulse : ℕ → List ℕ → (ℕ → List ℕ) → ℕ → List ℕ
at_pulse n bytes others i = cond (i == n) bytes (others i)

-- FF 02 05 50 04 6E AC 03, the request to read parameter 04.
abbrev pub asked : List ℕ
asked = 0xFF ∷ (0x02 ∷ (0x05 ∷ (0x50 ∷ (0x04 ∷ (0x6E ∷ (0xAC ∷ (0x03 ∷ [])))))))

-- FF 02 06 51 00 01 2C 83 03, its answer.
abbrev pub told_value : List ℕ
told_value = 0xFF ∷ (0x02 ∷ (0x06 ∷ (0x51 ∷ (0x00 ∷ (0x01 ∷ (0x2C ∷ (0x83 ∷ (0x03 ∷ []))))))))

-- The bytes of an ACK.
abbrev pub acknowledge : List ℕ
acknowledge = written ack

-- A station that is to read parameter 04.
abbrev pub asking : Station
asking = one_lodged 0x50 (0x04 ∷ [])

-- ACK and answer both wait at pulse 2.
abbrev pub answers_at_two : ℕ → List ℕ
answers_at_two = at_pulse 2 (acknowledge ++ told_value) dead

-- The radio address 01 02 03 04 05 06, to which a frame is to go.
abbrev pub sending : Station
sending = one_lodged 0x20 (1 ∷ (2 ∷ (3 ∷ (4 ∷ (5 ∷ (6 ∷ []))))))

-- The ACK waits at pulse 21.
abbrev pub late : ℕ → List ℕ
late = at_pulse 21 acknowledge dead

-- And a 0x21 with 00 waits at pulse 41.
abbrev pub later_still : ℕ → List ℕ
later_still = at_pulse 41 (written (record { cmd = 0x21; body = 0x00 ∷ [] })) late

-- Eight inquiries: all places are taken.
unfoldable pub crowded : Station
crowded =
    lodged (lodged (lodged (lodged (lodged (lodged (lodged asking 0x54 []) 0x54 []) 0x54 []) 0x54 []) 0x54 []) 0x54 []) 0x54 []

-- The request goes out at pulse 1; ACK and answer at pulse 2 end it there, and an ACK goes out.
unfoldable pub answered_samples : List Bool
answered_samples =
    bytes_eq (puts_next 1024 answers_at_two 0 asking) asked
    ∷ (is_refused (told_by (pulsed 1024 answers_at_two 1 asking)) 8
    ∷ (bytes_eq (puts_next 1024 answers_at_two 1 asking) acknowledge
    ∷ (is_answered (told_by (pulsed 1024 answers_at_two 2 asking)) 1 (0x00 ∷ (0x01 ∷ []))
    ∷ [])))

-- On a dead line copies go out at pulses 1, 6, 11 and 16, and fault 22 comes at 21; without space it is 21 with no copy.
unfoldable pub dead_line_samples : List Bool
dead_line_samples =
    bytes_eq (puts_next 1024 dead 4 asking) []
    ∷ (bytes_eq (puts_next 1024 dead 5 asking) asked
    ∷ (bytes_eq (puts_next 1024 dead 10 asking) asked
    ∷ (bytes_eq (puts_next 1024 dead 15 asking) asked
    ∷ (bytes_eq (puts_next 1024 dead 16 asking) []
    ∷ (is_refused (told_by (pulsed 1024 dead 20 asking)) 8
    ∷ (is_failed (told_by (pulsed 1024 dead 21 asking)) 4 22
    ∷ (is_failed (told_by (pulsed 7 dead 21 asking)) 0 21
    ∷ [])))))))

-- ACK at pulse 21 still counts, and fault 24 comes at 41; of a 0x20 with 0x21 at 41, fault 25 comes at 71.
unfoldable pub late_samples : List Bool
late_samples =
    is_refused (told_by (pulsed 1024 late 40 asking)) 8
    ∷ (is_failed (told_by (pulsed 1024 late 41 asking)) 4 24
    ∷ (is_refused (told_by (pulsed 1024 later_still 70 sending)) 8
    ∷ (is_failed (told_by (pulsed 1024 later_still 71 sending)) 4 25
    ∷ [])))

-- What lodging and collecting refuse, in this order.
unfoldable pub refused_samples : List Bool
refused_samples =
    lodge_refused asking 0x21 [] 1
    ∷ (lodge_refused asking 0x50 [] 2
    ∷ (lodge_refused crowded 0x54 [] 3
    ∷ (lodge_refused (lodged (fresh 7 4294967295) 0x54 []) 0x54 [] 4
    ∷ (is_refused (collect_answer asking own_slip 249) 5
    ∷ (is_refused (collect_answer asking (record { mark = 8; number = 1 }) 250) 6
    ∷ (is_refused (collect_answer asking (record { mark = 7; number = 2 }) 250) 7
    ∷ (is_refused (told_by (collect_after (pulsed 1024 dead 21 asking) own_slip (told_by (pulsed 1024 dead 21 asking)))) 7
    ∷ [])))))))

-- The one table: the cases of frames, which these join.
unfoldable pub samples : List Bool
samples = frame_samples ++ (answered_samples ++ (dead_line_samples ++ (late_samples ++ refused_samples)))
