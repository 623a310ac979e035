-- Cases of a card worked out by hand, as one table with those of the levels below: each row is a test that computes to true.
use Rattle.std.specs.Prelude.{ℕ, zero, suc, ◌+◌, Bool, List, [], ◌∷◌, ◌++◌}
use Rattle.std.specs.Str.{bytes_eq}
use Rattle.station.specs.Inquiries.{written}
use Rattle.station.specs.Exchange.{nak, error}
use Rattle.station.specs.Samples.{line_with, dead, at_pulse, asked, told_value, acknowledge, samples as station_samples}
use Rattle.parameters.specs.Parameters.{first_value}
use Rattle.boards.specs.Boards.{Kind, wavecard_25, wavecard_500}
use Rattle.card.specs.CardPulse.{Card, fresh}
use Rattle.card.specs.CardComputing.{reads, card_after, line_after}

-- A card over a table store with first values and settings as they start.
abbrev pub new_card : Kind → Card
new_card kind = fresh (record { values = first_value; mode = kind.default_mode; channel = 0; power = 0x0A })

-- The card after so many pulses, the pulse numbers counting from `i`; at each the line has these bytes waiting.
unfoldable pub after_pulses : Kind → ℕ → (ℕ → List ℕ) → ℕ → ℕ → Card → Card
after_pulses kind room brings zero i card = card
after_pulses kind room brings (suc n) i card =
    after_pulses kind room brings n (i + 1) (card_after kind card (line_with room (brings i)) (reads card (line_with room (brings i))))

-- What a card puts in a pulse on this line.
unfoldable pub puts_on : Kind → ℕ → List ℕ → Card → List ℕ
puts_on kind room bytes card = (line_after kind card (line_with room bytes) (reads card (line_with room bytes))).outgoing

-- A new card puts these bytes in pulse n + 1.
unfoldable pub puts_then : Kind → ℕ → (ℕ → List ℕ) → ℕ → List ℕ → Bool
puts_then kind room brings n bytes = bytes_eq (puts_on kind room (brings (n + 1)) (after_pulses kind room brings n 1 (new_card kind))) bytes

-- A frame with this CMD and these data bytes.
abbrev pub bytes_of : ℕ → List ℕ → List ℕ
bytes_of c d = written (record { cmd = c; body = d })

-- These bytes wait at pulse 1, and nothing later.
abbrev pub at_first_pulse : List ℕ → ℕ → List ℕ
at_first_pulse bytes = at_pulse 1 bytes dead

-- A request, and whether its answer behind an ACK is this one, at pulse 1.
abbrev pub answers : Kind → List ℕ → List ℕ → Bool
answers kind request answer = puts_then kind 1024 (at_first_pulse request) 0 (acknowledge ++ answer)

-- FF 02 06 40 04 00 8C 2A 03, the request to write 0 to parameter 04.
abbrev pub wrote : List ℕ
wrote = 0xFF ∷ 0x02 ∷ 0x06 ∷ 0x40 ∷ 0x04 ∷ 0x00 ∷ 0x8C ∷ 0x2A ∷ 0x03 ∷ []

-- FF 02 05 41 00 03 66 03, its answer.
abbrev pub told_done : List ℕ
told_done = 0xFF ∷ 0x02 ∷ 0x05 ∷ 0x41 ∷ 0x00 ∷ 0x03 ∷ 0x66 ∷ 0x03 ∷ []

-- The request to read parameter 04 with its check value spoiled.
abbrev pub damaged : List ℕ
damaged = 0xFF ∷ 0x02 ∷ 0x05 ∷ 0x50 ∷ 0x04 ∷ 0x6E ∷ 0xAD ∷ 0x03 ∷ []

-- One byte in pulse 1, the rest of the request to read parameter 04 in pulse 2.
abbrev pub cut : ℕ → List ℕ
cut = at_pulse 1 (0xFF ∷ []) (at_pulse 2 (0x02 ∷ 0x05 ∷ 0x50 ∷ 0x04 ∷ 0x6E ∷ 0xAC ∷ 0x03 ∷ []) dead)

-- The same with a silence between.
abbrev pub cut_by_silence : ℕ → List ℕ
cut_by_silence = at_pulse 1 (0xFF ∷ []) (at_pulse 3 (0x02 ∷ 0x05 ∷ 0x50 ∷ 0x04 ∷ 0x6E ∷ 0xAC ∷ 0x03 ∷ []) dead)

-- What each request answers: parameters, modes, channels and power, done or not.
unfoldable pub answer_samples : List Bool
answer_samples =
    answers wavecard_25 asked told_value
    ∷ answers wavecard_25 wrote told_done
    ∷ answers wavecard_25 (bytes_of 0x50 (0x05 ∷ [])) (bytes_of 0x51 (0x01 ∷ []))
    ∷ answers wavecard_25 (bytes_of 0x40 (0x04 ∷ 0x02 ∷ [])) (bytes_of 0x41 (0x01 ∷ []))
    ∷ answers wavecard_25 (bytes_of 0x66 []) (bytes_of 0x67 (0x00 ∷ 0x00 ∷ 0xA3 ∷ []))
    ∷ answers wavecard_25 (bytes_of 0x64 (0x00 ∷ 0xB9 ∷ [])) (bytes_of 0x65 (0x01 ∷ []))
    ∷ answers wavecard_25 (bytes_of 0x60 (0x05 ∷ [])) (bytes_of 0x61 (0x01 ∷ []))
    ∷ answers wavecard_25 (bytes_of 0x62 []) (bytes_of 0x63 (0x01 ∷ []))
    ∷ answers wavecard_25 (bytes_of 0x44 (0x0B ∷ [])) (bytes_of 0x45 (0x01 ∷ []))
    ∷ answers wavecard_25 (bytes_of 0x54 []) (bytes_of 0x55 (0x0A ∷ []))
    ∷ []

-- Requests one behind another, in one pulse: each draws its ACK and changes what the next one meets; the last one's answer goes out.
unfoldable pub change_samples : List Bool
change_samples =
    answers wavecard_25 (wrote ++ asked) (acknowledge ++ bytes_of 0x51 (0x00 ∷ 0x00 ∷ []))
    ∷ answers wavecard_25 (bytes_of 0x64 (0x00 ∷ 0xA2 ∷ []) ++ bytes_of 0x60 (0x15 ∷ [])) (acknowledge ++ bytes_of 0x61 (0x00 ∷ []))
    ∷ answers wavecard_25 (bytes_of 0x64 (0x00 ∷ 0xA2 ∷ []) ++ (bytes_of 0x60 (0x15 ∷ []) ++ bytes_of 0x62 [])) (acknowledge ++ (acknowledge ++ bytes_of 0x63 (0x00 ∷ 0x15 ∷ [])))
    ∷ answers wavecard_25 (bytes_of 0x64 (0x00 ∷ 0xA2 ∷ []) ++ bytes_of 0x60 (0x16 ∷ [])) (acknowledge ++ bytes_of 0x61 (0x01 ∷ []))
    ∷ answers wavecard_25 (bytes_of 0x64 (0x00 ∷ 0xB3 ∷ []) ++ bytes_of 0x66 []) (acknowledge ++ bytes_of 0x67 (0x00 ∷ 0x00 ∷ 0xB3 ∷ []))
    ∷ answers wavecard_25 (bytes_of 0x44 (0x07 ∷ []) ++ bytes_of 0x54 []) (acknowledge ++ bytes_of 0x55 (0x07 ∷ []))
    ∷ []

-- What draws NAK or ERROR, what draws nothing, and a request that is cut.
unfoldable pub reply_samples : List Bool
reply_samples =
    puts_then wavecard_25 1024 (at_first_pulse damaged) 0 (written nak)
    ∷ puts_then wavecard_25 1024 (at_first_pulse (bytes_of 0x50 [])) 0 (written nak)
    ∷ puts_then wavecard_25 1024 (at_first_pulse (bytes_of 0x20 (1 ∷ 2 ∷ 3 ∷ 4 ∷ 5 ∷ 6 ∷ []))) 0 (written error)
    ∷ puts_then wavecard_500 1024 (at_first_pulse (bytes_of 0x54 [])) 0 (written error)
    ∷ puts_then wavecard_500 1024 (at_first_pulse (bytes_of 0x44 (0x07 ∷ []))) 0 (written error)
    ∷ puts_then wavecard_25 1024 (at_first_pulse (bytes_of 0x06 (0x01 ∷ []))) 0 []
    ∷ puts_then wavecard_25 1024 cut 0 []
    ∷ puts_then wavecard_25 1024 cut 1 (acknowledge ++ told_value)
    ∷ puts_then wavecard_25 1024 cut_by_silence 2 []
    ∷ []

-- A response goes out at pulses 1, 6, 11 and 16 and no more; ACK and ERROR end it, a NAK sends it again at once; without space its attempt is spent unsent.
unfoldable pub response_samples : List Bool
response_samples =
    puts_then wavecard_25 1024 (at_first_pulse asked) 4 []
    ∷ puts_then wavecard_25 1024 (at_first_pulse asked) 5 told_value
    ∷ puts_then wavecard_25 1024 (at_first_pulse asked) 10 told_value
    ∷ puts_then wavecard_25 1024 (at_first_pulse asked) 15 told_value
    ∷ puts_then wavecard_25 1024 (at_first_pulse asked) 20 []
    ∷ puts_then wavecard_25 1024 (at_pulse 2 acknowledge (at_first_pulse asked)) 5 []
    ∷ puts_then wavecard_25 1024 (at_pulse 6 acknowledge (at_first_pulse asked)) 5 []
    ∷ puts_then wavecard_25 1024 (at_pulse 2 (written error) (at_first_pulse asked)) 5 []
    ∷ puts_then wavecard_25 1024 (at_pulse 2 (written nak) (at_first_pulse asked)) 1 told_value
    ∷ puts_then wavecard_25 1024 (at_first_pulse (asked ++ acknowledge)) 5 told_value
    ∷ puts_then wavecard_25 1024 (at_pulse 3 wrote (at_first_pulse asked)) 5 []
    ∷ puts_then wavecard_25 1024 (at_pulse 3 wrote (at_first_pulse asked)) 7 told_done
    ∷ puts_then wavecard_25 15 (at_first_pulse asked) 0 acknowledge
    ∷ puts_then wavecard_25 15 (at_first_pulse asked) 5 told_value
    ∷ puts_then wavecard_25 6 (at_first_pulse (wrote ++ asked)) 0 []
    ∷ []

-- The one table: the cases of frames and of the station, which these join.
unfoldable pub samples : List Bool
samples = station_samples ++ (answer_samples ++ (change_samples ++ (reply_samples ++ response_samples)))
