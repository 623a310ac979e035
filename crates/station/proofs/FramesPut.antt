-- A written frame that is put on a line goes out whole or not at all.
use Rattle.std.proofs.Common.{◌≡◌, ℕ, ◌+◌, ◌≤◌, List, [], ◌∷◌, ◌++◌, length, take, drop, Some, Ok, Err, Result, sym, ap, ◌∙◌, arith, length-append}
use Rattle.std.proofs.lemmas.List.{take_at}
use Rattle.std.proofs.lemmas.Bool.{le-leb, lt-leb, cond-true, cond-false}
use Rattle.frames.specs.Crc.{crc_of}
use Rattle.frames.specs.Frame.{frame_bytes, covered, stored}
use Rattle.lines.specs.Meaning.{Meaning, Put}
use Rattle.lines.specs.declared.refusal.Refusal.{Refusal}
use Rattle.station.specs.Inquiries.{written}
use Rattle.station.specs.Putting.{writable, PutsIf}

frame_long : (c : ℕ) (d : List ℕ) → length (frame_bytes c d) ≡ length d + 7
frame_long c d =
    omega (arith, length-append (covered c d) (stored (crc_of (covered c d)) ++ (0x03 ∷ [])), length-append (stored (crc_of (covered c d))) (0x03 ∷ []))

-- The first bytes of a memory to which a frame was written.
pub frame_first : (c : ℕ) (d before memory : List ℕ) (n : ℕ) → n ≡ length d + 7 → memory ≡ frame_bytes c d ++ drop (length d + 7) before → take n memory ≡ frame_bytes c d
frame_first c d before memory n counted is = ap (take n) is ∙ take_at (frame_bytes c d) (drop (length d + 7) before) n (frame_long c d ∙ sym counted)

-- A written frame that a line takes or refuses whole is put if the space suffices.
pub puts_whole : (line : Meaning) (c : ℕ) (d bytes : List ℕ) (r : Result (Unit {0}) Refusal) (after : Meaning) → bytes ≡ frame_bytes c d → Put line bytes r after
    → PutsIf (Some (record { cmd = c; body = d })) line after
unfolding written
puts_whole line c d bytes (Ok u) after is p =
    let same = ap length is in
    let fits = le-leb (length line.outgoing + length (frame_bytes c d)) line.capacity (omega (arith, p.outgoing_moves.fits)) in
    record { outgoing = p.outgoing_moves.gained ∙ ap (λ l. line.outgoing ++ l) is ∙ sym (cond-true _ _ _ fits); waiting = p.waiting_kept; capacity = p.capacity_kept }
puts_whole line c d bytes (Err e) after is p =
    let same = ap length is in
    let short = lt-leb (length line.outgoing + length (frame_bytes c d)) line.capacity (omega (arith, p.outgoing_moves.short)) in
    record { outgoing = p.outgoing_moves.kept ∙ sym (cond-false _ _ _ short); waiting = p.waiting_kept; capacity = p.capacity_kept }

-- A frame can be written with data that it can carry.
pub can_be_written : (c : ℕ) (d : List ℕ) → length d ≤ 250 → writable c d ≡ Some (record { cmd = c; body = d })
can_be_written c d few = cond-true _ _ _ (le-leb (length d) 250 few)
