-- What a card's pulse puts is whole frames.
use Rattle.std.proofs.Common.{◌≡◌, ℕ, List, [], ◌∷◌, ◌++◌, Some, None, Option, sym, refl, ap, ◌∙◌, append_assoc, append-nil}
use Rattle.std.proofs.lemmas.Bool.{cond_both}
use Rattle.frames.specs.Finding.{Found}
use Rattle.station.specs.Inquiries.{Frame, written}
use Rattle.station.specs.Stations.{put, has_space}
use Rattle.station.specs.Promises.{all_written}
use Rattle.boards.specs.Boards.{Kind}
use Rattle.card.specs.CardPulse.{Card, reply, replies}
use Rattle.card.specs.CardHistories.{History, made, ◌▸◌, Run, PutsWholeFrames}

-- Some bytes gained whole frames.
abbrev Gains : List ℕ → List ℕ → Type 0
Gains before after = (frames : List Frame) × (after ≡ before ++ all_written frames)

gains_none : (bytes : List ℕ) → Gains bytes bytes
gains_none bytes = ([], sym (append-nil bytes))

all_written_append : (fs gs : List Frame) → all_written (fs ++ gs) ≡ all_written fs ++ all_written gs
all_written_append [] gs = refl
all_written_append (f ∷ fs) gs = ap (λ l. written f ++ l) (all_written_append fs gs) ∙ sym (append_assoc (written f) (all_written fs) (all_written gs))

gains_more : (a b c : List ℕ) → Gains a b → Gains b c → Gains a c
gains_more a b c (fs, e) (gs, h) =
    (fs ++ gs, h ∙ ap (λ l. l ++ all_written gs) e ∙ append_assoc a (all_written fs) (all_written gs) ∙ ap (λ l. a ++ l) (sym (all_written_append fs gs)))

put_gains : (capacity : ℕ) (outgoing : List ℕ) (f : Option Frame) → Gains outgoing (put capacity outgoing f)
put_gains capacity outgoing None = gains_none outgoing
put_gains capacity outgoing (Some f) =
    cond_both (has_space capacity outgoing (written f)) (outgoing ++ written f) outgoing (Gains outgoing)
    (λ fits. (f ∷ [], ap (λ l. outgoing ++ l) (sym (append-nil (written f)))))
    (λ short. gains_none outgoing)

replies_gain : (kind : Kind) (capacity : ℕ) (findings : List (ℕ × Found)) (outgoing : List ℕ) → Gains outgoing (replies kind capacity findings outgoing)
replies_gain kind capacity [] outgoing = gains_none outgoing
replies_gain kind capacity ((place, v) ∷ more) outgoing =
    gains_more outgoing (put capacity outgoing (reply kind v)) (replies kind capacity more (put capacity outgoing (reply kind v)))
    (put_gains capacity outgoing (reply kind v)) (replies_gain kind capacity more (put capacity outgoing (reply kind v)))

pub puts_whole_frames : (kind : Kind) (history : History) (card : Card) → Run kind history card → PutsWholeFrames history
puts_whole_frames kind (made first) card run = tt
puts_whole_frames kind (earlier ▸ pulse) card (before, run, pulsed) =
    let line = pulse.line in
    let said = replies kind line.capacity pulsed.findings line.outgoing in
    let gained = gains_more line.outgoing said _ (replies_gain kind line.capacity pulsed.findings line.outgoing) (put_gains line.capacity said _) in
    (puts_whole_frames kind earlier before run, (gained.0, pulsed.outgoing ∙ gained.1))
