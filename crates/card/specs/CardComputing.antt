-- A card's pulse as a computation, by the search that reads all the bytes.
use Rattle.std.specs.Prelude.{◌++◌}
use Rattle.lines.specs.Meaning.{Meaning}
use Rattle.station.specs.Stations.{put, taken, left_waiting, unless_silent}
use Rattle.station.specs.Computing.{Read, read_all}
use Rattle.boards.specs.Boards.{Kind}
use Rattle.card.specs.Responses.{ticked, attempted, due_frame}
use Rattle.card.specs.CardPulse.{Card, replies, holds_after_all, pending_after_all, Pulsed}

-- What a pulse reads.
abbrev pub reads : Card → Meaning → Read
reads card line = read_all (card.held ++ taken line)

-- The card after a pulse that reads this.
abbrev pub card_after : Kind → Card → Meaning → Read → Card
card_after kind card line r = record {
  holds = holds_after_all kind r.findings card.holds;
  pending = attempted line.capacity (replies kind line.capacity r.findings line.outgoing) (ticked (pending_after_all kind r.findings card.holds card.pending));
  held = unless_silent (taken line) r.open_end;
}

-- The line after a pulse that reads this.
abbrev pub line_after : Kind → Card → Meaning → Read → Meaning
line_after kind card line r = record {
  waiting = left_waiting line;
  outgoing = put line.capacity (replies kind line.capacity r.findings line.outgoing) (due_frame (ticked (pending_after_all kind r.findings card.holds card.pending)));
  capacity = line.capacity;
}

-- Every card can be pulsed on every line, on every kind of board, and this is what comes of it.
abbrev pub ComputesThePulse : Type 0
ComputesThePulse =
    (kind : Kind) (card : Card) (line : Meaning) → Pulsed kind card line (card_after kind card line (reads card line)) (line_after kind card line (reads card line))
