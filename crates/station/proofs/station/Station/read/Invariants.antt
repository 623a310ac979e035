-- All that was found so far is handled, and what is unread gets shorter.
use Rattle.std.proofs.Common.{◌≡◌, length}
use Rattle.station.proofs.HeardOn.{SoHeard}
use Rattle.station.proofs.station.Station.read.Given as goal

abbrev pub invariant-loop-unread : goal.invariant-loop-unread
invariant-loop-unread g l =
    SoHeard l.initial.self (g.L.Line.meaning l.initial.line) l.initial.unread l.unread l.self (g.L.Line.meaning l.line)
    × (g.L.Line.fixed l.line ≡ g.L.Line.fixed l.initial.line)

abbrev pub decreases-loop-unread : goal.decreases-loop-unread
decreases-loop-unread g l = length l.unread
