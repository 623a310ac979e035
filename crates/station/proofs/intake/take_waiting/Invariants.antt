use Rattle.std.proofs.Common.{◌≡◌, ◌-◌, length}
use Rattle.station.proofs.Draining.{SoFar}
use Rattle.station.proofs.intake.take_waiting.Given as goal

abbrev pub invariant-loop-line : goal.invariant-loop-line
invariant-loop-line g l =
    SoFar (g.L.Line.meaning l.initial.line) l.bytes.items (g.L.Line.meaning l.line)
    × (g.L.Line.fixed l.line ≡ g.L.Line.fixed l.initial.line)

abbrev pub decreases-loop-line : goal.decreases-loop-line
decreases-loop-line g l = 300 - length l.bytes.items
