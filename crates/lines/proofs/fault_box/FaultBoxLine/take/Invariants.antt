-- What holds while a box takes bytes that are lost, and why that ends.
use Rattle.std.proofs.Common.{◌≡◌, List, [], length}
use Rattle.lines.specs.Boxes.{boxed, Drawn}
use Rattle.lines.proofs.fault_box.FaultBoxLine.take.Given as goal

-- The bytes drawn so far were lost.
abbrev pub invariant-loop-byte : goal.invariant-loop-byte
invariant-loop-byte g l =
    (drawn : List _)
    × Drawn (boxed g.L.Line.meaning l.initial.self) drawn [] (boxed g.L.Line.meaning l.self)
    × (g.L.Line.fixed l.self.below ≡ g.L.Line.fixed l.initial.self.below)

abbrev pub decreases-loop-byte : goal.decreases-loop-byte
decreases-loop-byte g l = length (g.L.Line.meaning l.self.below).waiting
