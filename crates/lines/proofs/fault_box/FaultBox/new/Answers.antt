-- A new box means the line below.
use Rattle.std.proofs.Common.{rules}
use Rattle.lines.proofs.Draws.{empty_is_clear, position_counts_bytes}
use Rattle.lines.proofs.fault_box.FaultBox.new.Goals as goal

pub returns-clause-same : goal.returns-clause-same
returns-clause-same g c =
    empty_is_clear (record { setting = record { script = c.default.result; position = 0 }; below = g.L.Line.meaning c.args.below }) (search rules)

pub returns-clause-clear : goal.returns-clause-clear
returns-clause-clear g c = empty_is_clear

pub returns-clause-counting : goal.returns-clause-counting
returns-clause-counting g c = position_counts_bytes
