-- The fields of the parameters so far are sound, and their values are at hand.
use Rattle.std.proofs.Common.{take}
use Rattle.parameters.specs.Parameters.{parameters}
use Rattle.parameters.specs.Tables.{table_held}
use Rattle.parameters.proofs.Opening.{ReadSoFar}
use Rattle.parameters.proofs.table.TableStore.read.Given as goal

abbrev pub invariant-loop-row : goal.invariant-loop-row
invariant-loop-row l = ReadSoFar l.image (table_held l.table) (take l.row-index parameters)
