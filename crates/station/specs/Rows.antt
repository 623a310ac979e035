-- What the rows of the table of commands mean.
use Rattle.std.specs.Prelude.{Some, None, Option}
use Rattle.station.specs.Commands.{Row, row}
use Rattle.station.specs.declared.command.Command.{Command}

-- A row as the rules have it.
abbrev pub row_told : Option Command → Option Row
row_told None = None
row_told (Some c) = Some (row c.cmd c.least c.most c.answer)
