use Rattle.std.proofs.Common.{refl, rules}
use Rattle.frames.specs.Crc.{shift, shift_once}
use Rattle.frames.proofs.CheckValue.{by_table}
use Rattle.frames.proofs.crc.stepped.Goals as goal

pub returns : goal.returns
unfolding shift shift_once
returns c = by_table c.args.value c.args.byte (search rules) _ refl
