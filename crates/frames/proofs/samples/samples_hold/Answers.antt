use Rattle.std.proofs.Common.{refl}
use Rattle.frames.specs.Crc.{shift, shift_once}
use Rattle.frames.proofs.Searching.{search_is_the_rule}
use Rattle.frames.proofs.samples.samples_hold.Goals as goal

pub returns : goal.returns
unfolding shift shift_once
returns c = record { computed = refl; hold = refl; rule = search_is_the_rule }
