use Rattle.std.proofs.Common.{sym}
use Rattle.station.proofs.Cases.{all_hold}
use Rattle.station.proofs.Searches.{computes_the_pulse}
use Rattle.station.proofs.samples.samples_hold.Goals as goal

pub returns : goal.returns
returns c = record { computed = sym all_hold; hold = all_hold; rule = computes_the_pulse }
