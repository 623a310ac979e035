use Rattle.std.proofs.Common.{sym}
use Rattle.card.proofs.CardCases.{all_hold}
use Rattle.card.proofs.CardPulsed.{computes_the_pulse}
use Rattle.card.proofs.samples.samples_hold.Goals as goal

pub returns : goal.returns
returns c = record { computed = sym all_hold; hold = all_hold; rule = computes_the_pulse }
