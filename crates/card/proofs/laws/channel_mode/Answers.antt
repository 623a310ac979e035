-- The laws of the rules, with the mode of the channels.
use Rattle.card.proofs.PaperLaw.{equals_paper_card}
use Rattle.card.proofs.StretchLaw.{equals_paper_card_by_stretches}
use Rattle.card.proofs.WholeFrames.{puts_whole_frames}
use Rattle.card.proofs.laws.channel_mode.Goals as goal

pub returns : goal.returns
returns c = record { paper = equals_paper_card; stretches = equals_paper_card_by_stretches; whole = puts_whole_frames }
