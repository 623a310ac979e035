use Rattle.station.proofs.AnswersRead.{answers_were_read}
use Rattle.station.proofs.promises.address_length.Goals as goal

pub returns-clause-law : goal.returns-clause-law
returns-clause-law c = answers_were_read
