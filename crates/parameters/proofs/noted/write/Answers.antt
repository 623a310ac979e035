-- A write is one step.
use Rattle.std.proofs.Common.{is_ok}
use Rattle.parameters.specs.Histories.{wrote}
use Rattle.parameters.proofs.RunLaw.{leads_on}
use Rattle.parameters.proofs.noted.write.Goals as goal

pub returns-clause-law : goal.returns-clause-law
returns-clause-law g c =
    let done = c.write.ensures in
    λ h run. leads_on h (wrote c.args.number c.args.value.now (is_ok c.write.result))
    (g.S.Store.held c.args.store.now) (g.S.Store.held c.write.new.self) (done.taken, done.held) run
