-- A question is one step that changes nothing.
use Rattle.std.proofs.Common.{refl}
use Rattle.parameters.specs.Histories.{told_length}
use Rattle.parameters.proofs.RunLaw.{leads_on}
use Rattle.parameters.proofs.noted.ask_length.Goals as goal

pub returns-clause-law : goal.returns-clause-law
returns-clause-law g c =
    let held = g.S.Store.held c.args.store.now in
    λ h run. leads_on h (told_length c.args.number c.length.result) held held (c.length.ensures.length, λ p. refl) run
