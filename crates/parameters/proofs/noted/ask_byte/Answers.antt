-- A question is one step that changes nothing.
use Rattle.std.proofs.Common.{refl}
use Rattle.parameters.specs.Histories.{told_byte}
use Rattle.parameters.proofs.RunLaw.{leads_on}
use Rattle.parameters.proofs.noted.ask_byte.Goals as goal

pub returns-clause-law : goal.returns-clause-law
returns-clause-law g c =
    let held = g.S.Store.held c.args.store.now in
    λ h run. leads_on h (told_byte c.args.number c.args.place c.byte.result) held held (c.byte.ensures.byte, λ p. refl) run
