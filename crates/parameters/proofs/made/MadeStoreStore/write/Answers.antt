-- A write goes to the store that was made.
use Rattle.std.proofs.Common.{sym, ap, ◌∙◌, subst}
use Rattle.parameters.specs.ImageStores.{made_held, MadeOver}
use Rattle.parameters.specs.Values.{after_write}
use Rattle.parameters.proofs.made.MadeStoreStore.write.Goals as goal

pub returns-in-Image-clause-held : goal.returns-in-Image-clause-held
returns-in-Image-clause-held c =
    λ p. c.write.ensures.held p ∙ ap (λ m. after_write (made_held m) c.args.number c.args.value.now p) (sym c.in-Image.is)

pub returns-in-Image-clause-over : goal.returns-in-Image-clause-over
returns-in-Image-clause-over c =
    λ handed was. let o = subst (λ m. MadeOver m handed) c.in-Image.is was in (o.0, c.write.ensures.over handed o.1)

pub returns-in-Table-clause-over : goal.returns-in-Table-clause-over
returns-in-Table-clause-over c = λ handed was. subst (λ m. MadeOver m handed) c.in-Table.is was
