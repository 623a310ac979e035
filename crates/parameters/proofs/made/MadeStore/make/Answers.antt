-- Opened bytes make an image store; refused ones a table store with the first values.
use Rattle.std.proofs.Common.{◌≡◌, ℕ, sym, ap, ◌∙◌, arith}
use Rattle.parameters.specs.ImageStores.{made_values}
use Rattle.parameters.proofs.made.MadeStore.make.Goals as goal

pub returns-in-Ok-clause-over : goal.returns-in-Ok-clause-over
returns-in-Ok-clause-over c = (sym c.in-Ok.ensures.cause, c.in-Ok.ensures.step)

pub returns-in-Ok-clause-held : goal.returns-in-Ok-clause-held
returns-in-Ok-clause-held c =
    λ p. c.in-Ok.ensures.held p ∙ ap (λ o. made_values o c.args.image.now p) c.in-Ok.ensures.cause

pub returns-in-Err-clause-over : goal.returns-in-Err-clause-over
returns-in-Err-clause-over c =
    let cause = c.in-Err.ensures.cause in
    (λ opens. let both = cause ∙ opens in let zero_one : ◌≡◌ {A = ℕ} 0 1 = cc in omega arith, c.in-Err.ensures.bytes)

pub returns-in-Err-clause-held : goal.returns-in-Err-clause-held
returns-in-Err-clause-held c =
    λ p. c.new.ensures.first p ∙ ap (λ o. made_values o c.args.image.now p) c.in-Err.ensures.cause
