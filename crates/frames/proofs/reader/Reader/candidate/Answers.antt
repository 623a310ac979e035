use Rattle.std.proofs.Common.{◌≡◌, ℕ, ◌<◌, ◌++◌, length, sym, refl, subst, arith}
use Rattle.std.proofs.lemmas.List.{nil_from_length, take_rest}
use Rattle.frames.specs.declared.reader.Stage.{Stage}
use Rattle.frames.specs.declared.reader.Stage.TheVariants.{Hunting, Sync, Start, Body}
use Rattle.frames.specs.Finding.{Waits}
use Rattle.frames.specs.Reading.{found, holds, Opened, Reads}
use Rattle.frames.proofs.Holding.{still}
use Rattle.frames.proofs.Gathering.{drops_length, goes_on}
use Rattle.frames.proofs.reader.Reader.candidate.Goals as goal

pub returns-in_default : goal.returns-in_default
returns-in_default c =
    let empty : length c.args.stretch.now ≡ 0 = omega (arith, c.in_default.len_below) in
    (sym empty, subst (λ l. Waits (holds c.args.self.now ++ l) (holds c.args.self.now)) (sym (nil_from_length _ empty)) (still c.args.self.now))

-- hunting is over and no body is being gathered: the stage is the start
started : (s : Stage) → Opened s → ((n got : ℕ) → s ≡ Body n got → ⊥) → s ≡ Start
started Hunting o other = absurd o
started Sync o other = absurd o
started Start o other = refl
started (Body n got) o other = absurd (other n got refl)

pub returns-then-not-measure : goal.returns-then-not-measure
returns-then-not-measure c =
    let some : 0 < length c.args.stretch.now = omega arith in
    let at_start = started c.args.self.now.stage (c.requires some) c.in_default-stage.not-Body in
    let told = c.if-not-measure.ensures in
    drops_length c.args.self.now c.measure.new.self c.args.stretch.now at_start told.1 some told.0

pub returns : goal.returns
returns c =
    let some : 0 < length c.args.stretch.now = omega arith in
    let at_start = started c.args.self.now.stage (c.requires some) c.in_default-stage.not-Body in
    let told = c.if-not-measure.ensures in
    goes_on c.args.self.now c.measure.new.self c.args.stretch.now (holds c.gather-finding.new.self) _ c.gather-finding.result.1 at_start some told.0 told.1
    (subst (λ l. Reads (holds c.measure.new.self) l (found c.gather-finding.result.0) c.gather-finding.result.1 (holds c.gather-finding.new.self))
    (take_rest c.args.stretch.now 1) c.gather-finding.ensures)
