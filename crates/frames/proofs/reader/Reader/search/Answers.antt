use Rattle.std.proofs.Common.{◌≡◌, ◌-◌, length, take, get_or, sym, refl, subst, arith}
use Rattle.frames.specs.declared.reader.Stage.{Stage}
use Rattle.frames.specs.declared.reader.Stage.TheVariants.{Hunting, Sync}
use Rattle.frames.specs.Finding.{Waits}
use Rattle.frames.specs.Reading.{begun}
use Rattle.frames.proofs.Hunting.{start_held, sync_held, none_held}
use Rattle.frames.proofs.reader.Reader.search.Goals as goal
use Rattle.frames.proofs.reader.Reader.search.Goals.{in-len1-up, in_default-stretch, in_default-stretch-2}

pub returns-in-Some-clause-waits : goal.returns-in-Some-clause-waits
returns-in-Some-clause-waits c = let at = c.in-Some.ensures.start in start_held _ _ at.within at.first at.sync at.stx

pub returns-clause-waits : goal.returns-clause-waits
returns-clause-waits c =
    let bytes = c.args.stretch.now in
    let n = length bytes in
    let unmarked = c.in_default.ensures.none in
    -- what is held at a stage
    let at : (s : Stage) → c.if-stretch-lt1.self ≡ s → Waits (take n bytes) (begun s c.args.self.now.body) → Waits (take n bytes) (begun c.if-stretch-lt1.self c.args.self.now.body) =
    λ s e w. subst (λ t. Waits (take n bytes) (begun t c.args.self.now.body)) (sym e) w in
    elim c.if-stretch-lt1.branch [
      | in-len1-up w ↦ at Sync w.self-is (sync_held bytes n (n - 1) (omega arith) refl unmarked w.if-last.true)
      | in_default-stretch w ↦ at Hunting w.self-is (none_held bytes n refl unmarked (λ m e sync. omega arith))
      | in_default-stretch-2 w ↦ at Hunting w.self-is
          (none_held bytes n refl unmarked (λ m e sync. w.if-last.false (subst (λ i. get_or bytes i 0 ≡ 0xFF) (let z : m ≡ n - 1 = omega arith in z) sync)))
    ]
