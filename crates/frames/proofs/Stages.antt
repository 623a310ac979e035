-- Stages that a reader can be at.
use Rattle.std.proofs.Common.{◌≡◌, ℕ, ◌<◌, arith}
use Rattle.frames.specs.declared.reader.Stage.TheVariants.{Hunting, Body}
use Rattle.frames.specs.Finding.{Sized}
use Rattle.frames.specs.Stages.{Unfinished}

pub hunts : Unfinished Hunting
hunts n got e = cc

pub gathers : (n got : ℕ) → Sized n → got < n → Unfinished (Body n got)
gathers n got fits less m k e =
    let a : n ≡ m = cc in
    let b : got ≡ k = cc in
    ((omega (arith, fits.0), omega (arith, fits.1)), omega (arith, less))
