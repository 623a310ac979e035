-- No lawful value has more bytes than a frame can carry.
use Rattle.std.proofs.Common.{◌≡◌, true, leb, refl}
use Rattle.parameters.specs.declared.parameter.Parameter.{Parameter}
use Rattle.parameters.specs.Images.{width_of}
use Rattle.parameters.proofs.EachParameter.{each_parameter}

pub widest : (p : Parameter) → leb (width_of p) 241 ≡ true
widest = each_parameter (λ p. leb (width_of p) 241 ≡ true) refl refl refl refl refl refl refl refl refl refl
