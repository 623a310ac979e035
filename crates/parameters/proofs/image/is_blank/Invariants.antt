-- Whether the bytes so far are all 0.
use Rattle.std.proofs.Common.{◌≡◌, take}
use Rattle.parameters.specs.Images.{blank}
use Rattle.parameters.proofs.image.is_blank.Given as goal

abbrev pub invariant-loop-byte : goal.invariant-loop-byte
invariant-loop-byte l = l.blank ≡ blank (take l.byte-index l.bytes)
