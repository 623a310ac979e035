use Rattle.std.proofs.Common.{◌≡◌, ◌<◌, ◌⊎◌, ◌≤◌, [], length}
use Rattle.decode.proofs.decoder.Decoder.read.Given as goal

abbrev pub invariant-loop-self : goal.invariant-loop-self
invariant-loop-self l = record {
  within : length l.rest ≤ length l.stretch;
  some : (l.self.lines ≡ []) ⊎ (length l.rest < length l.stretch);
}

abbrev pub decreases-loop-self : goal.decreases-loop-self
decreases-loop-self l = length l.rest
