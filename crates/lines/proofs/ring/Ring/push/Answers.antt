-- The byte is copied behind the last byte.
use Rattle.std.proofs.Common.{◌≡◌, [], ◌∷◌, ◌++◌, length, refl, ap, ◌∙◌, arith}
use Rattle.lines.specs.Rings.{held}
use Rattle.lines.proofs.RingBytes.{part_added}
use Rattle.lines.proofs.ring.Ring.push.Goals as goal

pub returns-clause-appended : goal.returns-clause-appended
returns-clause-appended c =
    let ring = c.args.self.now in
    let copied : c.copy_from_slice.new.self ≡ c.args.byte ∷ [] = c.copy_from_slice.ensures.after in
    record {
      fits = omega arith;
      gained =
          part_added ring.memory.now _ ring.head ring.len c.place-end.result _ _ ring.begins (ap length copied ∙ omega arith) (omega arith) (omega arith) (grind arith)
          (λ _. c.place-end.ensures.straight) (λ _. c.place-end.ensures.round)
          ∙ ap (λ part. held ring ++ part) copied;
    }
