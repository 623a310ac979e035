-- Both parts of the stretch are copied behind the last byte.
use Rattle.std.proofs.Common.{◌≡◌, ◌++◌, length, ap, ◌∙◌, arith, take-append-drop}
use Rattle.lines.specs.Rings.{held}
use Rattle.lines.proofs.RingBytes.{stretch_added}
use Rattle.lines.proofs.ring.Ring.append.Goals as goal

pub returns-clause-appended : goal.returns-clause-appended
returns-clause-appended c =
    let ring = c.args.self.now in
    let bytes = c.args.bytes.now in
    let front : length c.copy_from_slice.new.self ≡ length c.split_at.result.0.now = ap length c.copy_from_slice.ensures.after in
    let back : length c.copy_from_slice-2.new.self ≡ length c.split_at.result.1.now = ap length c.copy_from_slice-2.ensures.after in
    let whole : c.copy_from_slice.new.self ++ c.copy_from_slice-2.new.self ≡ bytes = cc (take-append-drop c.min.result bytes) in
    record {
      fits = omega arith;
      gained =
          stretch_added ring.memory.now _ _ ring.head ring.len c.place-start.result _ _ _ ring.begins
          c.place-start.ensures.straight c.place-start.ensures.round (omega arith) (omega arith) (omega arith) (omega arith) (omega arith)
          ∙ ap (λ part. held ring ++ part) whole;
    }
