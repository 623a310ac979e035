-- The stretch is copied behind the bytes sent before.
use Rattle.std.proofs.Common.{◌≡◌, ◌+◌, ◌-◌, ◌≤◌, ◌++◌, length, take, sym, refl, ap, ◌∙◌, arith, length-append, length-drop, length-take}
use Rattle.std.proofs.lemmas.Slice.{take-put_mid}
use Rattle.lines.proofs.tape.TapeLine.put.Goals as goal

pub invariant_of-self : goal.invariant_of-self
invariant_of-self c =
    let tape = c.args.self.now in
    let room : tape.len + length c.args.bytes.now ≤ 1024 =
    omega (arith, simp length-take at c.space.ensures.left, tape.whole, tape.within)
    in
    let copied : length c.copy_from_slice.new.self ≡ length c.args.bytes.now = ap length c.copy_from_slice.ensures.after in
    record { whole = simp (length-append, length-take, length-drop) (omega (arith, tape.whole, tape.within)); within = room }

pub returns : goal.returns
returns c =
    let tape = c.args.self.now in
    let bytes = c.args.bytes.now in
    let copied : c.copy_from_slice.new.self ≡ bytes = c.copy_from_slice.ensures.after in
    record {
      put =
          record {
            outgoing_moves =
                record {
                  fits = omega (arith, c.space.ensures.left);
                  gained =
                      take-put_mid tape.len ((tape.len + length bytes) - tape.len) tape.sent c.copy_from_slice.new.self (tape.len + length bytes)
                      (ap (λ n. tape.len + n) (sym (ap length copied))) (omega (arith, tape.whole, tape.within))
                      ∙ ap (λ part. take tape.len tape.sent ++ part) copied;
                };
            waiting_kept = refl;
            capacity_kept = refl;
          };
      fixed = refl;
    }
