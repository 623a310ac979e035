use Rattle.std.proofs.Common.{◌≡◌, ◌*◌, take}
use Rattle.decode.specs.Hex.{hex_text}
use Rattle.decode.proofs.hex.write_all.Given as goal

abbrev pub invariant-loop-i : goal.invariant-loop-i
invariant-loop-i l = take (3 * l.i) l.place ≡ hex_text (take l.i l.bytes)
