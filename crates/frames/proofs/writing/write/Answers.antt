use Rattle.std.proofs.Common.{ap, ◌∙◌, arith, get_or, rules}
use Rattle.frames.specs.Crc.{crc_of}
use Rattle.frames.proofs.Appending.{filled, over, closed}
use Rattle.frames.proofs.writing.write.Goals as goal

pub returns : goal.returns
returns c =
    let memory = c.args.memory.now in
    let body = c.args.data.now in
    let room = c.if-memory-count.false in
    let full = filled memory body c.args.cmd room c.copy_from_slice.new.self c.copy_from_slice.ensures.after in
    record {
      refused = search rules;
      written = closed memory body c.args.cmd room _ c.crc.result _ _ full (c.crc.ensures ∙ ap crc_of (over memory body c.args.cmd room _ full))
          (ap (λ l. get_or l 0 0) c.to_le_bytes.ensures)
          (ap (λ l. get_or l 1 0) c.to_le_bytes.ensures ∙ (omega (arith, c.crc.type_inv)));
      answered = search rules;
    }
