use Rattle.std.proofs.Common.{◌≤◌, length, sym, subst, arith}
use Rattle.station.specs.Putting.{PutsIf}
use Rattle.station.proofs.FramesPut.{frame_first, puts_whole, can_be_written}
use Rattle.station.proofs.putting.put_frame.Goals as goal

pub returns-clause-put : goal.returns-clause-put
returns-clause-put g c =
    let w = c.in-Ok.ensures in
    let few : length c.args.data.now ≤ 250 = grind (arith, w.refused) in
    record {
      rule = subst (λ f. PutsIf f (g.L.Line.meaning c.args.line.now) (g.L.Line.meaning c.put.new.self)) (sym (can_be_written c.args.cmd c.args.data.now few))
          (puts_whole (g.L.Line.meaning c.args.line.now) c.args.cmd c.args.data.now _ c.put.result (g.L.Line.meaning c.put.new.self)
          (frame_first c.args.cmd c.args.data.now _ c.write.new.memory c.in-Ok.count w.answered w.written) c.put.ensures.put);
      fixed = c.put.ensures.fixed;
    }
