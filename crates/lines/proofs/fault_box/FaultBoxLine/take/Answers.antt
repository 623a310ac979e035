-- A box takes from below until a byte comes out or none is left.
use Rattle.std.proofs.Common.{[], ◌∷◌, ◌++◌, refl, ◌∙◌}
use Rattle.lines.specs.Boxes.{Boxed, boxed}
use Rattle.lines.proofs.Draws.{drawn_more, drawn_out, taken_from_through}
use Rattle.lines.proofs.fault_box.FaultBoxLine.take.Goals as goal

pub loop-byte-preserved : goal.loop-byte-preserved
loop-byte-preserved g c = (
  c.loop-byte.invariant.0 ++ c.in-Some.byte ∷ [],
  drawn_more c.loop-byte.invariant.1 c.in-Some.ensures.taken c.min-self.ensures refl c.in_default-spoil.ensures.out,
  c.in-Some.ensures.fixed ∙ c.loop-byte.invariant.2,
)

pub returns-in-Some-spoil-clause-through : goal.returns-in-Some-spoil-clause-through
returns-in-Some-spoil-clause-through g c =
    drawn_out c.loop-byte.invariant.1 c.in-Some.ensures.taken c.min-self.ensures refl c.in-Some-spoil.ensures.out

pub returns-in-Some-spoil-clause-taken : goal.returns-in-Some-spoil-clause-taken
returns-in-Some-spoil-clause-taken g c =
    let after : Boxed = record { setting = record { script = c.loop-byte.self.script; position = c.min-self.result }; below = g.L.Line.meaning c.take.new.self } in
    taken_from_through (boxed g.L.Line.meaning c.args.self.now) after _ (drawn_out {after = after} c.loop-byte.invariant.1 c.in-Some.ensures.taken c.min-self.ensures refl c.in-Some-spoil.ensures.out)
