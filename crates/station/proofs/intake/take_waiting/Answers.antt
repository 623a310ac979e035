use Rattle.std.proofs.Common.{◌≡◌, length, sym}
use Rattle.std.proofs.lemmas.Bool.{eqb-true}
use Rattle.station.proofs.Draining.{all_taken, most_taken}
use Rattle.station.proofs.intake.take_waiting.Goals as goal

pub returns-in_default : goal.returns-in_default
returns-in_default g c =
    let told = c.in_default.ensures.taken in
    let all = all_taken _ _ _ c.loop-line.invariant.0 (g.L.Line.meaning c.take.new.self) told.waiting_moves.0 told.waiting_moves.1 told.outgoing_kept told.capacity_kept in
    record { bytes = all.0; drained = record { rule = all.1; fixed = cc } }

pub returns : goal.returns
returns g c =
    let full : length c.loop-line.bytes.items ≡ 300 = eqb-true _ _ (sym c.loop-line-test.ensures.value) in
    let all = most_taken _ _ _ c.loop-line.invariant.0 full in
    record { bytes = all.0; drained = record { rule = all.1; fixed = c.loop-line.invariant.1 } }
