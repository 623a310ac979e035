-- The card's pulse as it is computed is a pulse by the rules: every card can be pulsed on every line.
use Rattle.std.proofs.Common.{◌++◌, length, refl, arith}
use Rattle.station.specs.Stations.{taken}
use Rattle.station.specs.Computing.{read_all}
use Rattle.station.proofs.Searches.{read_right}
use Rattle.card.specs.CardPulse.{holds_after_all}
use Rattle.card.specs.CardComputing.{ComputesThePulse}
use Rattle.card.proofs.Feeding.{same_as}

pub computes_the_pulse : ComputesThePulse
computes_the_pulse kind card line =
    let bytes = card.held ++ taken line in
    let now = holds_after_all kind (read_all bytes).findings card.holds in
    record {
      findings = (read_all bytes).findings;
      open_end = (read_all bytes).open_end;
      reads = read_right (length bytes) 0 bytes (omega arith);
      held = refl;
      holds = same_as now now refl;
      pending = refl;
      outgoing = refl;
      waits_on = refl;
      capacity = refl;
    }
