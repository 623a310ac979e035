use Rattle.std.proofs.Common.{◌≡◌, ◌-◌, length, take, drop, sym, refl, ap, subst, ◌∙◌, arith, length-drop}
use Rattle.std.proofs.lemmas.Bool.{eqb-true, eqb-false}
use Rattle.std.proofs.lemmas.List.{take_all}
use Rattle.frames.specs.Promises.{CutAnywhere}
use Rattle.frames.specs.Reading.{thing, found, holds}
use Rattle.frames.specs.Finding.{Begun}
use Rattle.frames.proofs.Holding.{begun_held}
use Rattle.station.specs.Stations.{Station}
use Rattle.station.specs.Tables.{OneAtATime}
use Rattle.station.proofs.HeardOn.{none_taken, none_heard, one_heard, all_heard}
use Rattle.station.proofs.station.Station.read.Goals as goal

pub returns-then-is_empty : goal.returns-then-is_empty
returns-then-is_empty g c =
    let taking = c.take_waiting-taken.ensures in
    let none = eqb-true _ _ (sym c.if-is_empty.ensures) in
    rw (← c.self.view_is) (record { heard = record { rule = none_taken _ _ _ _ (begun_held c.self.inside.reader) (ap length (sym taking.bytes) ∙ none) c.forget.ensures refl refl refl taking.drained.rule; fixed = taking.drained.fixed } })

pub loop-unread-init : goal.loop-unread-init
loop-unread-init g c = (none_heard _ _ _ (subst (λ (s : Station). Begun s.held) c.self.view_is (begun_held c.self.inside.reader)), refl)

pub loop-unread-preserved-in-Some : goal.loop-unread-preserved-in-Some
loop-unread-preserved-in-Some g c =
    let inv = c.loop-unread.invariant in
    let told = c.handle.ensures in
    let unread = c.loop-unread.unread.now in
    let used = c.read-finding.result.1 in
    let left : take (length unread - used) (drop used unread) ≡ drop used unread = take_all _ _ (omega (arith, length-drop used unread)) in
    let view = c.self-in-loop-unread.view_is in
    let cut = subst (λ o. CutAnywhere c.loop-unread.self.held unread (found o) used (holds c.read-finding.new.self)) c.in-Some.is
    (subst (λ (s : Station). CutAnywhere s.held unread (found c.read-finding.result.0) used (holds c.read-finding.new.self)) view c.read-finding.ensures.cut) in
    let alone = subst (λ (s : Station). OneAtATime s.places) c.self.view_is c.self.invariant in (
      rw left (one_heard _ _ _ _ c.loop-unread.self _ used _ alone inv.0 (ap (λ s. s.places) view) (ap (λ s. s.mark) view) (ap (λ s. s.next) view) (thing c.in-Some.finding) _ _ cut told.handled.rule),
      told.handled.fixed ∙ inv.1,
    )

pub returns : goal.returns
returns g c =
    let taking = c.take_waiting-taken.ensures in
    let some = λ (e : length c.as_slice-unread.result.now ≡ 0). eqb-false _ _ (sym c.if-is_empty.ensures) (ap length (sym c.as_slice-unread.ensures.value) ∙ e) in
    record {
      heard = record {
        rule = all_heard c.args.self.now _ _ _ _ c.loop-unread.unread.now c.as_slice-unread.result.now
            (eqb-true _ 0 (sym c.loop-unread-test.ensures)) (c.as_slice-unread.ensures.value ∙ taking.bytes) some taking.drained.rule c.loop-unread.invariant.0;
        fixed = c.loop-unread.invariant.1 ∙ taking.drained.fixed;
      };
    }
