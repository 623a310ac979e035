use Rattle.std.proofs.Common.{◌<◌, length, arith}
use Rattle.frames.specs.declared.reader.Stage.TheVariants.{Sync}
use Rattle.frames.proofs.Holding.{still, waits_at}
use Rattle.frames.proofs.Hunting.{sync_then_stx, sync_then_other}
use Rattle.frames.proofs.reader.Reader.hunt.Goals as goal

pub returns-in-Sync-empty-clause-waits : goal.returns-in-Sync-empty-clause-waits
returns-in-Sync-empty-clause-waits c = still c.args.self.now

pub returns-in-Sync-len1-up-clause-waits : goal.returns-in-Sync-len1-up-clause-waits
returns-in-Sync-len1-up-clause-waits c =
    waits_at c.args.self.now Sync _ _ c.in-Sync-len1-up.is-0 (sync_then_stx c.args.stretch.now (omega arith) c.if-first-eq-STX.true)

pub returns-in-Sync-default-clause-waits : goal.returns-in-Sync-default-clause-waits
returns-in-Sync-default-clause-waits c =
    let some : 0 < length c.args.stretch.now = omega (arith, c.in-Sync-len1-up.len_at_least) in
    let told = c.search-in-Sync-default.ensures in
    waits_at c.args.self.now Sync _ _ c.in-Sync-default.is-0
    (sync_then_other c.args.stretch.now _ _ (told.some some) some c.if-first-eq-STX.false told.waits)

pub returns-in-Start-default-clause-waits : goal.returns-in-Start-default-clause-waits
returns-in-Start-default-clause-waits c = still c.args.self.now
