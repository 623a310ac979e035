use Rattle.std.proofs.Common.{◌≡◌, ◌+◌, ◌*◌, arith}
use Rattle.station.proofs.InTime.{ends_in_time}
use Rattle.station.proofs.promises.latest_end.Goals as goal

pub returns : goal.returns
returns c =
    let same : c.from.result ≡ c.args.unfinished = omega arith in
    record { number = omega arith; law = ends_in_time c.args.unfinished (71 + 70 * c.from.result) (omega arith) }
