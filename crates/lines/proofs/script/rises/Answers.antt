-- Each position is compared with the next.
use Rattle.std.proofs.Common.{nat_lt, rules}
use Rattle.std.proofs.lemmas.List.Sorted.{answers_always}
use Rattle.lines.proofs.Rising.{rising_from_neighbours}
use Rattle.lines.proofs.script.rises.Goals as goal

pub returns : goal.returns
returns c =
    record { told = rising_from_neighbours c.args.entries.now _ (c.is_sorted_by.ensures.cases (λ entry other. nat_lt entry.position other.position) (answers_always _ _ _ (λ a r f k. search rules))) }
