-- What the places end as, once the loan of an inquiry is over.
use Rattle.std.specs.Prelude.{◌≡◌, Bool, Option, OnSome, List}
use Rattle.std.specs.Borrow.{Fml, MutBor, LendsSo}
use Rattle.station.specs.Inquiries as rules
use Rattle.station.specs.Stations.{change}
use Rattle.station.specs.contracts.inquiry.Inquiry.{the_row as inquiry_row}
use Rattle.station.specs.contracts.places.Places.{the_row as places_row}
use Rattle.station.specs.Tables.{Tests}

-- The first inquiry that is as asked is what was left behind the loan; where none is, nothing changes.
abbrev pub LendsFirst : (rules.Inquiry → Bool → Type 0) → MutBor (List rules.Inquiry) → Option (MutBor rules.Inquiry) → Fml
LendsFirst Gives s r =
    LendsSo places_row inquiry_row s r (λ n w. OnSome r ((test : rules.Stage → Bool) → Tests Gives test → n ≡ change test (λ q. w) s.now)) (λ n. n ≡ s.now)
