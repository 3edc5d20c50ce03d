-- What the list answers of the entries that are lent, and the others after them.
use Rattle.std.proofs.Common.{◌++◌, drop}
use Rattle.entries_listing.specs.Listing.{listing_worked}
use Rattle.entries_listing.proofs.work.Goals as goal

pub returns : goal.returns
unfolding listing_worked
returns c =
    let answered = c.night_list-answer.ensures in
    λ i. record { answer = answered.0 i; entries = answered.1 i ++ drop c.args.count c.args.listing.entries }
