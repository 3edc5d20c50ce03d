-- The array of blanks, read into.
use Rattle.std.proofs.Common.{rules, ◌≡◌, ◌∙◌, ap}
use Rattle.std.specs.Prelude.{replicate}
use Rattle.rules.specs.declared.Entry.{Entry}
use Rattle.rules.specs.ListReading.{list_read, entries_after_read}
use Rattle.entries_listing.specs.declared.Listing.{Listing}
use Rattle.entries_listing.specs.Listing.{blank, blanks, listing_read}
use Rattle.entries_listing.proofs.read.Goals as goal

pub returns : goal.returns
unfolding listing_read blanks
returns c =
    let file = c.args.file.now in
    let answered = c.read_list-answer.ensures in
    let read : (e : Entry) → Listing =
    λ e. record { answer = list_read file (replicate 64 e); entries = entries_after_read file (replicate 64 e) } in
    let noughts : c.default-entries.result ≡ blank = search rules in
    (λ i. record { answer = answered.0 i; entries = answered.1 i }) ∙ ap read noughts
