-- A star that is refused, or its place.
use Rattle.std.proofs.Common.{rules, ◌≡◌, sym, ap, ◌∙◌, false}
use Rattle.rules.specs.Stars.{star_refused}
use Rattle.rules.specs.ListReading.{fresh_entry}
use Rattle.rules.specs.NightList as nights
use Rattle.night_list_checks.proofs.worked.Goals as goal

pub returns-then-star_refused : goal.returns-then-star_refused
unfolding nights.worked fresh_entry
returns-then-star_refused c = let out = sym c.star_refused.ensures ∙ c.if-star_refused.true in simp out (search rules)

pub place_in-requires : goal.place_in-requires
place_in-requires c = sym c.star_refused.ensures ∙ c.if-star_refused.false

pub returns : goal.returns
unfolding nights.worked fresh_entry
returns c =
    let accepted : star_refused c.args.star ≡ false = sym c.star_refused.ensures ∙ c.if-star_refused.false in
    simp accepted (c.entry_of.ensures ∙ ap (nights.entry_of c.args.star) c.place_in.ensures)
