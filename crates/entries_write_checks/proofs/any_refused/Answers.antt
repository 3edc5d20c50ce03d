-- `entries_write_checks::any_refused` meets its contract.
use Rattle.std.proofs.Common.{rules, ◌≡◌, refl, ◌∙◌, ap, List, [], ◌∷◌, ◌||◌}
use Rattle.std.proofs.lemmas.Iterator.{YieldsList-from_slice}
use Rattle.std.proofs.lemmas.Iterator.Search.{any_from_yields_List}
use Rattle.std.specs.List.{list_any}
use borrow.Author.Tests.{tests}
use Rattle.rules.specs.declared.Entry.{Entry}
use Rattle.rules.specs.Stars.{star_refused}
use Rattle.rules.specs.ListFile.{any_refused}
use Rattle.rules.specs.ListWriting.{stars_of}
use Rattle.entries_write_checks.proofs.any_refused.Goals as goal

any_star : (entries : List Entry) → list_any (λ e. star_refused e.star) entries ≡ any_refused (stars_of entries)
unfolding any_refused stars_of
any_star [] = refl
any_star (e ∷ entries) = ap (λ t. star_refused e.star || t) (any_star entries)

pub returns : goal.returns
returns c =
    let entries = c.args.entries.now in
    any_from_yields_List (λ e. star_refused e.star) _ _ c.any.result c.any.ensures.ran
    (YieldsList-from_slice entries c.iter.ensures.rest)
    (λ x b q k. search (rules, tests))
    ∙ any_star entries
