-- `list_from_numbers::any_refused` meets its contract.
use Rattle.std.proofs.Common.{rules, ◌≡◌, refl, ◌∙◌, ap, List, [], ◌∷◌, map, ◌||◌, ℤ}
use Rattle.std.proofs.lemmas.Iterator.{YieldsList-from_slice}
use Rattle.std.proofs.lemmas.Iterator.Search.{any_from_yields_List}
use Rattle.std.specs.List.{list_any}
use borrow.Author.Tests.{tests}
use Rattle.rules.specs.Stars.{star_refused}
use Rattle.rules.specs.ListFile.{any_refused}
use Rattle.rules.specs.ListWriting.{star_from}
use Rattle.list_from_numbers.proofs.any_refused.Goals as goal

any_star : (rows : List (List ℤ)) → list_any (λ row. star_refused (star_from row)) rows ≡ any_refused (map star_from rows)
unfolding any_refused
any_star [] = refl
any_star (row ∷ rows) = ap (λ t. star_refused (star_from row) || t) (any_star rows)

pub returns : goal.returns
unfolding star_from
returns c =
    let rows = c.args.stars.now in
    any_from_yields_List (λ row. star_refused (star_from row)) _ _ c.any.result c.any.ensures.ran
    (YieldsList-from_slice rows c.iter.ensures.rest)
    (λ x b q k. search (rules, tests))
    ∙ any_star rows
