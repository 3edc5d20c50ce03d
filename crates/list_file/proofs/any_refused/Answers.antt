-- `list_file::any_refused` meets its contract.
use Rattle.std.proofs.Common.{rules, ◌≡◌, refl, ◌∙◌, ap, List, [], ◌∷◌, map, ℕ, ◌/◌, ◌||◌, length}
use Rattle.std.proofs.lemmas.Iterator.{YieldsList-from_slice}
use Rattle.std.proofs.lemmas.Iterator.Search.{any_from_yields_List}
use Rattle.std.specs.List.{list_any}
use Rattle.std.specs.Simd.{first_chunks}
use borrow.Author.Tests.{tests}
use Rattle.rules.specs.Stars.{star_refused}
use Rattle.rules.specs.ListFile.{record_length, star_in, any_refused}
use Rattle.laws.specs.Records.{stars_of_chunks}
use Rattle.list_file.proofs.any_refused.Goals as goal

any_star : (rows : List (List ℕ)) → list_any (λ bytes. star_refused (star_in bytes)) rows ≡ any_refused (map star_in rows)
unfolding any_refused
any_star [] = refl
any_star (bytes ∷ rows) = ap (λ t. star_refused (star_in bytes) || t) (any_star rows)

pub returns : goal.returns
returns c =
    let bytes = c.args.records.now in
    let count = length bytes / record_length in
    let rows = first_chunks record_length count bytes in
    any_from_yields_List (λ bytes. star_refused (star_in bytes)) _ _ c.any.result c.any.ensures.ran
    (YieldsList-from_slice rows (c.iter.ensures.rest ∙ c.as_chunks.ensures.front))
    (λ x b q k. search (rules, tests))
    ∙ any_star rows ∙ ap any_refused (stars_of_chunks count bytes)
