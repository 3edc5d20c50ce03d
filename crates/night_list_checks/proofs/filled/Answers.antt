-- `night_list_checks::filled` meets its contract.
use Rattle.std.proofs.Common.{rules, ◌≡◌, refl, sym, ◌∙◌, cond, List, count_by}
use Rattle.std.proofs.lemmas.List.Recursion.{is_sum_by}
use Rattle.rules.specs.declared.Entry.{Entry}
use Rattle.rules.specs.NightList.{filled, marked}
use Rattle.night_list_checks.proofs.filled.Goals as goal

counted : (entries : List Entry) → marked entries ≡ count_by filled entries
unfolding marked
counted entries = is_sum_by marked (λ e. cond (filled e) 1 0) refl (λ e es. refl) entries

pub returns : goal.returns
returns c =
    let is : c.count.result ≡ count_by filled c.args.entries.now = search rules in
    is ∙ sym (counted c.args.entries.now)
