-- `night_list_checks::night_for` meets its contract.
use Rattle.std.proofs.Common.{rules, sym, lt-ltb, le-ltb}
use Rattle.rules.specs.ListFile.{most_records}
use Rattle.night_list_checks.specs.Checks.{night_for}
use Rattle.night_list_checks.proofs.night_for.Goals as goal

pub returns-in_err-night : goal.returns-in_err-night
unfolding night_for
returns-in_err-night c =
    let e = sym c.in_err-night.ensures in
    rw e (search rules)

pub returns-then-count-gt-MOST_RECORDS : goal.returns-then-count-gt-MOST_RECORDS
unfolding night_for
returns-then-count-gt-MOST_RECORDS c =
    let e = sym c.in_ok-night.ensures in
    let many = lt-ltb most_records c.args.count c.if-count-gt-MOST_RECORDS.true in
    rw (e, many)

pub returns : goal.returns
unfolding night_for
returns c =
    let e = sym c.in_ok-night.ensures in
    let few = le-ltb most_records c.args.count c.if-count-gt-MOST_RECORDS.false in
    rw (e, few)
