-- `entries_read_checks::read_into` meets its contract.
use Rattle.std.proofs.Common.{rules, sym, lt-ltb, le-ltb}
use Rattle.rules.specs.ListReading.{read_into}
use Rattle.entries_read_checks.proofs.read_into.Goals as goal

pub returns-in_err-count : goal.returns-in_err-count
unfolding read_into
returns-in_err-count c =
    let e = sym c.in_err-count.ensures in
    rw e (search rules)

pub returns-then-room-count : goal.returns-then-room-count
unfolding read_into
returns-then-room-count c =
    let e = sym c.in_ok-count.ensures in
    let small = lt-ltb c.args.room c.in_ok-count.count c.if-room-count.true in
    rw (e, small)

pub returns : goal.returns
unfolding read_into
returns c =
    let e = sym c.in_ok-count.ensures in
    let enough = le-ltb c.args.room c.in_ok-count.count c.if-room-count.false in
    rw (e, enough)
