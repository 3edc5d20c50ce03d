-- `list_file::list_star` meets its contract.
use Rattle.std.proofs.Common.{rules, ◌≡◌, sym, ◌∙◌, ap, List, ℕ, ◌+◌, ◌<◌, ◌≤◌, arith, length, length-drop, Ok}
use Rattle.std.proofs.lemmas.List.{take_rest}
use borrow.Author.Tests.{lt-ltb, le-ltb}
use Rattle.rules.specs.ListFile.{record_length, most_records, file_length, record_at, star_in}
use Rattle.rules.specs.ListReading.{star_at, list_star, list_count}
use Rattle.laws.specs.ListFile.{accepted_size, accepted_few}
use Rattle.list_file.proofs.list_star.Goals as goal

pub returns-in_err-count : goal.returns-in_err-count
unfolding list_star star_at
returns-in_err-count c =
    let e = sym c.in_err-count.ensures in
    rw e (search rules)

module _ (file : List ℕ) (count index : ℕ) (counted : list_count file ≡ Ok count) (inside : index < count) where
  within : record_at index + record_length ≤ length file
  unfolding file_length
  within = omega (arith, accepted_size file count counted, inside)

  small : index < most_records
  small = omega (arith, accepted_few file count counted, inside)

pub overflow_mul-index : goal.overflow_mul-index
overflow_mul-index c =
    record { fits = omega (arith, small c.args.file.now c.in_ok-count.count c.args.index (sym c.in_ok-count.ensures) c.if-index-count.true) }

pub overflow_add-index : goal.overflow_add-index
overflow_add-index c =
    record { fits = omega (arith, small c.args.file.now c.in_ok-count.count c.args.index (sym c.in_ok-count.ensures) c.if-index-count.true) }

pub slice_bounds-star_in-count : goal.slice_bounds-star_in-count
slice_bounds-star_in-count c =
    omega (arith, within c.args.file.now c.in_ok-count.count c.args.index (sym c.in_ok-count.ensures) c.if-index-count.true)

pub slice_bounds-star_in-start : goal.slice_bounds-star_in-start
slice_bounds-star_in-start c =
    let l = within c.args.file.now c.in_ok-count.count c.args.index (sym c.in_ok-count.ensures) c.if-index-count.true in
    search rules

pub star_in-requires : goal.star_in-requires
star_in-requires c =
    let file = c.args.file.now in
    let index = c.args.index in
    let e = sym c.in_ok-count.ensures in
    rw (take_rest file (record_at index))
    (omega (arith, length-drop (record_at index) file, within file c.in_ok-count.count index e c.if-index-count.true))

pub returns-then-index-count : goal.returns-then-index-count
unfolding list_star star_at file_length
returns-then-index-count c =
    let file = c.args.file.now in
    let index = c.args.index in
    let e = sym c.in_ok-count.ensures in
    let here = lt-ltb index c.in_ok-count.count c.if-index-count.true in
    rw (e, here) (ap Ok (c.star_in.ensures ∙ ap star_in (take_rest file (record_at index))))

pub returns-else-index-count : goal.returns-else-index-count
unfolding list_star star_at
returns-else-index-count c =
    let e = sym c.in_ok-count.ensures in
    let past = le-ltb c.args.index c.in_ok-count.count c.if-index-count.false in
    rw (e, past)
