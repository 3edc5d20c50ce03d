-- `entries_read::read_list` meets its contract.
use Rattle.std.proofs.Common.{rules, ◌≡◌, sym, ◌∙◌, ap, arith, ◌++◌, ◌<◌, ◌≤◌, drop, take, set, length}
use Rattle.std.proofs.Math.Seq.{take-length}
use Rattle.rules.specs.ListFile.{head_length}
use Rattle.rules.specs.ListReading.{list_read}
use Rattle.laws.specs.ListFile.{read_kept}
use Rattle.entries_read.proofs.Reading.{read_entries, read_stored, read_within, read_long, read_count, read_after}
use Rattle.entries_read.proofs.read_list.Goals as goal

pub returns-in_err-count : goal.returns-in_err-count
unfolding list_read
returns-in_err-count c =
    let e = sym c.in_err-count.ensures in
    (rw e (search rules), sym (read_kept c.args.file.now c.args.entries.now _ e))

pub slice_bounds-as_chunks-count : goal.slice_bounds-as_chunks-count
slice_bounds-as_chunks-count c =
    omega (arith, read_long c.args.file.now c.args.entries.now c.in_ok-count.count (sym c.in_ok-count.ensures))

pub slice_bounds-as_chunks-start : goal.slice_bounds-as_chunks-start
slice_bounds-as_chunks-start c =
    let long = read_long c.args.file.now c.args.entries.now c.in_ok-count.count (sym c.in_ok-count.ensures) in
    let headed : head_length ≤ length c.args.file.now = omega (arith, long) in
    search rules

pub bounds-entries-i : goal.bounds-entries-i
bounds-entries-i c =
    let file = c.args.file.now in
    let entries = c.args.entries.now in
    let count = c.in_ok-count.count in
    let answer = sym c.in_ok-count.ensures in
    omega (
      arith,
      c.loop-i-test.true,
      c.loop-i.auto.entries,
      c.as_chunks.ensures.front_len,
      read_count file entries count answer,
      read_within file entries count answer,
    )

pub loop-i-preserved : goal.loop-i-preserved
loop-i-preserved c =
    let records = c.as_chunks.result.0.now in
    let entries = c.args.entries.now in
    let i = c.loop-i.i in
    let count = c.in_ok-count.count in
    let answer = sym c.in_ok-count.ensures in
    let within : i < length entries = omega (
      arith,
      c.loop-i-test.true,
      c.as_chunks.ensures.front_len,
      read_count c.args.file.now entries count answer,
      read_within c.args.file.now entries count answer,
    ) in
    ap (λ r. set r i c.entry_in.result) c.loop-i.invariant
    ∙ ap (λ y. set (read_entries (take i records) ++ drop i entries) i y) c.entry_in.ensures
    ∙ read_stored records i entries c.loop-i-test.true within

pub returns : goal.returns
unfolding list_read
returns c =
    let file = c.args.file.now in
    let entries = c.args.entries.now in
    let records = c.as_chunks.result.0.now in
    let count = c.in_ok-count.count in
    let answer = sym c.in_ok-count.ensures in
    let all : c.loop-i.i ≡ length records = omega arith in
    let many = all ∙ c.as_chunks.ensures.front_len ∙ read_count file entries count answer in (
      c.in_ok-count.ensures,
      c.loop-i.invariant
          ∙ (λ j. read_entries (take (all j) records) ++ drop (many j) entries)
          ∙ ap (λ rs. read_entries rs ++ drop count entries) (take-length records ∙ c.as_chunks.ensures.front)
          ∙ read_after file entries count answer,
    )
