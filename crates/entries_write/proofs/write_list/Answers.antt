-- `entries_write::write_list` meets its contract.
use Rattle.std.proofs.Common.{rules, ◌≡◌, sym, ◌∙◌, ap, arith, ◌≤◌, length, length-drop, take}
use Rattle.std.proofs.lemmas.List.{take_rest}
use Rattle.std.proofs.Math.Seq.{take-length}
use Rattle.rules.specs.ListFile.{head_length, record_at}
use Rattle.rules.specs.ListWriting.{stars_of, list_written}
use Rattle.laws.specs.FileLength.{records, head_of}
use Rattle.laws.specs.ListFile.{write_kept}
use Rattle.list_bytes.specs.Puts.{put, put_none}
use Rattle.entries_write.proofs.Writing.{put_turn, write_few, write_fits, write_after}
use Rattle.entries_write.proofs.write_list.Goals as goal

pub returns-in_err-length : goal.returns-in_err-length
unfolding list_written
returns-in_err-length c =
    let e = sym c.in_err-length.ensures in
    (rw e (search rules), sym (write_kept c.args.entries.now c.args.room.now _ e))

pub loop-i-init : goal.loop-i-init
unfolding stars_of
loop-i-init c = put_none c.args.room.now head_length

pub slice_bounds-put_record-count : goal.slice_bounds-put_record-count
unfolding list_written
slice_bounds-put_record-count c =
    let fits = write_fits c.args.entries.now c.args.room.now c.in_ok-length.length (sym c.in_ok-length.ensures) in
    omega (arith, fits, c.loop-i.auto.room, c.loop-i-test.true)

pub slice_bounds-put_record-start : goal.slice_bounds-put_record-start
unfolding list_written
slice_bounds-put_record-start c =
    let fits = write_fits c.args.entries.now c.args.room.now c.in_ok-length.length (sym c.in_ok-length.ensures) in
    let l : record_at c.loop-i.i ≤ length c.loop-i.room = omega (arith, fits, c.loop-i.auto.room, c.loop-i-test.true) in
    search rules

pub put_record-requires : goal.put_record-requires
unfolding list_written
put_record-requires c =
    let fits = write_fits c.args.entries.now c.args.room.now c.in_ok-length.length (sym c.in_ok-length.ensures) in
    rw (take_rest c.loop-i.room (record_at c.loop-i.i))
    (omega (arith, length-drop (record_at c.loop-i.i) c.loop-i.room, fits, c.loop-i.auto.room, c.loop-i-test.true))

pub loop-i-preserved : goal.loop-i-preserved
unfolding list_written
loop-i-preserved c =
    let room = c.args.room.now in
    let entries = c.args.entries.now in
    put_turn room c.loop-i.room _ entries c.loop-i.i _ c.loop-i-test.true
    (write_fits entries room c.in_ok-length.length (sym c.in_ok-length.ensures)) c.loop-i.auto.room c.loop-i.invariant
    c.put_record.ensures

pub put_head-requires : goal.put_head-requires
unfolding list_written
put_head-requires c =
    let entries = c.args.entries.now in
    let room = c.args.room.now in
    let answer = sym c.in_ok-length.ensures in (
      omega (arith, write_fits entries room c.in_ok-length.length answer, c.loop-i.auto.room),
      write_few entries room c.in_ok-length.length answer,
    )

pub returns : goal.returns
unfolding list_written
returns c =
    let entries = c.args.entries.now in
    let room = c.args.room.now in
    let all : c.loop-i.i ≡ length entries = omega arith in (
      c.in_ok-length.ensures,
      c.put_head.ensures
          ∙ ap (λ r. put r 0 (head_of (length entries))) (c.loop-i.invariant
          ∙ ap (λ es. put room head_length (records (stars_of es))) (ap (λ n. take n entries) all ∙ take-length entries))
          ∙ write_after entries room c.in_ok-length.length (sym c.in_ok-length.ensures),
    )
