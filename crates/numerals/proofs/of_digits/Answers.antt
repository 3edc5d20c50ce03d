-- `numerals::of_digits` meets its contract.
use Rattle.std.proofs.Common.{sym, ◌∙◌, rules, ◌≤◌, length}
use Rattle.numerals.proofs.Bytes.{digits_all, no_digits, many_digits}
use Rattle.numerals.proofs.of_digits.Goals.{then-is_empty-via-then-is_empty, then-is_empty-via-else-is_empty+then-most-s}
use Rattle.numerals.proofs.of_digits.Goals as goal

pub returns : goal.returns
returns c =
    let h : 1 ≤ length c.args.s.now = search rules in
    c.all_digits.ensures ∙ sym (digits_all c.args.most c.args.s.now h c.if-most-s.false)

pub returns-then-is_empty : goal.returns-then-is_empty
returns-then-is_empty c =
    elim c.then-is_empty.branch [
      | then-is_empty-via-then-is_empty w ↦ (sym (no_digits c.args.most c.args.s.now (search rules)))
      | then-is_empty-via-else-is_empty+then-most-s w ↦ (sym (many_digits c.args.most c.args.s.now (search rules) w.if-most-s.true))
    ]
