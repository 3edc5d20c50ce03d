-- `calendar::date_of` meets its contract.
use mathlib.Core.Path.{sym, ◌∙◌, ap}
use Prim.Native.Nat.{◌+◌}
use native.Mathlib.Omega.{arith}
use lib.IntN.{ℤ, pos, neg_ℤ, ◌+ℤ◌}
use mir.Facts.{to_z-of_z}
use Rattle.words.specs.Holds.{Holds, bits, ◌+ʷ◌, lit, arg, add, add_ok}
use Rattle.rules.specs.Calendar.{number_refused, date_of}
use Rattle.laws.specs.Units.{between_parts}
use Rattle.laws.specs.Ranges.{Between, le_of_sizes, between_iff}
use Rattle.laws.specs.DayNumbers.{InSpan, in_span, number_le, date_of_number_is}
use Rattle.calendar.proofs.date_of.Goals as goal
use Rattle.calendar.proofs.date_of.Goals.{Else-not-is_between}
use Rattle.std.specs.Prelude.{Ok}

pub returns-then-not-is_between : goal.returns-then-not-is_between
unfolding date_of number_refused
returns-then-not-is_between c =
    let past = c.before in
    rw (sym (rw (to_z-of_z past.before.ranges.n) at past.is_between.ensures) ∙ c.if-not-is_between.true)

module _ (c : Else-not-is_between) where
  abbrev n : ℤ
  n = c.before.before.args.n

  passed : Between (neg_ℤ (pos 10227)) (pos 36524) n
  passed =
      let tested = rw (to_z-of_z c.before.before.ranges.n) at c.before.is_between.ensures in
      let parts = between_parts _ _ n (sym tested ∙ c.if-not-is_between.false) in
      record {
        above = le_of_sizes (neg_ℤ (pos 10227)) n (omega (arith, parts.0));
        below = le_of_sizes n (pos 36524) (omega (arith, parts.1));
      }

  spanned : InSpan n
  spanned = in_span n passed

  number : Holds (bits n) n 36524
  number = arg n (number_le n passed) tt

  count : Holds (bits n +ʷ 10227) (n +ℤ pos 10227) (36524 + 10227)
  count = add number (lit 10227 tt) tt

pub overflow_add-n : goal.overflow_add-n
overflow_add-n c = add_ok (number c) (lit 10227 tt) tt

pub date_at-requires : goal.date_at-requires
date_at-requires c =
    rw (count c).value
    (record { is = (spanned c).is; at_least = omega arith; at_most = omega (arith, (spanned c).lt) })

pub returns : goal.returns
unfolding date_of number_refused
returns c =
    rw ((between_iff _ _ _).1 (passed c.before))
    (ap Ok (rw (count c.before).value at c.date_at.ensures ∙ sym (date_of_number_is _)))
