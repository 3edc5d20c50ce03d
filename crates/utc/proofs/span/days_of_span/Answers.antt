-- `utc::span::days_of_span` meets its contract: the day that is reached without added seconds, or the one before.
use mathlib.Core.Path.{refl, sym, ap, ◌∙◌}
use Prim.Native.Nat.{ℕ, ◌/◌}
use native.Mathlib.Omega.{arith}
use lib.IntN.{pos}
use lib.Signed.{lt_z_yes}
use Rattle.integers.specs.Difference.{le_z_true, le_z_false}
use Rattle.words.specs.Holds.{Holds, bits, ◌+ʷ◌, ◌/ʷ◌, lit, got, arg, add, add_ok, sub_nat, sub_ok, div_lit}
use Rattle.words.specs.Holds.{div_ok}
use Rattle.rules.specs.Utc.{days_of_span}
use Rattle.laws.specs.Days.{ms_before, ms_before_grows, ms_before_end, OfDay, reached, not_reached}
use Rattle.laws.specs.Stretch.{count_of, counts, count_is, stretch_le}
use Rattle.laws.specs.Utc.{of_tt}
use Rattle.utc.proofs.span.days_of_span.Goals as goal
use Rattle.utc.proofs.span.days_of_span.Lts as lts
use Rattle.utc.proofs.span.days_of_span.Reads as reads
use Rattle.utc.proofs.span.days_of_span.Tie as tie

module _ (c : goal.Start) where
  abbrev j : ℕ
  j = count_of c.args.tt

  abbrev most : ℕ
  most = j / 86400000

  tt_is : Holds (bits c.args.tt) c.args.tt 3155716869183
  tt_is = arg c.args.tt (stretch_le c.args.tt c.requires) tt

  sum : Holds (bits c.args.tt +ʷ 883655957816) (pos j) 4039372826999
  sum =
      let h = add tt_is (lit 883655957816 tt) tt in
      record {
        value = h.value ∙ count_is c.args.tt c.requires;
        size = omega (arith, (counts c.args.tt c.requires).1);
      }

  quotient : Holds ((bits c.args.tt +ʷ 883655957816) /ʷ 86400000) (pos most) (4039372826999 / 86400000)
  quotient = div_lit 86400000 sum tt tt tt

  day : OfDay j (days_of_span c.args.tt)
  day = (of_tt c.args.tt c.requires).day

before : (c : lts.After-ms_before tie.the-claims reads.Pre reads.Post)
    → Holds (bits c.ms_before.result) (pos (ms_before (most c.before))) 4039372827000
before c =
    let s = c.before in
    got (rw (quotient s).value at c.ms_before.ensures)
    (omega (arith, ms_before_end, ms_before_grows (most s) 46752 (quotient s).size)) tt

pub returns-then-ms_before-count : goal.returns-then-ms_before-count
returns-then-ms_before-count c =
    let s = c.before.before in
    let t = rw ((before c.before).value, (sum s).value) at c.if-ms_before-count.true in
    let l = le_z_true (pos (ms_before (most s))) (pos (j s)) t in
    (quotient s).value ∙ ap pos (sym (reached (j s) (days_of_span s.args.tt) (day s) (omega arith)))

pub returns-else-ms_before-count : goal.returns-else-ms_before-count
returns-else-ms_before-count c =
    let s = c.before.before in
    let t = rw ((before c.before).value, (sum s).value) at c.if-ms_before-count.false in
    let l = le_z_false (pos (ms_before (most s))) (pos (j s)) t in
    let q = not_reached (j s) (days_of_span s.args.tt) (day s) (omega arith) in
    (sub_nat (quotient s) (lit 1 tt) (omega arith) tt).value ∙ ap pos (omega arith)

pub overflow_add-count : goal.overflow_add-count
overflow_add-count c = add_ok (tt_is c) (lit 883655957816 tt) tt

pub nonzero_div-most : goal.nonzero_div-most
nonzero_div-most c = div_ok (sum c) (lit 86400000 tt) (lt_z_yes tt) tt

pub ms_before-requires : goal.ms_before-requires
ms_before-requires c =
    rw (quotient c).value (record { is = refl; at_least = omega arith; at_most = (quotient c).size })

pub overflow_sub-result : goal.overflow_sub-result
overflow_sub-result c = sub_ok (quotient c.before.before) (lit 1 tt) tt
