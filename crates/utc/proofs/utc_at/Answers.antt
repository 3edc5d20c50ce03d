-- `utc::utc_at` meets its contract.
use mathlib.Core.Path.{refl, sym, ap, ◌∙◌}
use Prim.Native.Nat.{ℕ, ◌-◌, ◌≤◌}
use native.Mathlib.Omega.{arith}
use lib.IntN.{pos}
use Rattle.words.specs.Holds.{Holds, bits, ◌+ʷ◌, ◌-ʷ◌, lit, got, arg, add, add_ok, sub_nat, sub_ok}
use Rattle.rules.specs.Utc.{days_of_span, time_of_ms, utc_at}
use Rattle.laws.specs.Days.{ms_before, ms_before_grows, ms_before_end, ms_before_after, ms_on_le}
use Rattle.laws.specs.Stretch.{count_of, counts, count_is, stretch_le}
use Rattle.laws.specs.Utc.{OfTt, of_tt}
use Rattle.utc.proofs.utc_at.Goals as goal
use Rattle.utc.proofs.utc_at.Goals.{After-days_of_span-days, After-ms_before, Start}

module _ (c : Start) where
  abbrev n : ℕ
  n = days_of_span c.args.tt

  abbrev j : ℕ
  j = count_of c.args.tt

  known : OfTt c.args.tt
  known = of_tt c.args.tt c.requires

  tt_is : Holds (bits c.args.tt) c.args.tt 3155716869183
  tt_is = arg c.args.tt (stretch_le c.args.tt c.requires) tt

  count : Holds (bits c.args.tt +ʷ 883655957816) (pos j) 4039372826999
  count = record {
    value = (add tt_is (lit 883655957816 tt) tt).value ∙ count_is c.args.tt c.requires;
    size = omega (arith, (counts c.args.tt c.requires).1);
  }

  rest_le : j - ms_before n ≤ 86400999
  rest_le = omega (arith, known.day.to, ms_before_after n, ms_on_le n)

days : (c : After-days_of_span-days) → Holds (bits c.days_of_span-days.result) (pos (n c.before)) 46751
days c =
    let s = c.before in
    got (rw (tt_is s).value at c.days_of_span-days.ensures) (omega (arith, (known s).days_lt)) tt

module _ (c : After-ms_before) where
  abbrev s : Start
  s = c.before.before

  before : Holds (bits c.ms_before.result) (pos (ms_before (n s))) 4039372827000
  before =
      got (rw (days c.before).value at c.ms_before.ensures)
      (omega (arith, ms_before_end, ms_before_grows (n s) 46752 (omega (arith, (known s).days_lt)))) tt

  rest : Holds ((bits s.args.tt +ʷ 883655957816) -ʷ bits c.ms_before.result) (pos (j s - ms_before (n s)))
      4039372826999
  rest = sub_nat (count s) before (known s).day.from tt

pub returns : goal.returns
unfolding utc_at
returns c =
    let d = c.before in
    let b = d.before in
    let date = rw (days b.before).value at d.date_at.ensures in
    let time = rw (rest b).value at c.time_of_ms.ensures ∙ ap time_of_ms (sym (known (s b)).ms) in
    λ i. record { date = date i; time = time i }

pub overflow_add-ms : goal.overflow_add-ms
overflow_add-ms c = add_ok (tt_is c.before) (lit 883655957816 tt) tt

pub ms_before-requires : goal.ms_before-requires
ms_before-requires c =
    rw (days c).value
    (record { is = refl; at_least = omega arith; at_most = omega (arith, (known c.before).days_lt) })

pub overflow_sub-ms : goal.overflow_sub-ms
overflow_sub-ms c = sub_ok (count (s c)) (before c) tt

pub date_at-requires : goal.date_at-requires
date_at-requires c =
    rw (days c.before).value
    (record { is = refl; at_least = omega arith; at_most = omega (arith, (known (s c)).days_lt) })

pub time_of_ms-requires : goal.time_of_ms-requires
time_of_ms-requires c =
    rw (rest c.before).value (record { is = refl; at_least = omega arith; at_most = rest_le (s c.before) })
