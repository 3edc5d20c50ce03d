-- `calendar::counts::date_at` meets its contract: the year by one quotient, the rest by `date_in`.
use mathlib.Core.Path.{refl, sym, ◌∙◌}
use Prim.Native.Nat.{ℕ, ◌+◌, ◌-◌, ◌*◌, ◌/◌, ◌<◌}
use native.Mathlib.Omega.{arith}
use lib.IntN.{pos, nat_abs}
use lib.ListN.{take}
use Rattle.words.specs.Holds.{Holds, bits, ◌+ʷ◌, ◌-ʷ◌, ◌*ʷ◌, ◌/ʷ◌, lit, got, add, sub_nat, mul}
use Rattle.words.specs.Holds.{div_lit}
use Rattle.rules.specs.Years.{sum, years}
use Rattle.laws.specs.Ranges.{InRange}
use Rattle.laws.specs.Calendar.{years_before_le, less_first}
use Rattle.laws.specs.FindingDates.{year_at, year_at_lt, year_at_ge, year_at_rest_lt, date_of_count_is}
use Rattle.calendar.proofs.counts.date_at.Goals as goal
use Rattle.calendar.proofs.counts.date_at.Goals.{After-years_before, Start}

module _ (c : Start) where
  abbrev n : ℕ
  n = nat_abs c.args.count

  n_lt : n < 46752
  n_lt = omega (arith, c.requires.at_most)

  abbrev year_bits : ℕ
  year_bits = 1972 +ʷ (4 *ʷ bits c.args.count) /ʷ 1461

  count : Holds (bits c.args.count) (pos n) 46751
  count = got c.requires.is c.requires.at_most tt

  fourfold : Holds (4 *ʷ bits c.args.count) (pos (4 * n)) (4 * 46751)
  fourfold = mul (lit 4 tt) count tt

  quotient : Holds ((4 *ʷ bits c.args.count) /ʷ 1461) (pos (year_at n)) (4 * 46751 / 1461)
  quotient = div_lit 1461 fourfold tt tt tt

  year : Holds year_bits (pos (1972 + year_at n)) (1972 + 4 * 46751 / 1461)
  year = add (lit 1972 tt) quotient tt

  in_span : InRange 1972 2099 (pos (1972 + year_at n))
  in_span = record { is = refl; at_least = omega arith; at_most = omega (arith, year_at_lt n n_lt) }

-- the days of the years before, and the rest
start : (c : After-years_before)
    → Holds (bits c.years_before.result) (pos (sum (take (year_at (n c.before)) years))) 46752
start c =
    got (rw ((year c.before).value, less_first) at c.years_before.ensures)
    (years_before_le (year_at (n c.before))) tt

rest : (c : After-years_before)
    → Holds (bits c.before.args.count -ʷ bits c.years_before.result)
    (pos (n c.before - sum (take (year_at (n c.before)) years))) 46751
rest c = sub_nat (count c.before) (start c) (year_at_ge (n c.before) (n_lt c.before)) tt

pub date_in-requires : goal.date_in-requires
date_in-requires c =
    rw ((year c.before).value, (rest c).value)
    (record {
      in_span = in_span c.before;
      days_is = refl;
      days_lt = year_at_rest_lt (n c.before)
          (n_lt c.before);
    })

pub returns : goal.returns
returns c =
    let s = c.before.before in
    rw ((year s).value, (rest c.before).value) at c.date_in.ensures ∙ sym (date_of_count_is (n s) (n_lt s))
