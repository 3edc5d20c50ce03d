-- `calendar::dates::day_number` meets its contract.
use Rattle.std.specs.Prelude.{ℕ, ◌+◌, ◌-◌, take, pos, nat_abs}
use Rattle.std.proofs.Common.{arith, rules, ◌∙◌, SFits, to_z-of_z}
use Rattle.std.specs.Int.{w32}
use Rattle.words.specs.Holds.{Holds, bits, ◌+ʷ◌, ◌-ʷ◌, from_i32, lit, got, add, add_ok, sub, sub_ok, sub_nat}
use Rattle.rules.specs.Years.{months, sum, years}
use Rattle.rules.specs.Calendar.{day_count}
use Rattle.laws.specs.Calendar.{leap_lt, months_row, months_before_le, years_before_le, months_le}
use Rattle.laws.specs.DayNumbers.{day_number_is}
use Rattle.calendar.proofs.dates.day_number.Goals as goal

module _ (c : goal.After-years_before) where
  abbrev y : ℕ
  y = nat_abs c.args.date.year

  abbrev m : ℕ
  m = nat_abs c.args.date.month

  abbrev d : ℕ
  d = nat_abs c.args.date.day

  year_fits : SFits w32 c.args.date.year
  year_fits = search rules

  month_fits : SFits w32 c.args.date.month
  month_fits = search rules

  in_years : Holds (bits c.years_before.result) (pos (sum (take (y - 1972) years))) 46752
  in_years =
      got (rw (from_i32 _ _ year_fits c.from-year.ensures).value at c.years_before.ensures) (years_before_le (y - 1972)) tt

  in_months : Holds (bits c.months_before-months.result) (pos (sum (take (m - 1) (months y)))) 366
  in_months =
      got (rw ((from_i32 _ _ year_fits c.from-year.ensures).value, to_z-of_z month_fits) at c.months_before-months.ensures)
      (rw (months_row y) (months_before_le _ (m - 1) (leap_lt y))) tt

  day_fits : SFits w32 c.args.date.day
  day_fits = search rules

  days : Holds (bits c.from-days.result -ʷ 1) (pos (d - 1)) 31
  days =
      let real = c.requires.real in
      let whole = from_i32 _ _ day_fits c.from-days.ensures in
      sub_nat (record {
        value = whole.value ∙ c.requires.day_is;
        size = omega (arith, real.day_le, months_le y (m - 1) (omega (arith, real.month_ge, real.month_le)));
      }) (lit 1 tt) real.day_ge tt

  first : Holds (bits c.years_before.result +ʷ bits c.months_before-months.result)
      (pos (sum (take (y - 1972) years) + sum (take (m - 1) (months y)))) (46752 + 366)
  first = add in_years in_months tt

  count : Holds (bits c.years_before.result +ʷ bits c.months_before-months.result +ʷ (bits c.from-days.result -ʷ 1))
      (pos (sum (take (y - 1972) years) + sum (take (m - 1) (months y)) + (d - 1))) (46752 + 366 + 31)
  count = add first days tt

pub returns : goal.returns
unfolding day_count
returns c = rw (day_number_is) (sub (count c) (lit 10227 tt) tt).value

pub overflow_add-result : goal.overflow_add-result
overflow_add-result c = add_ok (in_years c) (in_months c) tt

pub overflow_add-result-2 : goal.overflow_add-result-2
overflow_add-result-2 c = add_ok (first c) (days c) tt

pub overflow_sub-result : goal.overflow_sub-result
overflow_sub-result c = sub_ok (count c) (lit 10227 tt) tt
