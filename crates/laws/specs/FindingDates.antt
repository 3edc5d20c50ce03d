-- How a date is found: the year by one quotient, the month by its row; and the date after a date.
use Rattle.std.specs.Prelude.{◌≡◌, refl, Bool, true, false, cond, ℕ, zero, suc, ◌+◌, ◌-◌, ◌*◌, ◌/◌, ◌≤◌, ◌<◌, ltb, take, get_or, ℤ, pos, nat_abs, ◌+ℤ◌, ◌-ℤ◌}
use Rattle.std.proofs.Common.{sym, ap, ◌∙◌, arith, ltb-true, ltb-false}
use Rattle.integers.specs.Difference.{eq_of_parts, add_is, sub_is}
use Rattle.rules.specs.declared.Date.{Date}
use Rattle.rules.specs.Years.{leap, months, sum, years, fall}
use Rattle.rules.specs.Calendar.{day_count, day_number, date_of_count}
use Rattle.laws.specs.Ranges.{InRange}
use Rattle.laws.specs.Rows.{sum_take_suc, fall_one}
use Rattle.laws.specs.Calendar.{row, leap_lt, months_row, years_before, year_days}
use Rattle.laws.specs.DayCounts.{Real, date, day_of_year, day_count_is}
use Rattle.laws.specs.DayNumbers.{day_number_is}

-- ---- the year of a count of days

-- the date in year y with n days of the year before it
unfoldable pub date_in : ℕ → ℕ → Date
date_in y n =
    let in_months = fall (months y) n in
    date y (1 + in_months.span) (1 + in_months.day)

-- a year of the span, and a number of days before a date in it
pub record DaysOfYear (year days : ℤ) : Type 0 where
  pub in_span : InRange 1972 2099 year
  pub days_is : days ≡ pos (nat_abs days)
  pub days_lt : nat_abs days < sum (months (nat_abs year))

-- four years are 1461 days
abbrev pub year_at : ℕ → ℕ
year_at n = (4 * n) / 1461

pub year_at_lt : (n : ℕ) → n < 46752 → year_at n < 128
year_at_lt n h = omega arith

pub year_at_ge : (n : ℕ) → n < 46752 → sum (take (year_at n) years) ≤ n
year_at_ge n h = omega (arith, years_before (year_at n) (omega arith))

pub year_at_rest : (n : ℕ) → n < 46752 → n - sum (take (year_at n) years) < get_or years (year_at n) 0
year_at_rest n h =
    omega (
      arith,
      years_before (year_at n) (omega arith),
      years_before (suc (year_at n)) (omega arith),
      sum_take_suc years (year_at n),
    )

pub year_at_rest_lt : (n : ℕ) → n < 46752 → n - sum (take (year_at n) years) < sum (months (1972 + year_at n))
year_at_rest_lt n h = omega (arith, year_at_rest n h, year_days (year_at n) (year_at_lt n h))

pub date_of_count_is : (n : ℕ) → n < 46752
    → date_of_count n ≡ date_in (1972 + year_at n) (n - sum (take (year_at n) years))
unfolding date_of_count date_in
date_of_count_is n h =
    rw (fall_one years (year_at n) (n - sum (take (year_at n) years)) n (year_at_rest n h)
    (omega (arith, year_at_ge n h)))

-- a row has twelve months
pub row_whole : (l : ℕ) → l < 2 → sum (take 12 (row l)) ≡ sum (row l)
unfolding sum
row_whole zero h = refl
row_whole (suc zero) h = refl
row_whole (suc (suc l)) h = absurd (omega arith)

-- a month of the row of its year, and a day in it
pub date_in_row : (y l k r n : ℕ) → l ≡ leap y → r < get_or (row l) k 0 → sum (take k (row l)) + r ≡ n
    → date_in y n ≡ date y (1 + k) (1 + r)
unfolding date_in
date_in_row y l k r n e h w =
    let m : months y ≡ row l = months_row y ∙ ap row (sym e) in
    rw (m, fall_one (row l) k r n h w)

-- ---- the day after

-- the date after a date: the next day of its month, else the first of the next month, else of the next year
unfoldable pub next_date : ℕ → ℕ → ℕ → Date
next_date y m d =
    cond (ltb d (get_or (months y) (m - 1) 0)) (date y m (d + 1)) (cond (ltb m 12) (date y (m + 1) 1) (date (y + 1) 1 1))

year_whole : (y : ℕ) → sum (take 12 (months y)) ≡ sum (months y)
year_whole y = rw (months_row y) (row_whole (leap y) (leap_lt y))

year_first : (y : ℕ) → day_of_year y 1 1 ≡ 0
unfolding sum
year_first y = refl

next_count : (y m d : ℕ) → Real y m d → day_count (next_date y m d) ≡ day_count (date y m d) + 1
unfolding next_date
next_count y m d r = go (ltb d (get_or (months y) (m - 1) 0)) (ltb m 12) refl refl
  where
    go : (a b : Bool) → ltb d (get_or (months y) (m - 1) 0) ≡ a → ltb m 12 ≡ b
        → day_count (cond a (date y m (d + 1)) (cond b (date y (m + 1) 1) (date (y + 1) 1 1)))
        ≡ day_count (date y m d) + 1
    go true b p q = omega (arith, day_count_is y m d, day_count_is y m (d + 1))
    go false true p q =
        let l = ltb-false d (get_or (months y) (m - 1) 0) p in
        let k = ltb-true m 12 q in
        let e : (m + 1) - 1 ≡ suc (m - 1) = omega arith in
        let s : sum (take ((m + 1) - 1) (months y)) ≡ sum (take (m - 1) (months y)) + get_or (months y) (m - 1) 0 =
        ap (λ i. sum (take i (months y))) e ∙ sum_take_suc (months y) (m - 1) in
        omega (arith, day_count_is y m d, day_count_is y (m + 1) 1)
    go false false p q =
        let l = ltb-false d (get_or (months y) (m - 1) 0) p in
        let k = ltb-false m 12 q in
        let e : (y + 1) - 1972 ≡ suc (y - 1972) = omega arith in
        let f : 1972 + (y - 1972) ≡ y = omega arith in
        let g : suc (m - 1) ≡ 12 = omega arith in
        let s : sum (take ((y + 1) - 1972) years) ≡ sum (take (y - 1972) years) + get_or years (y - 1972) 0 =
        ap (λ i. sum (take i years)) e ∙ sum_take_suc years (y - 1972) in
        let t : get_or years (y - 1972) 0 ≡ sum (months y) =
        year_days (y - 1972) (omega arith) ∙ ap (λ i. sum (months i)) f in
        let u : sum (take 12 (months y)) ≡ sum (take (m - 1) (months y)) + get_or (months y) (m - 1) 0 =
        ap (λ i. sum (take i (months y))) (sym g) ∙ sum_take_suc (months y) (m - 1) in
        omega (arith, day_count_is y m d, day_count_is (y + 1) 1 1, year_whole y, year_first (y + 1))

-- the day numbers of consecutive dates are consecutive
pub day_number_next : (y m d : ℕ) → Real y m d → day_number (next_date y m d) ≡ day_number (date y m d) +ℤ pos 1
day_number_next y m d r =
    let a = day_count (next_date y m d) in
    let b = day_count (date y m d) in
    let e : a ≡ b + 1 = next_count y m d r in
    rw (day_number_is (next_date y m d), day_number_is (date y m d))
    (eq_of_parts (pos a -ℤ pos 10227) (pos b -ℤ pos 10227 +ℤ pos 1)
    (omega (arith, sub_is (pos a) (pos 10227), sub_is (pos b) (pos 10227), add_is (pos b -ℤ pos 10227) (pos 1))))
