-- A date of the span and its count of days: the round trip both ways.
use Rattle.std.specs.Prelude.{◌≡◌, refl, ℕ, ◌+◌, ◌-◌, ◌≤◌, ◌<◌, length, take, get_or, pos}
use Rattle.std.proofs.Common.{sym, ap, ◌∙◌, arith}
use Rattle.rules.specs.declared.Date.{Date}
use Rattle.rules.specs.Years.{leap, months, sum, years, Fall, fall}
use Rattle.rules.specs.Calendar.{day_count, date_of_count}
use Rattle.laws.specs.Rows.{place_lt, Falls, falls, fall_one}
use Rattle.laws.specs.Calendar.{leap_lt, months_row, row_length, years_length, years_sum, year_days, less_first}

-- ---- a date of the span, in naturals

pub record Real (y m d : ℕ) : Type 0 where
  pub year_ge : 1972 ≤ y
  pub year_le : y ≤ 2099
  pub month_ge : 1 ≤ m
  pub month_le : m ≤ 12
  pub day_ge : 1 ≤ d
  pub day_le : d ≤ get_or (months y) (m - 1) 0

abbrev pub date : ℕ → ℕ → ℕ → Date
date y m d = record { year = pos y; month = pos m; day = pos d }

-- the days of its year before a date
abbrev pub day_of_year : ℕ → ℕ → ℕ → ℕ
day_of_year y m d = sum (take (m - 1) (months y)) + (d - 1)

pub day_count_is : (y m d : ℕ) → day_count (date y m d) ≡ sum (take (y - 1972) years) + day_of_year y m d
unfolding day_count
day_count_is y m d = omega arith

year_of : (y : ℕ) → 1972 ≤ y → y ≤ 2099 → get_or years (y - 1972) 0 ≡ sum (months y)
year_of y h k = let e : 1972 + (y - 1972) ≡ y = omega arith in year_days (y - 1972) (omega arith)
    ∙ ap (λ z. sum (months z)) e

pub day_of_year_lt : (y m d : ℕ) → Real y m d → day_of_year y m d < get_or years (y - 1972) 0
day_of_year_lt y m d q =
    rw (year_of y q.year_ge q.year_le) (place_lt (months y) (m - 1) (d - 1) (omega arith))

pub day_count_lt : (y m d : ℕ) → Real y m d → day_count (date y m d) < 46752
day_count_lt y m d q =
    omega (arith, day_count_is y m d, years_sum, place_lt years (y - 1972) (day_of_year y m d) (day_of_year_lt y m d q))

-- ---- the round trip, of counts of days

pub date_of_day_count : (y m d : ℕ) → Real y m d → date_of_count (day_count (date y m d)) ≡ date y m d
unfolding date_of_count
date_of_day_count y m d q =
    let e : 1972 + (y - 1972) ≡ y = omega arith in
    let f : 1 + (m - 1) ≡ m = omega arith in
    let g : 1 + (d - 1) ≡ d = omega arith in
    rw (
      fall_one years (y - 1972) (day_of_year y m d) _ (day_of_year_lt y m d q) (sym (day_count_is y m d)),
      e,
      fall_one (months y) (m - 1) (d - 1) _ (omega arith) refl,
      f,
      g,
    )

less_one : (i : ℕ) → (1 + i) - 1 ≡ i
less_one i = omega arith

-- the three numbers of a count's date, and that they are a date of the span
pub record Counted (n : ℕ) : Type 0 where
  pub y : ℕ
  pub m : ℕ
  pub d : ℕ
  pub real : Real y m d
  pub is : date_of_count n ≡ date y m d
  pub count : day_count (date y m d) ≡ n

pub counted : (n : ℕ) → n < 46752 → Counted n
unfolding date_of_count
counted n h =
    let p : Fall = fall years n in
    let a : Falls years n p = falls years n (omega (arith, years_sum)) in
    let l : p.span < 128 = omega (arith, a.span_lt, years_length) in
    let y : ℕ = 1972 + p.span in
    let q : Fall = fall (months y) p.day in
    let b : Falls (months y) p.day q = falls (months y) p.day (omega (arith, a.day_lt, year_days p.span l)) in
    let k : length (months y) ≡ 12 = ap length (months_row y) ∙ row_length (leap y) (leap_lt y) in
    record {
      y = y;
      m = 1 + q.span;
      d = 1 + q.day;
      real = record {
        year_ge = omega arith;
        year_le = omega arith;
        month_ge = omega arith;
        month_le = omega (arith, b.span_lt);
        day_ge = omega arith;
        day_le = rw (less_one q.span) (omega (arith, b.day_lt));
      };
      is = refl;
      count = day_count_is y (1 + q.span) (1 + q.day)
          ∙ rw (less_first p.span, less_one q.span, less_one q.day) (omega (arith, a.whole, b.whole));
    }
