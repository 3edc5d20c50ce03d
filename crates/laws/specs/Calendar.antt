-- The lengths of months and of years, and the days of the years before one.
use Rattle.std.specs.Prelude.{◌≡◌, refl, Bool, true, false, cond, List, [], ℕ, zero, suc, ◌+◌, ◌-◌, ◌*◌, ◌/◌, ◌%◌, ◌≤◌, ◌<◌, T, eqb, leb, length, take, get_or}
use Rattle.std.proofs.Common.{arith, leb→le, eqb→eq}
use Rattle.rules.specs.Years.{days_per_month, leap, months, sum, up_from, years}
use Rattle.rules.specs.Calendar.{days_before2000}
use Rattle.laws.specs.Every.{every, every_at}
use Rattle.laws.specs.Rows.{sum_take_le}

-- ---- the lengths of months

-- the row of common years, 0, or of leap years, 1
abbrev pub row : ℕ → List ℕ
row l = get_or days_per_month l []

choice_lt : (a b c : Bool) → cond a (cond b (cond c 1 0) 1) 0 < 2
choice_lt false b c = omega arith
choice_lt true false c = omega arith
choice_lt true true false = omega arith
choice_lt true true true = omega arith

pub leap_lt : (y : ℕ) → leap y < 2
unfolding leap
leap_lt y = choice_lt (eqb (y % 4) 0) (eqb (y % 100) 0) (eqb (y % 400) 0)

pub months_row : (y : ℕ) → months y ≡ row (leap y)
unfolding months
months_row y = refl

-- what a test tells of every month of both rows
row_test : (f : ℕ → Bool) (l k : ℕ) → T (every (λ l. every (λ k. f (get_or (row l) k 0)) 12) 2)
    → l < 2 → k < 12 → T (f (get_or (row l) k 0))
row_test f l k t g h =
    every_at (λ k. f (get_or (row l) k 0)) 12 k (every_at (λ l. every (λ k. f (get_or (row l) k 0)) 12) 2 l t g) h

pub row_days_le : (l k : ℕ) → l < 2 → k < 12 → get_or (row l) k 0 ≤ 31
row_days_le l k g h = leb→le (get_or (row l) k 0) 31 (row_test (λ d. leb d 31) l k tt g h)

pub months_le : (y k : ℕ) → k < 12 → get_or (months y) k 0 ≤ 31
months_le y k h = rw (months_row y) (row_days_le (leap y) k (leap_lt y) h)

pub row_length : (l : ℕ) → l < 2 → length (row l) ≡ 12
row_length zero h = refl
row_length (suc zero) h = refl
row_length (suc (suc l)) h = absurd (omega arith)

-- a year has 365 days, or 366
pub row_sum : (l : ℕ) → l < 2 → sum (row l) ≡ 365 + l
unfolding sum
row_sum zero h = refl
row_sum (suc zero) h = refl
row_sum (suc (suc l)) h = absurd (omega arith)

pub months_before_le : (l k : ℕ) → l < 2 → sum (take k (row l)) ≤ 366
months_before_le l k h = omega (arith, row_sum l h, sum_take_le (row l) k)

-- ---- the years of the span

pub years_length : length years ≡ 128
unfolding years up_from months leap sum
years_length = refl

pub years_sum : sum years ≡ 46752
unfolding years up_from months leap sum
years_sum = refl

pub before_2000 : days_before2000 ≡ 10227
unfolding days_before2000 years up_from months leap sum
before_2000 = refl

pub year_days : (k : ℕ) → k < 128 → get_or years k 0 ≡ sum (months (1972 + k))
unfolding years up_from months leap sum
year_days k h = eqb→eq (get_or years k 0) (sum (months (1972 + k))) (every_at test 128 k checked h)
  where
    test : ℕ → Bool
    test k = eqb (get_or years k 0) (sum (months (1972 + k)))

    checked : T (every test 128)
    checked = tt

-- four years are 1461 days, the first a leap year
pub years_before : (k : ℕ) → k ≤ 128 → sum (take k years) ≡ 365 * k + (k + 3) / 4
unfolding years up_from months leap sum
years_before k h = eqb→eq (sum (take k years)) (365 * k + (k + 3) / 4) (every_at test 129 k checked (omega arith))
  where
    test : ℕ → Bool
    test k = eqb (sum (take k years)) (365 * k + (k + 3) / 4)

    checked : T (every test 129)
    checked = tt

pub years_before_le : (k : ℕ) → sum (take k years) ≤ 46752
years_before_le k = omega (arith, years_sum, sum_take_le years k)

-- from a year back to its place in the row
pub less_first : (i : ℕ) → (1972 + i) - 1972 ≡ i
less_first i = omega arith
