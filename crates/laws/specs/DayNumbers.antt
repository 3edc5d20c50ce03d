-- Dates that exist, their counts of days, and their day numbers.
use Rattle.std.specs.Prelude.{◌≡◌, refl, true, false, ◌↔◌, ℕ, ◌-◌, ◌≤◌, ◌<◌, get_or, ℤ, pos, negsuc, neg_ℤ, nat_abs, ◌+ℤ◌, ◌-ℤ◌}
use Rattle.std.proofs.Common.{sym, ap, ◌∙◌, arith}
use Rattle.std.proofs.lemmas.Bool.{not-false}
use Rattle.integers.specs.Difference.{eq_of_parts, parts_of_eq, add_is, sub_is, le_z_true}
use Rattle.integers.specs.Size.{abs_le}
use Rattle.rules.specs.declared.Date.{Date}
use Rattle.rules.specs.Years.{months}
use Rattle.rules.specs.Calendar.{day_count, day_number, date_of_count, date_of_number, year_refused, month_days}
use Rattle.rules.specs.Calendar.{day_refused}
use Rattle.laws.specs.Ranges.{yes, both_true, both_iff, refused_iff, accepted_iff, Between, between_iff}
use Rattle.laws.specs.Ranges.{le_of_sizes, in_range_lem, of_range}
use Rattle.laws.specs.Calendar.{before_2000}
use Rattle.laws.specs.DayCounts.{Real, date, day_count_lt}

-- ---- dates that exist

-- "year 1972 to 2099"
abbrev pub YearExists : Date → Type 0
YearExists d = Between (pos 1972) (pos 2099) d.year

-- there is such a month, and such a day in it
abbrev pub DayExists : Date → Type 0
DayExists d = Between (pos 1) (pos 12) d.month × Between (pos 1) (pos (month_days d)) d.day

pub year_refused_iff : (d : Date) → year_refused d ≡ true ↔ ¬ (YearExists d)
unfolding year_refused
year_refused_iff d = refused_iff _ (between_iff _ _ d.year)

pub year_accepted_iff : (d : Date) → year_refused d ≡ false ↔ YearExists d
unfolding year_refused
year_accepted_iff d = accepted_iff _ (between_iff _ _ d.year)

pub day_refused_iff : (d : Date) → day_refused d ≡ true ↔ ¬ (DayExists d)
unfolding day_refused
day_refused_iff d = refused_iff _ (both_iff _ _ (between_iff _ _ d.month) (between_iff _ _ d.day))

pub day_accepted_iff : (d : Date) → day_refused d ≡ false ↔ DayExists d
unfolding day_refused
day_accepted_iff d = accepted_iff _ (both_iff _ _ (between_iff _ _ d.month) (between_iff _ _ d.day))

-- its numbers are naturals, and a date of the span
pub record RealDate (d : Date) : Type 0 where
  pub year_is : d.year ≡ pos (nat_abs d.year)
  pub month_is : d.month ≡ pos (nat_abs d.month)
  pub day_is : d.day ≡ pos (nat_abs d.day)
  pub real : Real (nat_abs d.year) (nat_abs d.month) (nat_abs d.day)

pub real_date : (d : Date) → year_refused d ≡ false → day_refused d ≡ false → RealDate d
unfolding year_refused day_refused month_days
real_date d g h =
    let a = in_range_lem 1972 2099 d.year (not-false _ g) in
    let u = both_true _ _ (not-false _ h) in
    let b = in_range_lem 1 12 d.month u.0 in
    let c = in_range_lem 1 (get_or (months (nat_abs d.year)) (nat_abs d.month - 1) 0) d.day u.1 in
    record {
      year_is = a.is;
      month_is = b.is;
      day_is = c.is;
      real = record {
        year_ge = a.at_least;
        year_le = a.at_most;
        month_ge = b.at_least;
        month_le = b.at_most;
        day_ge = c.at_least;
        day_le = c.at_most;
      };
    }

pub real_date_is : (d : Date) → RealDate d → d ≡ date (nat_abs d.year) (nat_abs d.month) (nat_abs d.day)
real_date_is d r = λ i. record { year = r.year_is i; month = r.month_is i; day = r.day_is i }

pub real_accepted : (y m d : ℕ) → Real y m d → (year_refused (date y m d) ≡ false) × (day_refused (date y m d) ≡ false)
unfolding year_refused day_refused month_days
real_accepted y m d r = (
  rw (of_range 1972 2099 y r.year_ge r.year_le),
  rw (of_range 1 12 m r.month_ge r.month_le, of_range 1 (get_or (months y) (m - 1) 0) d r.day_ge r.day_le),
)

-- ---- counts and numbers

pub day_number_is : (d : Date) → day_number d ≡ pos (day_count d) -ℤ pos 10227
unfolding day_number
day_number_is d = rw before_2000

pub date_of_number_is : (n : ℤ) → date_of_number n ≡ date_of_count (nat_abs (n +ℤ pos 10227))
unfolding date_of_number
date_of_number_is n = rw before_2000

-- of an existing date
pub real_count_lt : (d : Date) → RealDate d → day_count d < 46752
real_count_lt d r = rw (ap day_count (real_date_is d r)) (day_count_lt _ _ _ r.real)

-- a day number of the span has a count of days
pub record InSpan (n : ℤ) : Type 0 where
  pub is : n +ℤ pos 10227 ≡ pos (nat_abs (n +ℤ pos 10227))
  pub lt : nat_abs (n +ℤ pos 10227) < 46752

pub in_span : (n : ℤ) → Between (neg_ℤ (pos 10227)) (pos 36524) n → InSpan n
in_span n p = go (n +ℤ pos 10227) refl
  where
    go : (z : ℤ) → n +ℤ pos 10227 ≡ z → InSpan n
    go (pos k) e =
        let a = le_z_true n (pos 36524) (yes _ p.below.le) in
        record {
          is = e ∙ sym (ap (λ z. pos (nat_abs z)) e);
          lt = rw e (omega (arith, add_is n (pos 10227), parts_of_eq _ (pos k) e));
        }
    go (negsuc k) e =
        let a = le_z_true (negsuc 10226) n (yes _ p.above.le) in
        absurd (omega (arith, add_is n (pos 10227), parts_of_eq _ (negsuc k) e))

pub number_le : (n : ℤ) → Between (neg_ℤ (pos 10227)) (pos 36524) n → nat_abs n ≤ 36524
number_le n p =
    let a = le_z_true n (pos 36524) (yes _ p.below.le) in
    let b = le_z_true (negsuc 10226) n (yes _ p.above.le) in
    abs_le n 36524 (omega arith) (omega arith)

pub count_in_span : (k : ℕ) → k < 46752 → Between (neg_ℤ (pos 10227)) (pos 36524) (pos k -ℤ pos 10227)
count_in_span k h = record {
  above = le_of_sizes (negsuc 10226) (pos k -ℤ pos 10227) (omega (arith, sub_is (pos k) (pos 10227)));
  below = le_of_sizes (pos k -ℤ pos 10227) (pos 36524) (omega (arith, sub_is (pos k) (pos 10227)));
}

pub real_number_le : (d : Date) → RealDate d → nat_abs (day_number d) ≤ 36524
real_number_le d r = rw (day_number_is d) (number_le _ (count_in_span (day_count d) (real_count_lt d r)))

pub number_count : (k : ℕ) → (pos k -ℤ pos 10227) +ℤ pos 10227 ≡ pos k
number_count k =
    eq_of_parts ((pos k -ℤ pos 10227) +ℤ pos 10227) (pos k)
    (omega (arith, sub_is (pos k) (pos 10227), add_is (pos k -ℤ pos 10227) (pos 10227)))

pub count_number : (n : ℤ) (k : ℕ) → n +ℤ pos 10227 ≡ pos k → pos k -ℤ pos 10227 ≡ n
count_number n k e =
    eq_of_parts (pos k -ℤ pos 10227) n
    (omega (arith, sub_is (pos k) (pos 10227), add_is n (pos 10227), parts_of_eq (n +ℤ pos 10227) (pos k) e))
