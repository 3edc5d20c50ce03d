-- UT and TT: of every accepted moment they lie within a Julian century of J2000.0, so that refusal 12 cannot come from
-- a date.
use Rattle.std.specs.Prelude.{◌≡◌, refl, false, ℕ, ◌+◌, ◌*◌, ◌≤◌, ℤ, pos, nat_abs, ◌+ℤ◌, ◌-ℤ◌, ◌*ℤ◌, Ok}
use Rattle.std.proofs.Common.{⊎_elim, ap, arith}
use Rattle.std.proofs.lemmas.Result.{IfOk-at_ok}
use Rattle.integers.specs.Difference.{IsDifference, add_is, sub_is, mul_is}
use Rattle.integers.specs.Size.{abs_is, abs_le}
use Rattle.rules.specs.declared.Ut.{Ut}
use Rattle.rules.specs.declared.Tt.{Tt}
use Rattle.rules.specs.declared.Time.{Time}
use Rattle.rules.specs.declared.Moment.{Moment}
use Rattle.rules.specs.declared.Instants.{Instants}
use Rattle.rules.specs.Units.{century, within}
use Rattle.rules.specs.Calendar.{day_count, day_number, year_refused, day_refused}
use Rattle.rules.specs.Dates.{tai_minus_utc, time_refused, ut1_minus_utc_refused, ms_of_day, utc, ut_of, tt_of, instants}
use Rattle.laws.specs.Units.{within_le}
use Rattle.laws.specs.Ranges.{Between, between_iff, InRange, in_range_lem}
use Rattle.laws.specs.DayNumbers.{RealDate, real_date, day_number_is}
use Rattle.laws.specs.DayNumbers.{real_count_lt}
use Rattle.laws.specs.Seconds.{tai_le}
use Rattle.laws.specs.TimeOfDay.{TimeExists, time_accepted_iff}
use Rattle.laws.specs.Dates.{ut1_minus_utc_accepted_iff, tells}
use Rattle.rules.specs.Dates.{ut_and_tt}

-- ---- a time of day, in naturals

pub record RealTime (t : Time) : Type 0 where
  pub hour : InRange 0 23 t.hour
  pub minute : InRange 0 59 t.minute
  pub second : InRange 0 60 t.second
  pub ms : InRange 0 999 t.ms

pub range_of : (low high : ℕ) (z : ℤ) → Between (pos low) (pos high) z → InRange low high z
range_of low high z p = in_range_lem low high z ((between_iff _ _ z).1 p)

wider : (z : ℤ) → InRange 0 59 z → InRange 0 60 z
wider z r = record { is = r.is; at_least = r.at_least; at_most = omega (arith, r.at_most) }

sixty : (z : ℤ) → z ≡ pos 60 → InRange 0 60 z
sixty z e = rw e (record { is = refl; at_least = omega arith; at_most = omega arith })

pub real_time : (n : ℤ) (t : Time) → TimeExists n t → RealTime t
real_time n t p = record {
  hour = range_of 0 23 t.hour p.hour;
  minute = range_of 0 59 t.minute p.minute;
  second =
      ⊎_elim (λ q. wider t.second (range_of 0 59 t.second q)) (λ a. sixty t.second a.second) p.second;
  ms = range_of 0 999 t.ms p.ms;
}

-- the ms of day, in naturals
abbrev pub ms_count : Time → ℕ
ms_count t = ((nat_abs t.hour * 60 + nat_abs t.minute) * 60 + nat_abs t.second) * 1000 + nat_abs t.ms

pub ms_of_day_is : (t : Time) → RealTime t → ms_of_day t ≡ pos (ms_count t)
unfolding ms_of_day
ms_of_day_is t r = rw (r.hour.is, r.minute.is, r.second.is, r.ms.is)

-- at most that of 23:59:60.999
pub ms_count_le : (t : Time) → RealTime t → ms_count t ≤ 86400999
ms_count_le t r = omega (arith, r.hour.at_most, r.minute.at_most, r.second.at_most, r.ms.at_most)

pub ms_of_day_le : (t : Time) → RealTime t → nat_abs (ms_of_day t) ≤ 86400999
ms_of_day_le t r = rw (ms_of_day_is t r) (ms_count_le t r)

-- ---- the instants as differences of two counts of ms

pub utc_parts : (m : Moment) → RealTime m.time
    → IsDifference (utc m) (day_count m.date * 86400000 + ms_count m.time) 883656000000
unfolding utc
utc_parts m r =
    let n = day_count m.date in
    rw (day_number_is m.date, ms_of_day_is m.time r)
    (omega (
      arith,
      sub_is (pos n) (pos 10227),
      mul_is (pos n -ℤ pos 10227) (pos 86400000),
      add_is ((pos n -ℤ pos 10227) *ℤ pos 86400000) (pos (ms_count m.time)),
      sub_is ((pos n -ℤ pos 10227) *ℤ pos 86400000 +ℤ pos (ms_count m.time)) (pos 43200000),
    ))

-- a day number of the span, a ms of day, and UT1−UTC
pub record InstantParts (n t ut1_minus_utc : ℤ) : Type 0 where
  pub day_le : nat_abs n ≤ 36524
  pub ms_le : nat_abs t ≤ 86400999
  pub ut1_minus_utc_le : nat_abs ut1_minus_utc ≤ 900

-- ---- an accepted moment

pub record RealMoment (m : Moment) : Type 0 where
  pub date : RealDate m.date
  pub time : RealTime m.time
  pub ut1_minus_utc : nat_abs m.ut1_minus_utc ≤ 900

pub real_moment : (m : Moment) → year_refused m.date ≡ false → day_refused m.date ≡ false
    → time_refused (day_number m.date) m.time ≡ false → ut1_minus_utc_refused m ≡ false → RealMoment m
unfolding within
real_moment m a b c d = record {
  date = real_date m.date a b;
  time = real_time (day_number m.date) m.time ((time_accepted_iff (day_number m.date) m.time).0 c);
  ut1_minus_utc = within_le 900 m.ut1_minus_utc ((between_iff _ _ m.ut1_minus_utc).1 ((ut1_minus_utc_accepted_iff m).0 d));
}

pub utc_within : (m : Moment) → RealMoment m → nat_abs (utc m) ≤ century
utc_within m r =
    let p = utc_parts m r.time in
    let l = real_count_lt m.date r.date in
    let k = ms_count_le m.time r.time in
    abs_le (utc m) century (omega arith) (omega arith)

pub ut_of_within : (m : Moment) → RealMoment m → nat_abs (ut_of m).0 ≤ century
unfolding ut_of
ut_of_within m r =
    let p = utc_parts m r.time in
    let l = real_count_lt m.date r.date in
    let k = ms_count_le m.time r.time in
    let d = r.ut1_minus_utc in
    abs_le (utc m +ℤ m.ut1_minus_utc) century
    (omega (arith, add_is (utc m) m.ut1_minus_utc, abs_is m.ut1_minus_utc))
    (omega (arith, add_is (utc m) m.ut1_minus_utc, abs_is m.ut1_minus_utc))

pub tt_of_within : (m : Moment) → RealMoment m → nat_abs (tt_of m).0 ≤ century
unfolding tt_of
tt_of_within m r =
    let p = utc_parts m r.time in
    let l = real_count_lt m.date r.date in
    let k = ms_count_le m.time r.time in
    let s : ℕ = 32184 + 1000 * tai_minus_utc (day_number m.date) in
    let h = tai_le (day_number m.date) in
    abs_le (utc m +ℤ pos s) century (omega (arith, add_is (utc m) (pos s))) (omega (arith, add_is (utc m) (pos s)))

-- ---- the same of answers

pub instants_real : (m : Moment) (u : Ut) (t : Tt) → instants m ≡ Ok (ut_and_tt u t) → RealMoment m
instants_real m u t e =
    let p = tells m (Ok (ut_and_tt u t)) e in real_moment m p.0 p.1.0 p.1.1.0 p.1.1.1

pub instants_at_lem : (m : Moment) (u : Ut) (t : Tt) → instants m ≡ Ok (ut_and_tt u t) → (ut_of m ≡ u) × (tt_of m ≡ t)
unfolding instants
instants_at_lem m u t e =
    let p = tells m (Ok (ut_and_tt u t)) e in
    let q : Ok (ut_and_tt (ut_of m) (tt_of m)) ≡ Ok (ut_and_tt u t) = rw (p.0, p.1.0, p.1.1.0, p.1.1.1) at e in
    let same = IfOk-at_ok (λ i. ut_and_tt (ut_of m) (tt_of m) ≡ i) q refl in
    (ap (λ i. i.ut) same, ap (λ i. i.tt) same)

pub ut_within : (m : Moment) (u : Ut) (t : Tt) → instants m ≡ Ok (ut_and_tt u t) → nat_abs u.0 ≤ century
ut_within m u t e = rw (← (instants_at_lem m u t e).0) (ut_of_within m (instants_real m u t e))

pub tt_within : (m : Moment) (u : Ut) (t : Tt) → instants m ≡ Ok (ut_and_tt u t) → nat_abs t.0 ≤ century
tt_within m u t e = rw (← (instants_at_lem m u t e).1) (tt_of_within m (instants_real m u t e))
