-- Accepted UTC times as ms of the span: TT counts them from the first on.
use Rattle.std.specs.Prelude.{◌≡◌, Bool, true, cond, ℕ, ◌+◌, ◌*◌, ◌<◌, ℤ, pos, neg_ℤ, nat_abs, Ok}
use Rattle.std.proofs.Common.{sym, ap, ◌∙◌, ⊎_elim, arith}
use Rattle.integers.specs.Difference.{IsDifference, add_is}
use Rattle.rules.specs.declared.Ut.{Ut}
use Rattle.rules.specs.declared.Tt.{Tt}
use Rattle.rules.specs.declared.Date.{Date}
use Rattle.rules.specs.declared.Utc.{Utc}
use Rattle.rules.specs.declared.Moment.{Moment}
use Rattle.rules.specs.declared.Instants.{Instants}
use Rattle.rules.specs.Calendar.{day_count, day_number}
use Rattle.rules.specs.Dates.{tai_minus_utc, before_step, utc, ut_of, tt_of, instants}
use Rattle.rules.specs.Utc.{moment_with, utc_of}
use Rattle.laws.specs.Ranges.{Between}
use Rattle.laws.specs.DayNumbers.{YearExists, DayExists, RealDate, year_accepted_iff, day_accepted_iff, real_date}
use Rattle.laws.specs.DayNumbers.{day_number_is}
use Rattle.laws.specs.Seconds.{before_step_iff}
use Rattle.laws.specs.TimeOfDay.{TimeExists, time_accepted_iff}
use Rattle.laws.specs.Dates.{tells, instants_accepted}
use Rattle.laws.specs.Instants.{range_of, RealTime, real_time, ms_count, utc_parts}
use Rattle.laws.specs.Days.{day_on, tai_on, ms_before, ms_on, ms_before_is}
use Rattle.rules.specs.Dates.{ut_and_tt}

-- ---- accepted

-- there is such a date, and such a time on it
pub record AcceptedUtc (u : Utc) : Type 0 where
  pub year : YearExists u.date
  pub day : DayExists u.date
  pub time : TimeExists (day_number u.date) u.time

pub accepted_date : (u : Utc) → AcceptedUtc u → RealDate u.date
accepted_date u a =
    real_date u.date ((year_accepted_iff u.date).1 a.year) ((day_accepted_iff u.date).1 a.day)

pub accepted_time : (u : Utc) → AcceptedUtc u → RealTime u.time
accepted_time u a = real_time (day_number u.date) u.time a.time

-- its instants are answered
pub of_instants : (m : Moment) (v : Ut) (t : Tt) → instants m ≡ Ok (ut_and_tt v t) → AcceptedUtc (utc_of m)
of_instants m v t e =
    let p = tells m (Ok (ut_and_tt v t)) e in
    record {
      year = (year_accepted_iff m.date).0 p.0;
      day = (day_accepted_iff m.date).0 p.1.0;
      time = (time_accepted_iff (day_number m.date) m.time).0 p.1.1.0;
    }

pub instants_of_lem : (u : Utc) (d : ℤ) → AcceptedUtc u → Between (neg_ℤ (pos 900)) (pos 900) d
    → instants (moment_with u d) ≡ Ok (ut_and_tt (ut_of (moment_with u d)) (tt_of (moment_with u d)))
instants_of_lem u d a h = (instants_accepted (moment_with u d)).1 (a.year, (a.day, (a.time, h)))

-- ---- the ms of the span before it

abbrev pub ms_of : Utc → ℕ
ms_of u = ms_before (day_count u.date) + ms_count u.time

number_on : (d : Date) → day_number d ≡ day_on (day_count d)
number_on d = day_number_is d

one_more : (b : Bool) → b ≡ true → ◌≡◌ {A = ℕ} (cond b 1 0) 1
one_more b e = rw e

-- the time is of the day
pub ms_lt : (u : Utc) → AcceptedUtc u → ms_count u.time < ms_on (day_count u.date)
ms_lt u a =
    let n : ℤ = day_number u.date in
    let t = accepted_time u a in
    ⊎_elim
    (λ s.
    let q = range_of 0 59 u.time.second s in
    omega (arith, t.hour.at_most, t.minute.at_most, q.at_most, t.ms.at_most))
    (λ s.
    let b : before_step (day_on (day_count u.date)) ≡ true =
    ap before_step (sym (number_on u.date)) ∙ (before_step_iff n).1 s.step in
    omega (arith, one_more _ b, ap nat_abs s.hour, ap nat_abs s.minute, ap nat_abs s.second, t.ms.at_most))
    a.time.second

-- TT is as many ms after the first of the span
pub tt_is : (u : Utc) (d : ℤ) → AcceptedUtc u → IsDifference (tt_of (moment_with u d)).0 (ms_of u) 883655957816
unfolding tt_of
tt_is u d a =
    let m = moment_with u d in
    let s : ℕ = 32184 + 1000 * tai_minus_utc (day_number u.date) in
    let p = utc_parts m (accepted_time u a) in
    let n = day_count u.date in
    let e : tai_minus_utc (day_number u.date) ≡ tai_on n = ap tai_minus_utc (number_on u.date) in
    omega (arith, add_is (utc m) (pos s), ms_before_is n)
