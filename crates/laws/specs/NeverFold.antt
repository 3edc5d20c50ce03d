-- 02, C-22, of answers: two accepted UTC times have the same TT only if they are the same, a later one has the larger,
-- and each TT of the stretch comes from exactly one, which is the one that is answered.
use Rattle.std.specs.Prelude.{◌≡◌, refl, Bool, true, false, cond, ◌↔◌, ℕ, ◌+◌, ◌-◌, ◌<◌, ℤ, pos, neg_ℤ, ◌<ℤ◌, Result, Ok, Err}
use Rattle.std.proofs.Common.{sym, arith}
use Rattle.integers.specs.Difference.{eq_of_parts}
use Rattle.rules.specs.declared.Ut.{Ut}
use Rattle.rules.specs.declared.Tt.{Tt}
use Rattle.rules.specs.declared.Utc.{Utc}
use Rattle.rules.specs.declared.Moment.{Moment}
use Rattle.rules.specs.declared.Refusal.{Refusal}
use Rattle.rules.specs.declared.Instants.{Instants}
use Rattle.rules.specs.Answers.{utc_numbers}
use Rattle.rules.specs.Calendar.{date_of_count}
use Rattle.rules.specs.Dates.{ut_of, tt_of, instants}
use Rattle.rules.specs.Utc.{moment_with, utc_of, stretch_refused, days_of_span, time_of_ms, utc_at, utc_of_tt}
use Rattle.laws.specs.Ranges.{true_not_false, Between, le_of_sizes, lt_of_sizes}
use Rattle.laws.specs.DayCounts.{date, Counted, counted}
use Rattle.laws.specs.DayNumbers.{year_accepted_iff, day_accepted_iff, real_accepted, real_count_lt}
use Rattle.laws.specs.DayNumbers.{day_number_is}
use Rattle.laws.specs.Instants.{instants_at_lem}
use Rattle.laws.specs.Days.{ms_before, ms_on, ms_on_le, ms_before_after, ms_before_end, earlier_day}
use Rattle.laws.specs.Clocks.{AcceptedUtc, accepted_date, of_instants, instants_of_lem, ms_of, ms_lt, tt_is}
use Rattle.laws.specs.ClockOrder.{Earlier, later_more}
use Rattle.laws.specs.Stretch.{InStretch, stretch_refused_iff, stretch_accepted_iff, Counts, count_of, counts}
use Rattle.laws.specs.Stretch.{in_stretch}
use Rattle.laws.specs.Utc.{of_tt, ms_count_lem, time_exists}
use Rattle.rules.specs.Dates.{ut_and_tt}

-- ---- accepted UTC times

-- the ms of the span before an accepted moment
pub tt_counts : (m : Moment) (v : Ut) (t : Tt) → instants m ≡ Ok (ut_and_tt v t) → Counts t.0 (ms_of (utc_of m))
tt_counts m v t e =
    rw (← (instants_at_lem m v t e).1) (tt_is (utc_of m) m.ut1_minus_utc (of_instants m v t e))

module _ (m m' : Moment) (v v' : Ut) (t t' : Tt) (e : instants m ≡ Ok (ut_and_tt v t))
    (e' : instants m' ≡ Ok (ut_and_tt v' t')) where
  -- "a later one has the larger TT through every added second"
  pub later_larger : Earlier (utc_numbers (utc_of m)) (utc_numbers (utc_of m')) → t.0 <ℤ t'.0
  later_larger h =
      lt_of_sizes t.0 t'.0
      (omega (
        arith,
        tt_counts m v t e,
        tt_counts m' v' t' e',
        later_more (utc_of m) (utc_of m') (of_instants m v t e) (of_instants m' v' t' e') h,
      ))

-- its TT is of the stretch
pub accepted_in_stretch : (m : Moment) (v : Ut) (t : Tt) → instants m ≡ Ok (ut_and_tt v t) → InStretch t.0
accepted_in_stretch m v t e =
    let a = of_instants m v t e in
    in_stretch t.0 (ms_of (utc_of m)) (tt_counts m v t e)
    (omega (
      arith,
      ms_before_end,
      earlier_day _ 46752 _ (real_count_lt m.date (accepted_date (utc_of m) a)) (ms_lt (utc_of m) a),
    ))

-- ---- the way back

-- ms r of the day that has n days of the span before it
utc_on : (n r : ℕ) → n < 46752 → r < ms_on n
    → let u : Utc = record { date = date_of_count n; time = time_of_ms r } in AcceptedUtc u × (ms_of u ≡ ms_before n + r)
utc_on n r h l =
    let c : Counted n = counted n h in
    let a = real_accepted c.y c.m c.d c.real in
    rw c.is (
      record {
        year = (year_accepted_iff (date c.y c.m c.d)).0 a.0;
        day = (day_accepted_iff (date c.y c.m c.d)).0 a.1;
        time = rw (day_number_is (date c.y c.m c.d), c.count) (time_exists n r l);
      },
      (rw c.count (omega (arith, ms_count_lem r (omega (arith, ms_on_le n))))),
    )

pub utc_at_lem : (t : ℤ) → InStretch t → AcceptedUtc (utc_at t) × Counts t (ms_of (utc_at t))
unfolding utc_at
utc_at_lem t h =
    let o = of_tt t h in
    let n = days_of_span t in
    let r = count_of t - ms_before n in
    let l : r < ms_on n = omega (arith, o.day.from, o.day.to, ms_before_after n) in
    let w = utc_on n r o.days_lt l in
    rw o.ms (w.0, omega (arith, w.1, o.day.from, (counts t h).0))

-- ---- answers

-- two ways a TT is answered
answered_at : (b : Bool) (u w : Utc) → cond b (Err Refusal.Stretch) (Ok u) ≡ Ok w
    → (b ≡ false) × (u ≡ w)
answered_at true u w e = let z : true ≡ false = cc in true_not_false z
answered_at false u w e = (refl, (cc))

answered_refused : (b : Bool) (u : Utc)
    → cond b (Err Refusal.Stretch) (Ok u) ≡ Err Refusal.Stretch ↔ b ≡ true
answered_refused true u = (λ e. refl, λ e. refl)
answered_refused false u = (λ e. cc, λ e. true_not_false (sym e))

pub answered_same : (u w : Utc) → ◌≡◌ {A = Result Utc Refusal} (Ok u) (Ok w) → u ≡ w
answered_same u w e = cc

module _ (t : Tt) where
  -- refused exactly outside the stretch
  pub utc_refused_20 : utc_of_tt t ≡ Err Refusal.Stretch ↔ ¬ (InStretch t.0)
  unfolding utc_of_tt
  utc_refused_20 =
      let u = answered_refused (stretch_refused t) (utc_at t.0) in
      let v = stretch_refused_iff t in
      (λ e. v.0 (u.0 e), λ n. u.1 (v.1 n))

  pub utc_answered : InStretch t.0 → utc_of_tt t ≡ Ok (utc_at t.0)
  unfolding utc_of_tt
  utc_answered h = rw ((stretch_accepted_iff t).1 h)

  -- TT to UTC and back, with any UT1−UTC
  pub utc_then_tt : (u : Utc) → utc_of_tt t ≡ Ok u → (d : ℤ) → Between (neg_ℤ (pos 900)) (pos 900) d
      → instants (moment_with u d) ≡ Ok (ut_and_tt (ut_of (moment_with u d)) t)
  unfolding utc_of_tt
  utc_then_tt u e d h =
      let p = answered_at (stretch_refused t) (utc_at t.0) u e in
      let w = utc_at_lem t.0 ((stretch_accepted_iff t).0 p.0) in
      let a : AcceptedUtc u = rw p.1 at w.0 in
      let c : Counts t.0 (ms_of u) = rw p.1 at w.1 in
      let k : (tt_of (moment_with u d)).0 ≡ t.0 =
      eq_of_parts (tt_of (moment_with u d)).0 t.0 (omega (arith, tt_is u d a, c)) in
      let q : tt_of (moment_with u d) ≡ t = λ i. record { 0 = k i } in
      rw q at (instants_of_lem u d a h)

-- refused exactly where no accepted UTC time has this TT
pub refused_none : (t : Tt)
    → utc_of_tt t ≡ Err Refusal.Stretch ↔ ((m : Moment) (v : Ut) → ¬ (instants m ≡ Ok (ut_and_tt v t)))
refused_none t = (
  λ e m v f. (utc_refused_20 t).0 e (accepted_in_stretch m v t f),
  λ none. (utc_refused_20 t).1
      (λ h. none (moment_with (utc_at t.0) (pos 0)) _ (utc_then_tt t (utc_at t.0) (utc_answered t h) (pos 0) small)),
)
  where
    small : Between (neg_ℤ (pos 900)) (pos 900) (pos 0)
    small = record {
      above = le_of_sizes (neg_ℤ (pos 900)) (pos 0) (omega arith);
      below = le_of_sizes (pos 0) (pos 900) (omega arith);
    }
