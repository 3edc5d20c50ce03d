-- The UTC time of a TT: its date is that of the day on which the TT falls, its time that of the ms of the day; it is
-- accepted, and has this TT.
use Rattle.std.specs.Prelude.{◌≡◌, Bool, ◌⊎◌, ◌+ℤ◌, ◌-ℤ◌}
use Rattle.std.proofs.Math.Path.{refl}
use Rattle.std.proofs.Common.{sym, ap, inl, inr}
use Rattle.std.proofs.Math.Bool.{true, false, cond}
use Prim.Native.Nat.{ℕ, suc, ◌+◌, ◌-◌, ◌*◌, ◌/◌, ◌≤◌, ◌<◌}
use native.Mathlib.Omega.{arith}
use Rattle.std.proofs.Math.Dec.{ltb}
use Rattle.std.proofs.Math.IntN.{ℤ, pos}
use borrow.Author.Tests.{ltb-true, ltb-false, eq-eqb}
use Rattle.integers.specs.Difference.{add_is, sub_is}
use Rattle.integers.specs.Size.{abs_is, parts_apart}
use Rattle.rules.specs.Calendar.{days_before2000}
use Rattle.rules.specs.Dates.{before_step}
use Rattle.rules.specs.Utc.{tai_minus_utc_at, in_second60, ms_of_span, days_of_span, minutes_of_day, time_of_ms}
use Rattle.laws.specs.Ranges.{Between, between_iff, of_range}
use Rattle.laws.specs.Calendar.{before_2000}
use Rattle.laws.specs.Seconds.{before_step_iff}
use Rattle.laws.specs.TimeOfDay.{AddedSecond, TimeExists}
use Rattle.laws.specs.Instants.{ms_count}
use Rattle.laws.specs.Days.{day_on, day_after, tai_on, added, ms_before, ms_before_is, ms_on, ms_on_le}
use Rattle.laws.specs.Days.{ms_before_after}
use Rattle.laws.specs.Days.{ms_before_end, OfDay, Found, found}
use Rattle.laws.specs.Stretch.{InStretch, Counts, count_of, counts, tai_at}

within : (low high z : ℕ) → low ≤ z → z ≤ high → Between (pos low) (pos high) (pos z)
within low high z h k = (between_iff (pos low) (pos high) (pos z)).0 (of_range low high z h k)

with_step : (n : ℕ) → before_step (day_on n) ≡ true → added n ≡ 1
with_step n e = rw e

without_step : (n : ℕ) → before_step (day_on n) ≡ false → added n ≡ 0
without_step n e = rw e

-- ---- the day, and the ms of the day

module _ (t : ℤ) (j n : ℕ) (c : Counts t j) (o : OfDay j n) where
  after_a_second : Counts (t +ℤ pos 1000) (j + 1000)
  after_a_second = omega (arith, add_is t (pos 1000))

  -- second 60 is the last of the day, where a step comes after it
  before_last : j + 1000 < ms_before (suc n) → in_second60 t ≡ false
  unfolding in_second60
  before_last l =
      let same : OfDay (j + 1000) n = record { from = omega (arith, o.from); to = l } in
      rw (tai_at t j n c o, tai_at (t +ℤ pos 1000) (j + 1000) n after_a_second same, eq-eqb (tai_on n) (tai_on n) refl)

  in_last : ms_before (suc n) ≤ j + 1000 → in_second60 t ≡ before_step (day_on n)
  unfolding in_second60 before_step
  in_last l =
      let next : OfDay (j + 1000) (suc n) =
      record { from = l; to = omega (arith, o.to, ms_before_after (suc n)) } in
      rw (tai_at t j n c o, tai_at (t +ℤ pos 1000) (j + 1000) (suc n) after_a_second next, day_after n)

  ms_of_span_lem : ms_of_span t ≡ n * 86400000 + (j - ms_before n)
  unfolding ms_of_span
  ms_of_span_lem =
      let s : ℕ = 32184 + 1000 * tai_minus_utc_at t in
      let x : ℤ = t -ℤ pos s in
      let y : ℤ = x +ℤ pos 43200000 in
      let z : ℤ = y +ℤ pos (days_before2000 * 86400000) in
      omega (
        arith,
        sub_is t (pos s),
        add_is x (pos 43200000),
        add_is y (pos (days_before2000 * 86400000)),
        abs_is z,
        parts_apart z,
        before_2000,
        tai_at t j n c o,
        ms_before_is n,
        o.from,
      )

  days_of_span_lem : days_of_span t ≡ n
  unfolding days_of_span
  days_of_span_lem = go (ltb (j + 1000) (ms_before (suc n))) (before_step (day_on n)) refl refl
    where
      go : (a b : Bool) → ltb (j + 1000) (ms_before (suc n)) ≡ a → before_step (day_on n) ≡ b
          → ms_of_span t / 86400000 - cond (in_second60 t) 1 0 ≡ n
      go true b e f =
          let l = ltb-true _ _ e in
          rw (before_last l) (omega (arith, o.from, ms_of_span_lem, ms_before_after n, ms_on_le n))
      go false true e f =
          let l = ltb-false _ _ e in
          rw (in_last l, f) (omega (arith, o.from, o.to, ms_of_span_lem, ms_before_after n, with_step n f))
      go false false e f =
          let l = ltb-false _ _ e in
          rw (in_last l, f) (omega (arith, o.from, o.to, ms_of_span_lem, ms_before_after n, without_step n f))

  ms_of_day_lem : ms_of_span t - days_of_span t * 86400000 ≡ j - ms_before n
  ms_of_day_lem = omega (arith, days_of_span_lem, ms_of_span_lem)

-- a TT of the stretch, and the day on which it falls
pub record OfTt (t : ℤ) : Type 0 where
  pub days_lt : days_of_span t < 46752
  pub day : OfDay (count_of t) (days_of_span t)
  pub ms : ms_of_span t - days_of_span t * 86400000 ≡ count_of t - ms_before (days_of_span t)

pub of_tt : (t : ℤ) → InStretch t → OfTt t
of_tt t h =
    let c = counts t h in
    let f : Found (count_of t) 46752 = found (count_of t) 46752 (omega (arith, ms_before_end, c.1)) in
    let p : f.days ≡ days_of_span t = sym (days_of_span_lem t (count_of t) f.days c.0 f.is) in
    record {
      days_lt = rw p at f.lt;
      day = rw p at f.is;
      ms = rw p at (ms_of_day_lem t (count_of t) f.days c.0 f.is);
    }

-- ---- the time

abbrev seconds : ℕ → ℕ
seconds r = (r - minutes_of_day r * 60000) / 1000

module _ (r : ℕ) (h : r < 86401000) where
  pub ms_count_lem : ms_count (time_of_ms r) ≡ r
  unfolding minutes_of_day time_of_ms
  ms_count_lem = omega arith

  to_59 : r < 86400000 → seconds r ≤ 59
  unfolding minutes_of_day
  to_59 l = omega arith

  at_60 : 86400000 ≤ r → (minutes_of_day r ≡ 1439) × (seconds r ≡ 60)
  unfolding minutes_of_day
  at_60 l = (omega arith, omega arith)

-- a day with a ms past 86,400,000 has an added second
step_after : (n r : ℕ) (b : Bool) → before_step (day_on n) ≡ b → r < ms_on n → 86400000 ≤ r → before_step (day_on n) ≡ true
step_after n r true e h l = e
step_after n r false e h l = absurd (omega (arith, without_step n e))

-- a ms of a day is a time of the day
pub time_exists : (n r : ℕ) → r < ms_on n → TimeExists (day_on n) (time_of_ms r)
unfolding minutes_of_day time_of_ms
time_exists n r h = record {
  hour = within 0 23 _ (omega arith) (omega arith);
  minute = within 0 59 _ (omega arith) (omega arith);
  second = go (ltb r 86400000) refl;
  ms = within 0 999 _ (omega arith) (omega arith);
}
  where
    to : r < 86401000
    to = omega (arith, ms_on_le n)

    go : (b : Bool) → ltb r 86400000 ≡ b
        → Between (pos 0) (pos 59) (pos (seconds r)) ⊎ AddedSecond (day_on n) (time_of_ms r)
    go true e = inl (within 0 59 _ (omega arith) (to_59 r to (ltb-true r 86400000 e)))
    go false e =
        let l = ltb-false r 86400000 e in
        let p = at_60 r to l in
        inr (record {
          hour = ap pos (omega (arith, p.0));
          minute = ap pos (omega (arith, p.0));
          second = ap pos p.1;
          step = (before_step_iff (day_on n)).0 (step_after n r (before_step (day_on n)) refl h l);
        })
