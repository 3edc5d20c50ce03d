-- The stretch of TT over which UTC is given back, and TAI−UTC at a TT: it is that of the day on which the TT falls.
use Rattle.std.specs.Prelude.{◌≡◌, Bool, true, false, cond, ◌&&◌, ◌↔◌, ℕ, suc, ◌≤◌, ◌<◌, T, ltb, ℤ, pos, negsuc, neg_ℤ, nat_abs, ◌+ℤ◌}
use Rattle.std.proofs.Math.Path.{refl}
use Rattle.std.proofs.Common.{sym, ◌∙◌, inl, arith, ltb-true, ltb-false}
use Rattle.std.proofs.Math.Bool.{not}
use mathlib.Core.List.{List, [], ◌∷◌, map}
use Rattle.std.specs.Int.Signed.{le_z}
use Rattle.std.proofs.Math.Facts.{and_yes}
use Rattle.std.proofs.lemmas.Bool.{not-true}
use Rattle.integers.specs.Difference.{IsDifference, eq_of_parts, add_is, sub_is, le_z_true}
use Rattle.integers.specs.Size.{abs_is, parts_apart, abs_le}
use Rattle.rules.specs.declared.Tt.{Tt}
use Rattle.rules.specs.declared.Date.{Date}
use Rattle.rules.specs.Units.{between}
use Rattle.rules.specs.Years.{leap, months, sum, up_from, years}
use Rattle.rules.specs.Calendar.{days_before2000, day_count, day_number, year_refused, month_days, day_refused}
use Rattle.rules.specs.Dates.{steps, tai_minus_utc, ms_of_day, utc, tt_of}
use Rattle.rules.specs.Utc.{tt_of_utc, first_ms, first_utc, last_utc, stretch_refused, tai_minus_utc_at}
use Rattle.laws.specs.Ranges.{yes, refused_iff, accepted_iff, Between, between_iff, le_of_sizes}
use Rattle.laws.specs.DayNumbers.{year_accepted_iff, day_accepted_iff, day_number_is}
use Rattle.laws.specs.Seconds.{le_yes, le_no}
use Rattle.laws.specs.Days.{day_on, tai_on, ms_before, ms_before_grows, OfDay}
use Rattle.laws.specs.Clocks.{AcceptedUtc, tt_is}

-- ---- the stretch

-- TT t is from the first ms of the span to the last
abbrev pub InStretch : ℤ → Type 0
InStretch t = Between (neg_ℤ (pos 883655957816)) (pos 3155716869183) t

pub first_tt : tt_of_utc first_utc ≡ neg_ℤ (pos 883655957816)
unfolding leap months sum up_from years days_before2000 day_count day_number tai_minus_utc ms_of_day utc tt_of tt_of_utc
first_tt = refl

pub last_tt : tt_of_utc last_utc ≡ pos 3155716869183
unfolding leap months sum up_from years days_before2000 day_count day_number tai_minus_utc ms_of_day utc tt_of tt_of_utc
last_tt = refl

pub stretch_refused_is : (t : Tt)
    → stretch_refused t ≡ not (between (neg_ℤ (pos 883655957816)) (pos 3155716869183) t.0)
unfolding stretch_refused
stretch_refused_is t = rw (first_tt, last_tt)

pub stretch_refused_iff : (t : Tt) → stretch_refused t ≡ true ↔ ¬ (InStretch t.0)
stretch_refused_iff t = rw (stretch_refused_is t) (refused_iff _ (between_iff _ _ t.0))

pub stretch_accepted_iff : (t : Tt) → stretch_refused t ≡ false ↔ InStretch t.0
stretch_accepted_iff t = rw (stretch_refused_is t) (accepted_iff _ (between_iff _ _ t.0))

-- ---- TT as ms of the span

-- j ms of the span are before it
abbrev pub Counts : ℤ → ℕ → Type 0
Counts t j = IsDifference t j 883655957816

abbrev pub count_of : ℤ → ℕ
count_of t = nat_abs (t +ℤ pos 883655957816)

pub counts : (t : ℤ) → InStretch t → Counts t (count_of t) × (count_of t < 4039372827000)
counts t h =
    let z = t +ℤ pos 883655957816 in
    let a = le_z_true (negsuc 883655957815) t (yes _ h.above.le) in
    let b = le_z_true t (pos 3155716869183) (yes _ h.below.le) in (
      omega (arith, add_is t (pos 883655957816), abs_is z, parts_apart z),
      omega (arith, add_is t (pos 883655957816), abs_is z, parts_apart z),
    )

pub count_is : (t : ℤ) → InStretch t → t +ℤ pos 883655957816 ≡ pos (count_of t)
count_is t h =
    eq_of_parts (t +ℤ pos 883655957816) (pos (count_of t)) (omega (arith, (counts t h).0, add_is t (pos 883655957816)))

pub stretch_le : (t : ℤ) → InStretch t → nat_abs t ≤ 3155716869183
stretch_le t h = let c = counts t h in abs_le t 3155716869183 (omega (arith, c.0, c.1)) (omega (arith, c.0))

pub in_stretch : (t : ℤ) (j : ℕ) → Counts t j → j < 4039372827000 → InStretch t
in_stretch t j e h = record {
  above = le_of_sizes (negsuc 883655957815) t (omega arith);
  below = le_of_sizes t (pos 3155716869183) (omega arith);
}

-- ---- TAI−UTC at a TT

-- 00:00:00.000 of a date that exists
first_accepted : (d : Date) → year_refused d ≡ false → day_refused d ≡ false → AcceptedUtc (first_ms d)
unfolding between
first_accepted d a b = record {
  year = (year_accepted_iff d).0 a;
  day = (day_accepted_iff d).0 b;
  time = record {
    hour = (between_iff (pos 0) (pos 23) (pos 0)).0 refl;
    minute = (between_iff (pos 0) (pos 59) (pos 0)).0 refl;
    second = inl ((between_iff (pos 0) (pos 59) (pos 0)).0 refl);
    ms = (between_iff (pos 0) (pos 999) (pos 0)).0 refl;
  };
}

module _ (t : ℤ) (j n : ℕ) (c : Counts t j) (o : OfDay j n) where
  -- a date has begun at t exactly where it is not later than t's day
  begun : (d : Date) → year_refused d ≡ false → day_refused d ≡ false
      → le_z (tt_of_utc (first_ms d)) t ≡ le_z (day_number d) (day_on n)
  unfolding tt_of_utc
  begun d a b = go (ltb n (day_count d)) refl
    where
      place : IsDifference (tt_of_utc (first_ms d)) (ms_before (day_count d)) 883655957816
      place = omega (arith, tt_is (first_ms d) (pos 0) (first_accepted d a b))

      on_count : IsDifference (day_on (day_count d)) (day_count d) 10227
      on_count = omega (arith, sub_is (pos (day_count d)) (pos 10227))

      on_n : IsDifference (day_on n) n 10227
      on_n = omega (arith, sub_is (pos n) (pos 10227))

      go : (s : Bool) → ltb n (day_count d) ≡ s → le_z (tt_of_utc (first_ms d)) t ≡ le_z (day_number d) (day_on n)
      go false e =
          let l = ltb-false n (day_count d) e in
          le_yes (tt_of_utc (first_ms d)) t (omega (arith, place, o.from, ms_before_grows (day_count d) n l))
          ∙ sym (rw (day_number_is d) (le_yes (day_on (day_count d)) (day_on n) (omega (arith, on_count, on_n))))
      go true e =
          let l = ltb-true n (day_count d) e in
          le_no (tt_of_utc (first_ms d)) t (omega (arith, place, o.to, ms_before_grows (suc n) (day_count d) l))
          ∙ sym (rw (day_number_is d) (le_no (day_on (day_count d)) (day_on n) (omega (arith, on_count, on_n))))

  -- so of all of a list
  exist : List Date → Bool
  exist [] = true
  exist (d ∷ ds) = (not (year_refused d) && not (day_refused d)) && exist ds

  begun_so_far : (ds : List Date) → T (exist ds)
      → sum (map (λ d. cond (le_z (tt_of_utc (first_ms d)) t) 1 0) ds)
      ≡ sum (map (λ d. cond (le_z (day_number d) (day_on n)) 1 0) ds)
  unfolding exist sum
  begun_so_far [] h = refl
  begun_so_far (d ∷ ds) h =
      let p = and_yes (not (year_refused d) && not (day_refused d)) (exist ds) h in
      let q = and_yes (not (year_refused d)) (not (day_refused d)) p.0 in
      rw (begun d (not-true _ (yes _ q.0)) (not-true _ (yes _ q.1)), begun_so_far ds p.1)

  pub tai_at : tai_minus_utc_at t ≡ tai_on n
  unfolding tai_minus_utc_at tai_minus_utc exist leap months year_refused month_days day_refused between
  tai_at = rw (begun_so_far steps tt)
