-- The order of accepted UTC times: a later one has more ms of the span before it, through every added second, and no
-- two have as many. Later is said of the parts of date and time of day, from the year down.
use Rattle.std.specs.Prelude.{◌≡◌, refl, Bool, true, false, ◌⊎◌, List, [], ◌∷◌, ℕ, suc, ◌+◌, ◌-◌, ◌<◌, length, take, ℤ, pos, negsuc, nat_abs, ◌<ℤ◌}
use Rattle.std.proofs.Common.{sym, ap, ◌∙◌, inl, inr, ⊎_elim, arith}
use Rattle.std.specs.Int.Signed.{lt_z}
use Rattle.integers.specs.Difference.{eq_of_parts, parts_of_eq, lt_z_true, lt_z_false}
use Rattle.rules.specs.declared.Date.{Date}
use Rattle.rules.specs.declared.Time.{Time}
use Rattle.rules.specs.declared.Utc.{Utc}
use Rattle.rules.specs.Answers.{utc_numbers}
use Rattle.rules.specs.Years.{months, sum, years}
use Rattle.rules.specs.Calendar.{day_count}
use Rattle.laws.specs.Ranges.{yes, holds}
use Rattle.laws.specs.Refusals.{utc_of_numbers}
use Rattle.laws.specs.Rows.{earlier_span}
use Rattle.laws.specs.DayCounts.{day_of_year, day_count_is, day_of_year_lt}
use Rattle.laws.specs.DayNumbers.{RealDate, real_date_is}
use Rattle.laws.specs.Instants.{range_of, RealTime, ms_count}
use Rattle.laws.specs.Days.{ms_before, earlier_day}
use Rattle.laws.specs.Clocks.{AcceptedUtc, accepted_date, accepted_time, ms_of, ms_lt}

-- ---- earlier and later

-- the first parts that differ decide
abbrev pub Earlier : List ℤ → List ℤ → Type 0
Earlier [] ys = ⊥
Earlier (x ∷ xs) [] = ⊥
Earlier (x ∷ xs) (y ∷ ys) = (x <ℤ y) ⊎ ((x ≡ y) × Earlier xs ys)

-- of two numbers one is the smaller, or they are the same
compared : (x y : ℤ) → (x ≡ y) ⊎ ((x <ℤ y) ⊎ (y <ℤ x))
compared x y = go (lt_z x y) (lt_z y x) refl refl
  where
    go : (a b : Bool) → lt_z x y ≡ a → lt_z y x ≡ b → (x ≡ y) ⊎ ((x <ℤ y) ⊎ (y <ℤ x))
    go true b e f = inr (inl (record { lt = holds (lt_z x y) e }))
    go false true e f = inr (inr (record { lt = holds (lt_z y x) f }))
    go false false e f = inl (eq_of_parts x y (omega (arith, lt_z_false x y e, lt_z_false y x f)))

-- of two UTC times one is the earlier, or they are the same
in_order : (xs ys : List ℤ) → length xs ≡ length ys → (xs ≡ ys) ⊎ (Earlier xs ys ⊎ Earlier ys xs)
in_order [] [] e = inl refl
in_order [] (y ∷ ys) e = absurd (omega arith)
in_order (x ∷ xs) [] e = absurd (omega arith)
in_order (x ∷ xs) (y ∷ ys) e = go (compared x y) (in_order xs ys (omega arith))
  where
    go : (x ≡ y) ⊎ ((x <ℤ y) ⊎ (y <ℤ x)) → (xs ≡ ys) ⊎ (Earlier xs ys ⊎ Earlier ys xs)
        → (x ∷ xs ≡ y ∷ ys) ⊎ (Earlier (x ∷ xs) (y ∷ ys) ⊎ Earlier (y ∷ ys) (x ∷ xs))
    go (inl p) (inl q) = inl (λ i. p i ∷ q i)
    go (inl p) (inr (inl q)) = inr (inl (inr (p, q)))
    go (inl p) (inr (inr q)) = inr (inr (inr (sym p, q)))
    go (inr (inl p)) q = inr (inl (inl p))
    go (inr (inr p)) q = inr (inr (inl p))

-- parts that are not below nought are in the order of their sizes
sizes : (x y : ℤ) → x ≡ pos (nat_abs x) → y ≡ pos (nat_abs y) → x <ℤ y → nat_abs x < nat_abs y
sizes (pos a) (pos b) p q h = omega (arith, lt_z_true (pos a) (pos b) (yes _ h.lt))
sizes (pos a) (negsuc b) p q h = absurd h.lt
sizes (negsuc a) y p q h = absurd (omega (arith, parts_of_eq (negsuc a) (pos (suc a)) p))

-- ---- dates

count_is : (d : Date) → RealDate d
    → day_count d ≡ sum (take (nat_abs d.year - 1972) years)
    + day_of_year (nat_abs d.year) (nat_abs d.month) (nat_abs d.day)
count_is d r = ap day_count (real_date_is d r) ∙ day_count_is _ _ _

module _ (d e : Date) (r : RealDate d) (s : RealDate e) where
  later_year : d.year <ℤ e.year → day_count d < day_count e
  later_year h =
      let l = sizes d.year e.year r.year_is s.year_is h in
      omega (
        arith,
        count_is d r,
        count_is e s,
        earlier_span years (nat_abs d.year - 1972) (nat_abs e.year - 1972) _
            (omega (arith, r.real.year_ge, s.real.year_ge)) (day_of_year_lt _ _ _ r.real),
      )

  later_month : d.year ≡ e.year → d.month <ℤ e.month → day_count d < day_count e
  later_month p h =
      let l = sizes d.month e.month r.month_is s.month_is h in
      let c = count_is e s in
      let y : ℕ = nat_abs d.year in
      let q : day_count e ≡ sum (take (y - 1972) years) + day_of_year y (nat_abs e.month) (nat_abs e.day) = rw p c in
      omega (
        arith,
        count_is d r,
        earlier_span (months y) (nat_abs d.month - 1) (nat_abs e.month - 1) (nat_abs d.day - 1)
            (omega (arith, r.real.month_ge, s.real.month_ge)) (omega (arith, r.real.day_ge, r.real.day_le)),
      )

  later_day : d.year ≡ e.year → d.month ≡ e.month → d.day <ℤ e.day → day_count d < day_count e
  later_day p m h =
      let l = sizes d.day e.day r.day_is s.day_is h in
      let q : day_count e ≡ sum (take (nat_abs d.year - 1972) years)
      + day_of_year (nat_abs d.year) (nat_abs d.month) (nat_abs e.day) = rw (p, m) (count_is e s) in
      omega (arith, count_is d r, r.real.day_ge)

-- ---- times of a day

-- hour, minute, second, ms
abbrev clock : Time → List ℤ
clock t = t.hour ∷ t.minute ∷ t.second ∷ t.ms ∷ []

module _ (u v : Utc) (a : AcceptedUtc u) (b : AcceptedUtc v) where
  abbrev s : RealTime u.time
  s = accepted_time u a

  abbrev t : RealTime v.time
  t = accepted_time v b

  -- what comes after the hour, and after the minute, is below it: second 60 is at 23:59 alone
  later_hour : u.time.hour <ℤ v.time.hour → ms_count u.time < ms_count v.time
  later_hour h =
      let l = sizes u.time.hour v.time.hour s.hour.is t.hour.is h in
      ⊎_elim
      (λ q. omega (arith, s.minute.at_most, (range_of 0 59 u.time.second q).at_most, s.ms.at_most))
      (λ q. absurd (omega (arith, ap nat_abs q.hour, t.hour.at_most)))
      a.time.second

  later_minute : u.time.hour ≡ v.time.hour → u.time.minute <ℤ v.time.minute
      → ms_count u.time < ms_count v.time
  later_minute e h =
      let l = sizes u.time.minute v.time.minute s.minute.is t.minute.is h in
      ⊎_elim
      (λ q. omega (arith, ap nat_abs e, (range_of 0 59 u.time.second q).at_most, s.ms.at_most))
      (λ q. absurd (omega (arith, ap nat_abs q.minute, t.minute.at_most)))
      a.time.second

  later_clock : Earlier (clock u.time) (clock v.time) → ms_count u.time < ms_count v.time
  later_clock (inl h) = later_hour h
  later_clock (inr (e, inl h)) = later_minute e h
  later_clock (inr (e, inr (f, inl h))) =
      let l = sizes u.time.second v.time.second s.second.is t.second.is h in
      omega (arith, ap nat_abs e, ap nat_abs f, s.ms.at_most)
  later_clock (inr (e, inr (f, inr (g, inl h)))) =
      let l = sizes u.time.ms v.time.ms s.ms.is t.ms.is h in
      omega (arith, ap nat_abs e, ap nat_abs f, ap nat_abs g)
  later_clock (inr (e, inr (f, inr (g, inr (i, bad))))) = absurd bad

  -- ---- later

  on_later_day : day_count u.date < day_count v.date → ms_of u < ms_of v
  on_later_day h = omega (arith, earlier_day _ _ _ h (ms_lt u a))

  -- a later UTC time has more ms of the span before it
  pub later_more : Earlier (utc_numbers u) (utc_numbers v) → ms_of u < ms_of v
  later_more (inl h) = on_later_day (later_year u.date v.date (accepted_date u a) (accepted_date v b) h)
  later_more (inr (p, inl h)) =
      on_later_day (later_month u.date v.date (accepted_date u a) (accepted_date v b) p h)
  later_more (inr (p, inr (m, inl h))) =
      on_later_day (later_day u.date v.date (accepted_date u a) (accepted_date v b) p m h)
  later_more (inr (p, inr (m, inr (d, rest)))) =
      let e : day_count u.date ≡ day_count v.date =
      λ i. day_count (record { year = p i; month = m i; day = d i }) in
      omega (arith, later_clock rest, ap ms_before e)

-- no two have as many
pub same_ms : (u v : Utc) → AcceptedUtc u → AcceptedUtc v → ms_of u ≡ ms_of v → u ≡ v
same_ms u v a b e = go (in_order (utc_numbers u) (utc_numbers v) refl)
  where
    go : (utc_numbers u ≡ utc_numbers v)
        ⊎ (Earlier (utc_numbers u) (utc_numbers v) ⊎ Earlier (utc_numbers v) (utc_numbers u)) → u ≡ v
    go (inl p) = ap utc_of_numbers p
    go (inr (inl p)) = absurd (omega (arith, later_more u v a b p))
    go (inr (inr p)) = absurd (omega (arith, later_more v u b a p))
