-- UTC dates with their time of day: refusals 1 to 4 given exactly when.
use Rattle.std.specs.Prelude.{◌≡◌, refl, Bool, true, false, cond, ◌↔◌, pos, neg_ℤ, Result, Ok, Err, ℤ}
use Rattle.std.proofs.Common.{sym, ◌∙◌, subst}
use Rattle.rules.specs.declared.Ut.{Ut}
use Rattle.rules.specs.declared.Tt.{Tt}
use Rattle.rules.specs.declared.Moment.{Moment}
use Rattle.rules.specs.declared.Instants.{Instants}
use Rattle.rules.specs.declared.Refusal.{Refusal}
use Rattle.rules.specs.Units.{within}
use Rattle.rules.specs.Calendar.{day_number, year_refused, day_refused}
use Rattle.rules.specs.Dates.{time_refused, ut_of, tt_of, ut1_minus_utc_refused, instants}
use Rattle.laws.specs.Ranges.{refused_iff, accepted_iff, Between, between_iff}
use Rattle.laws.specs.DayNumbers.{YearExists, DayExists, year_refused_iff, year_accepted_iff, day_refused_iff}
use Rattle.laws.specs.DayNumbers.{day_accepted_iff}
use Rattle.laws.specs.TimeOfDay.{TimeExists, time_refused_iff, time_accepted_iff}
use Rattle.rules.specs.Dates.{ut_and_tt}

-- ---- the UT1−UTC that is accepted

-- UT1−UTC within ±900 ms
abbrev pub Ut1MinusUtcSmall : Moment → Type 0
Ut1MinusUtcSmall m = Between (neg_ℤ (pos 900)) (pos 900) m.ut1_minus_utc

pub ut1_minus_utc_refused_iff : (m : Moment) → ut1_minus_utc_refused m ≡ true ↔ ¬ (Ut1MinusUtcSmall m)
unfolding ut1_minus_utc_refused within
ut1_minus_utc_refused_iff m = refused_iff _ (between_iff _ _ m.ut1_minus_utc)

pub ut1_minus_utc_accepted_iff : (m : Moment) → ut1_minus_utc_refused m ≡ false ↔ Ut1MinusUtcSmall m
unfolding ut1_minus_utc_refused within
ut1_minus_utc_accepted_iff m = accepted_iff _ (between_iff _ _ m.ut1_minus_utc)

-- ---- refused exactly when

-- five ways a moment is answered
abbrev answered : Bool → Bool → Bool → Bool → Ut → Tt → Result Instants Refusal
answered a b c d u t =
    cond a (Err Refusal.Year)
    (cond b (Err Refusal.Day)
    (cond c (Err Refusal.Time)
    (cond d (Err Refusal.Ut1MinusUtc)
    (Ok (ut_and_tt u t)))))

instants_is : (m : Moment)
    → instants m ≡ answered (year_refused m.date) (day_refused m.date) (time_refused (day_number m.date) m.time)
    (ut1_minus_utc_refused m) (ut_of m) (tt_of m)
unfolding instants
instants_is m = refl

-- what an answer tells of the four tests
abbrev Told : Result Instants Refusal → Bool → Bool → Bool → Bool → Type 0
Told (Ok i) a b c d = (a ≡ false) × ((b ≡ false) × ((c ≡ false) × (d ≡ false)))
Told (Err Refusal.Year) a b c d = a ≡ true
Told (Err Refusal.Day) a b c d = (a ≡ false) × (b ≡ true)
Told (Err Refusal.Time) a b c d = (a ≡ false) × ((b ≡ false) × (c ≡ true))
Told (Err Refusal.Ut1MinusUtc) a b c d = (a ≡ false) × ((b ≡ false) × ((c ≡ false) × (d ≡ true)))
Told (Err Refusal.Star) a b c d = ⊥
Told (Err Refusal.Site) a b c d = ⊥
Told (Err Refusal.Direction) a b c d = ⊥
Told (Err Refusal.Turn) a b c d = ⊥
Told (Err Refusal.Mark) a b c d = ⊥
Told (Err Refusal.Count) a b c d = ⊥
Told (Err Refusal.Room) a b c d = ⊥
Told (Err Refusal.Instant) a b c d = ⊥
Told (Err Refusal.Length) a b c d = ⊥
Told (Err Refusal.Reading) a b c d = ⊥
Told (Err Refusal.Stretch) a b c d = ⊥

told : (a b c d : Bool) (u : Ut) (t : Tt) → Told (answered a b c d u t) a b c d
told true b c d u t = refl
told false true c d u t = (refl, refl)
told false false true d u t = (refl, (refl, refl))
told false false false true u t = (refl, (refl, (refl, refl)))
told false false false false u t = (refl, (refl, (refl, refl)))

module _ (m : Moment) where
  pub tells : (r : Result Instants Refusal) → instants m ≡ r
      → Told r (year_refused m.date) (day_refused m.date) (time_refused (day_number m.date) m.time)
      (ut1_minus_utc_refused m)
  tells r e =
      subst (λ x. Told x (year_refused m.date) (day_refused m.date) (time_refused (day_number m.date) m.time)
      (ut1_minus_utc_refused m))
      (sym (instants_is m) ∙ e)
      (told (year_refused m.date) (day_refused m.date) (time_refused (day_number m.date) m.time)
      (ut1_minus_utc_refused m) (ut_of m) (tt_of m))

  -- refusal 1: exactly when the year is not 1972 to 2099
  pub instants_refused_1 : instants m ≡ Err Refusal.Year ↔ ¬ (YearExists m.date)
  instants_refused_1 = (
    λ e. (year_refused_iff m.date).0 (tells (Err Refusal.Year) e),
    λ n. instants_is m ∙ rw ((year_refused_iff m.date).1 n),
  )

  -- refusal 2: exactly when there is no such month or day
  pub instants_refused_2 : instants m ≡ Err Refusal.Day ↔ YearExists m.date × ¬ (DayExists m.date)
  instants_refused_2 = (
    λ e.
        let u = tells (Err Refusal.Day) e in
        ((year_accepted_iff m.date).0 u.0, (day_refused_iff m.date).0 u.1),
    λ p. instants_is m ∙ rw ((year_accepted_iff m.date).1 p.0, (day_refused_iff m.date).1 p.1),
  )

  -- refusal 3: exactly when there is no such time of day
  pub instants_refused_3 : instants m ≡ Err Refusal.Time
      ↔ YearExists m.date × (DayExists m.date × ¬ (TimeExists (day_number m.date) m.time))
  instants_refused_3 = (
    λ e.
        let u = tells (Err Refusal.Time) e in (
          (year_accepted_iff m.date).0 u.0,
          (
            (day_accepted_iff m.date).0 u.1.0,
            (time_refused_iff
                (day_number m.date) m.time).0 u.1.1,
          ),
        ),
    λ p.
        instants_is m
        ∙ rw (
          (year_accepted_iff m.date).1 p.0,
          (day_accepted_iff m.date).1 p.1.0,
          (time_refused_iff
              (day_number m.date) m.time).1 p.1.1,
        ),
  )

  -- refusal 4: exactly when UT1−UTC is not within ±900 ms
  pub instants_refused_4 : instants m ≡ Err Refusal.Ut1MinusUtc
      ↔ YearExists m.date × (DayExists m.date
      × (TimeExists (day_number m.date) m.time × ¬ (Ut1MinusUtcSmall m)))
  instants_refused_4 = (
    λ e.
        let u = tells (Err Refusal.Ut1MinusUtc) e in (
          (year_accepted_iff m.date).0 u.0,
          (
            (day_accepted_iff m.date).0 u.1.0,
            (
              (time_accepted_iff (day_number m.date) m.time).0 u.1.1.0,
              (ut1_minus_utc_refused_iff m).0
                  u.1.1.1,
            ),
          ),
        ),
    λ p.
        instants_is m
        ∙ rw (
          (year_accepted_iff m.date).1 p.0,
          (day_accepted_iff m.date).1 p.1.0,
          (time_accepted_iff (day_number m.date) m.time).1 p.1.1.0,
          (ut1_minus_utc_refused_iff m).1 p.1.1.1,
        ),
  )

  -- and no other way: accepted exactly when all four exist
  pub instants_accepted : instants m ≡ Ok (ut_and_tt (ut_of m) (tt_of m))
      ↔ YearExists m.date × (DayExists m.date × (TimeExists (day_number m.date) m.time × Ut1MinusUtcSmall m))
  instants_accepted = (
    λ e.
        let u = tells (Ok (ut_and_tt (ut_of m) (tt_of m))) e in (
          (year_accepted_iff m.date).0 u.0,
          (
            (day_accepted_iff m.date).0 u.1.0,
            (
              (time_accepted_iff (day_number m.date) m.time).0 u.1.1.0,
              (ut1_minus_utc_accepted_iff m).0
                  u.1.1.1,
            ),
          ),
        ),
    λ p.
        instants_is m
        ∙ rw (
          (year_accepted_iff m.date).1 p.0,
          (day_accepted_iff m.date).1 p.1.0,
          (time_accepted_iff (day_number m.date) m.time).1 p.1.1.0,
          (ut1_minus_utc_accepted_iff m).1 p.1.1.1,
        ),
  )
