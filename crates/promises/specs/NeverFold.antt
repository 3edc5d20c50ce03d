-- Change C-22, of the rules: no two accepted UTC times have the same TT, a later one has the larger, and each TT of the
-- stretch comes from exactly one, which is the one that is answered. A UTC time is accepted where `Dates.instants`
-- answers its moment; UT1−UTC plays no part.
use Rattle.std.specs.Prelude.{◌≡◌, ◌↔◌, ℤ, ◌<ℤ◌, Ok, Err}
use Rattle.rules.specs.declared.Ut.{Ut}
use Rattle.rules.specs.declared.Tt.{Tt}
use Rattle.rules.specs.declared.Utc.{Utc}
use Rattle.rules.specs.declared.Moment.{Moment}
use Rattle.rules.specs.declared.Refusal.{Refusal}
use Rattle.rules.specs.declared.Instants.{Instants}
use Rattle.rules.specs.Units.{+◌, −◌}
use Rattle.rules.specs.Answers.{utc_numbers}
use Rattle.rules.specs.Dates.{ut_of, instants}
use Rattle.rules.specs.Utc.{moment_with, utc_of, tt_of_utc, first_utc, last_utc, utc_at, utc_of_tt}
use Rattle.rules.specs.UtcCases.{utc_cases}
use Rattle.laws.specs.Ranges.{Between}
use Rattle.laws.specs.ClockOrder.{Earlier}
use Rattle.laws.specs.Stretch as stretch
use Rattle.laws.specs.NeverFold as law
use Rattle.laws.proofs.NeverFold as law_proved
use Rattle.rules.specs.Dates.{ut_and_tt}

-- ---- accepted UTC times

-- "two accepted UTC times have the same TT only if they are the same"
pub same_only : (m m' : Moment) (v v' : Ut) (t : Tt) → instants m ≡ Ok (ut_and_tt v t) → instants m' ≡ Ok (ut_and_tt v' t)
    → utc_of m ≡ utc_of m'
same_only m m' v v' t e e' = law_proved.same_tt m m' v v' t t e e' (λ i. t)

-- "a later one has the larger TT through every added second": later by year, month, day, hour, minute, second and ms,
-- in this order
pub later_larger : (m m' : Moment) (v v' : Ut) (t t' : Tt)
    → instants m ≡ Ok (ut_and_tt v t) → instants m' ≡ Ok (ut_and_tt v' t')
    → Earlier (utc_numbers (utc_of m)) (utc_numbers (utc_of m')) → t.0 <ℤ t'.0
later_larger m m' v v' t t' e e' h = law.later_larger m m' v v' t t' e e' h

-- ---- the stretch, and the way back

-- from the TT of 1972-01-01 00:00:00.000 to that of 2099-12-31 23:59:59.999, both included
abbrev pub InStretch : Tt → Type 0
InStretch t = Between (tt_of_utc first_utc) (tt_of_utc last_utc) t.0

-- no accepted UTC time has a TT outside it
pub all_in_stretch : (m : Moment) (v : Ut) (t : Tt) → instants m ≡ Ok (ut_and_tt v t) → InStretch t
all_in_stretch m v t e = rw (stretch.first_tt, stretch.last_tt) (law.accepted_in_stretch m v t e)

-- "each TT between the first and the last of them comes from exactly one", and it is the one that is answered
pub record FromExactlyOne (t : Tt) : Type 0 where
  pub utc : Utc
  pub answered : utc_of_tt t ≡ Ok utc
  pub comes : (d : ℤ) → Between (− 900) (+ 900) d
      → instants (moment_with utc d) ≡ Ok (ut_and_tt (ut_of (moment_with utc d)) t)
  pub only : (m : Moment) (v : Ut) → instants m ≡ Ok (ut_and_tt v t) → utc_of m ≡ utc

pub from_exactly_one : (t : Tt) → InStretch t → FromExactlyOne t
from_exactly_one t h =
    let s : stretch.InStretch t.0 = rw (stretch.first_tt, stretch.last_tt) at h in
    let answer : utc_of_tt t ≡ Ok (utc_at t.0) = law.utc_answered t s in
    record {
      utc = utc_at t.0;
      answered = answer;
      comes = law.utc_then_tt t (utc_at t.0) answer;
      only = law_proved.only_answered t (utc_at t.0) answer;
    }

-- TT to UTC and back, with any UT1−UTC
pub utc_then_tt : (t : Tt) (u : Utc) → utc_of_tt t ≡ Ok u → (d : ℤ) → Between (− 900) (+ 900) d
    → instants (moment_with u d) ≡ Ok (ut_and_tt (ut_of (moment_with u d)) t)
utc_then_tt t u e d h = law.utc_then_tt t u e d h

-- UTC to TT and back
pub tt_then_utc : (m : Moment) (v : Ut) (t : Tt) → instants m ≡ Ok (ut_and_tt v t) → utc_of_tt t ≡ Ok (utc_of m)
tt_then_utc m v t e = law_proved.tt_then_utc t m v e

-- ---- "20, a TT outside that stretch, the only one here"

pub refused_exactly : (t : Tt) → utc_of_tt t ≡ Err Refusal.Stretch ↔ ¬ (InStretch t)
refused_exactly t =
    let f = law.utc_refused_20 t in
    let s : InStretch t ↔ stretch.InStretch t.0 = rw (stretch.first_tt, stretch.last_tt) (λ h. h, λ h. h) in
    (λ e h. f.0 e (s.0 h), λ n. f.1 (λ h. n (s.1 h)))

-- and so exactly where no accepted UTC time has this TT
pub refused_none : (t : Tt)
    → utc_of_tt t ≡ Err Refusal.Stretch ↔ ((m : Moment) (v : Ut) → ¬ (instants m ≡ Ok (ut_and_tt v t)))
refused_none t = law.refused_none t

-- the stretch in numbers
pub first_tt : tt_of_utc first_utc ≡ − 883655957816
first_tt = stretch.first_tt

pub last_tt : tt_of_utc last_utc ≡ + 3155716869183
last_tt = stretch.last_tt

-- both ends are answered: they are accepted UTC times
pub first_answered : utc_of_tt (record { 0 = tt_of_utc first_utc }) ≡ Ok first_utc
first_answered = rw first_tt utc_cases.first

pub last_answered : utc_of_tt (record { 0 = tt_of_utc last_utc }) ≡ Ok last_utc
last_answered = rw last_tt utc_cases.last
