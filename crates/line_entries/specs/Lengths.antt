-- How long the line of an entry is, and its parts.
use Rattle.std.specs.Prelude.{Bool, true, false, cond, List, ◌++◌, ℕ, ◌^◌, ◌≤◌, eqb, ℤ, pos, nat_abs, length}
use Rattle.std.proofs.Common.{arith, lit≤, length-append}
use Rattle.rules.specs.declared.Angles.{Angles}
use Rattle.rules.specs.declared.Entry.{Entry}
use Rattle.rules.specs.Units.{circle, quarter}
use Rattle.rules.specs.Times.{decimal}
use Rattle.laws.specs.Decimal.{word_limit, length_decimal}
use Rattle.sexagesimal.specs.Sexagesimal.{spaced, hours, bearing, elevation}
use Rattle.sexagesimal.specs.Widths.{hours_length, bearing_length, elevation_length}
use Rattle.line_entries.specs.EntryLine.{dash, or_dash, two, equatorial, horizontal}
use Rattle.line_entries.specs.EntryLine.{plain_angles, people_angles, entry_line}

-- a number of 64 bits
pub number_le : (z : ℤ) → nat_abs z ≤ 2 ^ 63 → length (decimal z) ≤ 20
number_le z h = length_decimal z (word_limit z h)

-- ---- a line

-- angles of at most a circle, and heights of at most a quarter
pub record AnglesLe (p : Angles) : Type 0 where
  pub ra : nat_abs p.ra ≤ circle
  pub declination : nat_abs p.declination ≤ quarter
  pub azimuth : nat_abs p.azimuth ≤ circle
  pub altitude : nat_abs p.altitude ≤ quarter

angle_le : (z : ℤ) → nat_abs z ≤ circle → length (decimal z) ≤ 20
angle_le z h = number_le z (omega arith)

height_le : (z : ℤ) → nat_abs z ≤ quarter → length (decimal z) ≤ 20
height_le z h = number_le z (omega arith)

-- a dash is no longer than what it stands for
pub dash_le : (height : ℤ) (angle : List ℕ) → length angle ≤ 20 → length (or_dash height angle) ≤ 20
unfolding or_dash
dash_le height angle h = by (eqb (nat_abs height) quarter)
  where
    by : (b : Bool) → length (cond b dash angle) ≤ 20
    by true = lit≤ tt
    by false = h

both_le : (a b : List ℕ) → length a ≤ 20 → length b ≤ 20 → length (spaced a ++ spaced b) ≤ 42
both_le a b h k = omega (arith, length-append (spaced a) (spaced b))

pub two_le : (angle height : ℤ) → length (decimal angle) ≤ 20 → length (decimal height) ≤ 20
    → length (two angle height) ≤ 42
unfolding two
two_le angle height h k = both_le (or_dash height (decimal angle)) (decimal height) (dash_le height (decimal angle) h) k

pub equatorial_le : (ra declination : ℤ) → length (equatorial ra declination) ≤ 42
unfolding equatorial
equatorial_le ra declination =
    both_le (or_dash declination (hours ra)) (elevation declination)
    (dash_le declination (hours ra) (omega (arith, hours_length ra))) (omega (arith, elevation_length declination))

pub horizontal_le : (azimuth altitude : ℤ) → length (horizontal azimuth altitude) ≤ 42
unfolding horizontal
horizontal_le azimuth altitude =
    both_le (or_dash altitude (bearing azimuth)) (elevation altitude)
    (dash_le altitude (bearing azimuth) (omega (arith, bearing_length azimuth)))
    (omega (arith, elevation_length altitude))

pub plain_le : (a : Angles) → AnglesLe a → length (plain_angles a) ≤ 84
unfolding plain_angles
plain_le a h =
    omega (
      arith,
      length-append (two a.ra a.declination) (two a.azimuth a.altitude),
      two_le a.ra a.declination (angle_le a.ra h.ra) (height_le a.declination h.declination),
      two_le a.azimuth a.altitude (angle_le a.azimuth h.azimuth) (height_le a.altitude h.altitude),
    )

pub people_le : (a : Angles) → length (people_angles a) ≤ 84
unfolding people_angles
people_le a =
    omega (
      arith,
      length-append (equatorial a.ra a.declination) (horizontal a.azimuth a.altitude),
      equatorial_le a.ra a.declination,
      horizontal_le a.azimuth a.altitude,
    )

chosen_le : (b : Bool) (p : Angles) → AnglesLe p → length (cond b (people_angles p) (plain_angles p)) ≤ 84
chosen_le true p h = people_le p
chosen_le false p h = plain_le p h

pub entry_le : (people : Bool) (index : ℕ) (e : Entry) → index ≤ 64 → e.mark ≤ 255 → AnglesLe e.angles
    → length (entry_line people index e) ≤ 125
unfolding entry_line
entry_le people index e h k l =
    simp length-append (omega (
      arith,
      number_le (pos index) (omega arith),
      number_le (pos e.mark) (omega arith),
      chosen_le people e.angles l,
    ))
