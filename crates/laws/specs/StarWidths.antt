-- A star that is accepted is of the widths of a record: 64 bits twice, 32 bits twice, signed.
use Rattle.std.specs.Prelude.{◌≡◌, true, false, List, [], ◌∷◌, ℕ, ◌-◌, ◌≤◌, ℤ, pos, negsuc, nat_abs}
use Rattle.std.proofs.Common.{arith}
use Rattle.std.specs.Int.Signed.{mag}
use Rattle.std.proofs.lemmas.Bool.{not-false}
use Rattle.rules.specs.declared.Star.{Star}
use Rattle.rules.specs.Units.{circle, quarter, between, within}
use Rattle.rules.specs.Stars.{most_motion, star_refused}
use Rattle.rules.specs.ListFile.{any_refused}
use Rattle.laws.specs.Records.{or_false}
use Rattle.laws.specs.Units.{between_parts, within_le}
use Rattle.laws.specs.Bytes.{OfWidth}
use Rattle.laws.specs.FileTests.{and_true}

-- a star whose numbers are of their widths: 64 bits twice, 32 bits twice, signed
pub record StarFits (s : Star) : Type 0 where
  pub ra_fits : OfWidth 7 s.ra
  pub declination_fits : OfWidth 7 s.declination
  pub ra_motion_fits : OfWidth 3 s.ra_motion
  pub declination_motion_fits : OfWidth 3 s.declination_motion

small : (z : ℤ) (n : ℕ) → nat_abs z ≤ n → mag z ≤ n
small (pos m) n l = l
small (negsuc m) n l = omega (arith, l)

upward : (z : ℤ) (n : ℕ) → between (pos 0) (pos n) z ≡ true → mag z ≤ n
upward (pos m) n e = let k = between_parts (pos 0) (pos n) (pos m) e in omega arith
upward (negsuc m) n e = let k = between_parts (pos 0) (pos n) (negsuc m) e in absurd (omega arith)

-- a star that is accepted is of its widths
pub star_fits : (s : Star) → star_refused s ≡ false → StarFits s
unfolding star_refused
star_fits s e =
    let k = and_true _ (within most_motion s.declination_motion) (not-false _ e) in
    let l = and_true _ (within most_motion s.ra_motion) k.0 in
    let m = and_true (between (pos 0) (pos (circle - 1)) s.ra) (within quarter s.declination) l.0 in
    record {
      ra_fits = omega (arith, upward s.ra (circle - 1) m.0);
      declination_fits = omega (arith, small s.declination quarter (within_le quarter s.declination m.1));
      ra_motion_fits = omega (arith, small s.ra_motion most_motion (within_le most_motion s.ra_motion l.1));
      declination_motion_fits =
          omega (
            arith,
            small s.declination_motion most_motion
                (within_le most_motion s.declination_motion k.1),
          );
    }

abbrev pub AllFit : List Star → Type 0
AllFit [] = Unit {0}
AllFit (s ∷ ss) = StarFits s × AllFit ss

pub all_fit : (ss : List Star) → any_refused ss ≡ false → AllFit ss
unfolding any_refused
all_fit [] e = tt
all_fit (s ∷ ss) e =
    let k = or_false (star_refused s) (any_refused ss) e in
    (star_fits s k.0, all_fit ss k.1)
