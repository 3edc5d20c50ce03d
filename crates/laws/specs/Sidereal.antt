-- The sidereal angle lies from 0 to C − 1.
use Rattle.std.specs.Prelude.{ℕ, pos, ◌+ℤ◌, ◌*ℤ◌, ◌≤ℤ◌, ◌<ℤ◌}
use Rattle.std.proofs.Common.{lit<, lt→ltb, le→leb, arith}
use Rattle.rules.specs.declared.Ut.{Ut}
use Rattle.rules.specs.Units.{circle, day}
use Rattle.rules.specs.Rounding.{modulo}
use Rattle.rules.specs.Sidereal.{sidereal_polynomial, sidereal}
use Rattle.laws.specs.Modulo.{modulo_lt}

pub sidereal_ge : (t : Ut) → pos 0 ≤ℤ sidereal t
unfolding sidereal
sidereal_ge t = not_below (modulo (sidereal_polynomial t +ℤ pos 15000 *ℤ pos (modulo t.0 day)) circle)
  where
    not_below : (n : ℕ) → pos 0 ≤ℤ pos n
    not_below n = record { le = le→leb 0 n (omega arith) }

pub sidereal_lt : (t : Ut) → sidereal t <ℤ pos circle
unfolding sidereal
sidereal_lt t =
    let a = sidereal_polynomial t +ℤ pos 15000 *ℤ pos (modulo t.0 day) in
    record { lt = lt→ltb (modulo a circle) circle (modulo_lt a circle (lit< tt)) }
