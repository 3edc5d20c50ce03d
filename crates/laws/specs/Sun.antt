-- The Sun's longitude: the centre's sum fits a signed word as it stands, not doubled; how large the longitude can be.
use Rattle.std.specs.Prelude.{◌+◌, ◌*◌, ◌≤◌, ◌<◌, ◌^◌, ◌≡◌, List, [], ◌∷◌, ℤ, pos, nat_abs, ◌+ℤ◌, ◌-ℤ◌, ◌*ℤ◌}
use Rattle.std.proofs.Common.{ap, mul-le-mul, arith, lit<}
use Rattle.integers.specs.Ring.{ring, v0, lit, ◌⊗◌}
use Rattle.integers.specs.Size.{abs_add, abs_mul}
use Rattle.rules.specs.declared.Tt.{Tt}
use Rattle.rules.specs.Units.{unit}
use Rattle.rules.specs.Polynomials.{polynomial}
use Rattle.rules.specs.Arguments.{arguments}
use Rattle.rules.specs.Circle.{pair}
use Rattle.rules.specs.Sun.{first_row, second_row, third_row, mean_longitude_row, mean_longitude, centre_product, centre_sum}
use Rattle.rules.specs.Sun.{centre, sun_longitude}
use Rattle.laws.specs.Rounding.{rnd_near, rnd_under}
use Rattle.laws.specs.Instant.{InRange}
use Rattle.laws.specs.Polynomials.{sizes, polynomial_le}
use Rattle.laws.specs.Angles.{pair_sized}

-- the first multiple is the angle itself
pub centre_product_one : (t : Tt) (amplitude : List ℤ)
    → centre_product t amplitude (pos 1) ≡ polynomial amplitude t.0 *ℤ (pair (arguments t).sun).sine
unfolding centre_product
centre_product_one t amplitude = ap (λ (a : ℤ). polynomial amplitude t.0 *ℤ (pair a).sine) (one (arguments t).sun)
  where
    one : (a : ℤ) → pos 1 *ℤ a ≡ a
    one a = ring (a ∷ []) (lit (pos 1) ⊗ v0) v0 tt

pub centre_product_le : (t : Tt) (amplitude : List ℤ) (multiple : ℤ) → InRange t.0
    → nat_abs (centre_product t amplitude multiple) ≤ sizes amplitude * unit
unfolding centre_product
centre_product_le t amplitude multiple h =
    rw (abs_mul (polynomial amplitude t.0) (pair (multiple *ℤ (arguments t).sun)).sine)
    (mul-le-mul (polynomial_le amplitude t.0 h) (pair_sized (multiple *ℤ (arguments t).sun)).sine_le)

pub centre_sum_le : (t : Tt) → InRange t.0
    → nat_abs (centre_sum t) ≤ (sizes first_row + sizes second_row + sizes third_row) * unit
unfolding centre_sum
centre_sum_le t h =
    let a = centre_product t first_row (pos 1) in
    let b = centre_product t second_row (pos 2) in
    let c = centre_product t third_row (pos 3) in
    omega (
      arith,
      abs_add (a +ℤ b) c,
      abs_add a b,
      centre_product_le t first_row (pos 1) h,
      centre_product_le t second_row (pos 2) h,
      centre_product_le t third_row (pos 3) h,
    )

pub centre_sum_lt : (t : Tt) → InRange t.0 → nat_abs (centre_sum t) < 2 ^ 63
centre_sum_lt t h = omega (arith, centre_sum_le t h)

-- what the one rounding leaves over is at most half of 2^30
pub centre_near : (t : Tt) → 2 * nat_abs (centre_sum t -ℤ pos unit *ℤ centre t) ≤ unit
unfolding centre
centre_near t = rnd_near (centre_sum t) unit (lit< tt)

pub centre_le : (t : Tt) → InRange t.0 → nat_abs (centre t) ≤ sizes first_row + sizes second_row + sizes third_row
unfolding centre
centre_le t h = rnd_under (centre_sum t) unit (sizes first_row + sizes second_row + sizes third_row) (lit< tt)
    (omega (arith, centre_sum_le t h))

pub sun_longitude_le : (t : Tt) → InRange t.0 → nat_abs (sun_longitude t) ≤ 2 ^ 47
unfolding sun_longitude mean_longitude
sun_longitude_le t h = omega (
  arith,
  abs_add (polynomial mean_longitude_row t.0) (centre t),
  polynomial_le mean_longitude_row t.0 h,
  centre_le t h,
)
