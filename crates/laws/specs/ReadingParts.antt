-- The x that the sine works with at the angle of a reading: θ itself, or half a quarter less θ (docs/MATHEMATICS.md,
-- "The x of a reading"). No π enters.
use Rattle.std.specs.Prelude.{◌≡◌, [], ◌∷◌, ℕ, ◌+◌, ◌*◌, ◌-◌, ◌≤◌, ℤ, pos, negsuc, nat_abs, ◌+ℤ◌, ◌-ℤ◌, ◌*ℤ◌}
use Rattle.std.proofs.Common.{ap, ◌∙◌, mul-le-mul_left, mul-pos, arith, lit<}
use Rattle.integers.specs.Difference.{pos_sub, sub_is}
use Rattle.integers.specs.Size.{abs_le, abs_mul, abs_sub}
use Rattle.integers.specs.Ring.{ring, v0, v1, v2, v3, ◌⊕◌, ◌⊖◌, ◌⊗◌, lit}
use Rattle.rules.specs.Units.{unit, half, half_quarter, half_in_parts}
use Rattle.rules.specs.Rounding.{rnd_size}
use Rattle.rules.specs.Circle.{radian_parts}
use Rattle.rules.specs.Reading.{in_microarcseconds}
use Rattle.laws.specs.Rounding.{rnd_pos, rnd_size_is, rnd_size_low, rnd_size_high}
use Rattle.laws.specs.UpTo.{UpTo}
use Rattle.laws.specs.Near.{Near}
use Rattle.laws.specs.Circle.{half_quarter_parts}
use Rattle.laws.specs.Certificates.{over, half_quarter_angle}
use Rattle.laws.specs.HalfQuarterLess.{less_numerator, less_denominator}
use Rattle.laws.specs.Arc.{three_sevenths}
use Rattle.laws.specs.ReadingRange.{microarcseconds_pos, microarcseconds_le}

radian_parts_pos : (r : ℕ) → radian_parts (pos r) ≡ pos (rnd_size (r * half_in_parts) half)
unfolding radian_parts
radian_parts_pos r = rnd_pos (r * half_in_parts) half

-- ---- there and back: x of θ in µas is θ

back : (t : ℕ) → rnd_size (rnd_size (t * half) half_in_parts * half_in_parts) half ≡ t
back t = rnd_size_is (rnd_size (t * half) half_in_parts * half_in_parts) half t
    (omega (arith, rnd_size_high (t * half) half_in_parts (lit< tt))) (omega (arith, rnd_size_low (t * half) half_in_parts))

pub parts_of_arc : (t : ℤ) → UpTo t three_sevenths → radian_parts (in_microarcseconds t) ≡ t
parts_of_arc (negsuc t) h = absurd (omega (arith, h.low))
parts_of_arc (pos t) h =
    rw (microarcseconds_pos t, radian_parts_pos (rnd_size (t * half) half_in_parts)) (ap pos (back t))

-- ---- half a quarter less: x and θ together are x of half a quarter, or one part less

record Together (t x : ℕ) : Type 0 where
  low : half_quarter_parts ≤ x + t + 1
  high : x + t ≤ half_quarter_parts

together : (t : ℕ) → t ≤ three_sevenths
    → Together t (rnd_size ((half_quarter - rnd_size (t * half) half_in_parts) * half_in_parts) half)
together t h =
    let a = rnd_size (t * half) half_in_parts in
    let al = rnd_size_low (t * half) half_in_parts in
    let ah = rnd_size_high (t * half) half_in_parts (lit< tt) in
    let s = microarcseconds_le t h in
    let xl = rnd_size_low ((half_quarter - a) * half_in_parts) half in
    let xh = rnd_size_high ((half_quarter - a) * half_in_parts) half (lit< tt) in
    record { low = omega arith; high = omega arith }

apart : (u v b : ℕ) → u ≤ v + b → v ≤ u + b → nat_abs (pos u -ℤ pos v) ≤ b
apart u v b h k = abs_le (pos u -ℤ pos v) b
    (omega (arith, sub_is (pos u) (pos v))) (omega (arith, sub_is (pos u) (pos v)))

-- so x is near half a quarter less y / d, where θ is near y / d
less_near : (t x : ℕ) (y : ℤ) (d : ℕ) → Together t x → Near (pos t) y d 2015
    → Near (pos x) (less_numerator y d) (less_denominator d) 2600
unfolding less_numerator less_denominator
less_near t x y d l h =
    let X = pos (over * (x + t)) -ℤ pos (unit * half_quarter_angle) in
    let Y = pos t *ℤ pos d -ℤ pos unit *ℤ y in
    let k : nat_abs X ≤ 5360000000 =
    apart (over * (x + t)) (unit * half_quarter_angle) 5360000000 (omega (arith, l.high)) (omega (arith, l.low)) in
    record {
      divisor_pos = mul-pos {m = over} (lit< tt) h.divisor_pos;
      near = rw (out (pos x) (pos t) (pos d) y)
          (omega (
            arith,
            abs_sub (pos d *ℤ X) (pos over *ℤ Y),
            abs_mul (pos d) X,
            abs_mul (pos over) Y,
            mul-le-mul_left d k,
            h.near,
          ));
    }
  where
    out : (x t d y : ℤ) → x *ℤ (pos over *ℤ d) -ℤ pos unit *ℤ (pos half_quarter_angle *ℤ d -ℤ pos over *ℤ y)
        ≡ d *ℤ (pos over *ℤ (x +ℤ t) -ℤ pos (unit * half_quarter_angle)) -ℤ pos over *ℤ (t *ℤ d -ℤ pos unit *ℤ y)
    out x t d y = ring (x ∷ t ∷ d ∷ y ∷ [])
        (v0 ⊗ (lit (pos over) ⊗ v2) ⊖ lit (pos unit) ⊗ (lit (pos half_quarter_angle) ⊗ v2 ⊖ lit (pos over) ⊗ v3))
        (v2 ⊗ (lit (pos over) ⊗ (v0 ⊕ v1) ⊖ lit (pos (unit * half_quarter_angle)))
        ⊖ lit (pos over) ⊗ (v1 ⊗ v2 ⊖ lit (pos unit) ⊗ v3)) tt

-- what is known of x there
pub record PartsOfLess (t : ℤ) : Type 0 where
  pub x : ℕ
  pub is : radian_parts (pos half_quarter -ℤ in_microarcseconds t) ≡ pos x
  pub le : x ≤ half_quarter_parts
  pub near : (y : ℤ) (d : ℕ) → Near t y d 2015 → Near (pos x) (less_numerator y d) (less_denominator d) 2600

pub parts_of_less : (t : ℤ) → UpTo t three_sevenths → PartsOfLess t
parts_of_less (negsuc t) h = absurd (omega (arith, h.low))
parts_of_less (pos t) h =
    let a = rnd_size (t * half) half_in_parts in
    let l = together t h.high in
    let s : pos half_quarter -ℤ in_microarcseconds (pos t) ≡ pos (half_quarter - a) =
    ap (λ z. pos half_quarter -ℤ z) (microarcseconds_pos t) ∙ pos_sub half_quarter a (microarcseconds_le t h.high) in
    record {
      x = rnd_size ((half_quarter - a) * half_in_parts) half;
      is = ap radian_parts s ∙ radian_parts_pos (half_quarter - a);
      le = omega (arith, l.high);
      near = λ y d k. less_near t (rnd_size ((half_quarter - a) * half_in_parts) half) y d l k;
    }
