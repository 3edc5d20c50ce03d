-- How the pair goes from one angle to a larger, up to 50,000,000,000 µas: its sine rises, and its cosine falls, by no
-- more than x rises; and how high the sine is.
use Rattle.std.specs.Prelude.{◌≡◌, ℕ, ◌+◌, ◌*◌, ◌-◌, ◌≤◌, ◌<◌, pos, nat_abs, ◌*ℤ◌}
use Rattle.std.proofs.Common.{mul-le-mul, arith, lit<, lit≤}
use Rattle.std.proofs.Math.Decide.{dec_le}
use Rattle.integers.specs.Size.{abs_mul}
use Rattle.rules.specs.Units.{unit, half, half_quarter, half_in_parts}
use Rattle.rules.specs.Rounding.{rnd_size}
use Rattle.rules.specs.Circle.{radian_parts, square_parts, stages, sine_row, raw_sine, pair_of_parts, pair}
use Rattle.laws.specs.Rounding.{rnd_size_rises, rnd_pos, abs_rnd, rnd_size_low, rnd_size_high, rnd_size_under}
use Rattle.laws.specs.UpTo.{UpTo, up_to_pos, up_to_product}
use Rattle.laws.specs.Circle.{half_quarter_parts}
use Rattle.laws.specs.CircleToHalf.{radian_parts_range}
use Rattle.laws.specs.Angles.{pair_to_half_lem}
use Rattle.laws.specs.Sines.{factor_from}
use Rattle.laws.specs.SineSteps.{raw_sine_steps}
use Rattle.laws.specs.LengthSteps.{sine_unmoved, cosine_steps_lem}

-- ---- how high a raw sine is

product_high : (x p a b s r : ℕ) → a ≤ x → b ≤ p → 2 * (unit * s) ≤ 2 * (a * b) + unit
    → 2 * (x * p) < 2 * (unit * r) + unit → s ≤ r
product_high x p a b s r h k l i = omega (arith, mul-le-mul h k)

square_parts_up_to : (x a b : ℕ) → x ≤ a → a * a ≤ unit * b → UpTo (square_parts (pos x)) b
unfolding square_parts
square_parts_up_to x a b h k =
    up_to_product (pos x) (pos x) a a unit b (up_to_pos x a h) (up_to_pos x a h) (lit< tt) k

-- of an x from a to c
raw_sine_from : (x a b c s : ℕ) → a ≤ x → x ≤ c → c ≤ half_quarter_parts → b ≤ unit → c * c ≤ unit * (6 * b)
    → 2 * (unit * s) ≤ 2 * (a * (unit - b)) + unit → s ≤ nat_abs (raw_sine (pos x))
unfolding raw_sine
raw_sine_from x a b c s h k l i j m =
    let p = stages (square_parts (pos x)) sine_row (pos unit) in
    let f = factor_from (pos x) (up_to_pos x half_quarter_parts (omega arith)) b i (square_parts_up_to x c (6 * b) k j) in
    rw (abs_rnd (pos x *ℤ p) unit, abs_mul (pos x) p)
    (product_high x (nat_abs p) a (unit - b) s (rnd_size (x * nat_abs p) unit) h (omega arith) m
    (rnd_size_high (x * nat_abs p) unit (lit< tt)))

-- five sixths of x
pub raw_sine_most : (x a s : ℕ) → a ≤ x → x ≤ half_quarter_parts → 2 * (unit * s) ≤ 2 * (a * 894784853) + unit
    → s ≤ nat_abs (raw_sine (pos x))
raw_sine_most x a s h k l =
    raw_sine_from x a 178956971 half_quarter_parts s h k (lit≤ tt) (lit≤ tt) (lit≤ tt) l

-- from the least x of g on
raw_sine_least : (x : ℕ) → 28224487 ≤ x → x ≤ half_quarter_parts → 28214000 ≤ nat_abs (raw_sine (pos x))
raw_sine_least x h k = by (dec_le x 50000000)
  where
    by : Dec (x ≤ 50000000) → 28214000 ≤ nat_abs (raw_sine (pos x))
    by (yes i) = raw_sine_from x 28224487 388060 50000000 28214000 h i (lit≤ tt) (lit≤ tt) (lit≤ tt) (lit≤ tt)
    by (no i) = raw_sine_most x 50000000 28214000 (omega arith) k (lit≤ tt)

-- ---- of an angle

abbrev pub parts_of : ℕ → ℕ
parts_of r = rnd_size (r * half_in_parts) half

pub radian_parts_is : (r : ℕ) → radian_parts (pos r) ≡ pos (parts_of r)
unfolding radian_parts
radian_parts_is r = rnd_pos (r * half_in_parts) half

pub parts_range : (r : ℕ) → r ≤ half_quarter → UpTo (pos (parts_of r)) half_quarter_parts
parts_range r h = rw (radian_parts_is r) at (radian_parts_range r h)

pub pair_is : (r : ℕ) → r ≤ half_quarter → pair (pos r) ≡ pair_of_parts (pos (parts_of r))
pair_is r h = rw (radian_parts_is r) at (pair_to_half_lem r h)

-- x grows with the angle, by a part for 192 µas and one at most
pub parts_of_grows : (n m : ℕ) → n ≤ m → parts_of n ≤ parts_of m
parts_of_grows n m h = omega (arith, rnd_size_rises (n * half_in_parts) (m * half_in_parts) 0 half (lit< tt) (omega arith))

pub parts_of_slow : (n m : ℕ) → n ≤ m → 192 * (parts_of m - parts_of n) ≤ (m - n) + 192
parts_of_slow n m h = omega (
  arith,
  rnd_size_low (m * half_in_parts) half,
  rnd_size_high (n * half_in_parts) half (lit< tt),
)

-- ---- up to 50,000,000,000 µas

low_parts : (n : ℕ) → n ≤ 50000000000 → parts_of n ≤ 260282364
low_parts n h = rnd_size_under (n * half_in_parts) half 260282364 (lit< tt) (omega arith)

low_sine : (n : ℕ) → n ≤ 50000000000 → nat_abs (pair (pos n)).sine ≡ nat_abs (raw_sine (pos (parts_of n)))
low_sine n h = rw (pair_is n (omega arith)) (sine_unmoved (parts_of n) (low_parts n h))

-- the sine from 5,421,897,810 µas on, which g is at the floor, and from 9,671,636,364 on
pub low_sine_least : (n : ℕ) → 5421897810 ≤ n → n ≤ 50000000000 → 28214000 ≤ nat_abs (pair (pos n)).sine
low_sine_least n h k = rw (low_sine n k)
    (raw_sine_least (parts_of n) (omega (arith, rnd_size_high (n * half_in_parts) half (lit< tt)))
    (omega (arith, low_parts n k)))

pub low_sine_higher : (n : ℕ) → 9671636364 ≤ n → n ≤ 50000000000 → 41900000 ≤ nat_abs (pair (pos n)).sine
low_sine_higher n h k = rw (low_sine n k)
    (raw_sine_most (parts_of n) 50347127 41900000 (omega (arith, rnd_size_high (n * half_in_parts) half (lit< tt)))
    (omega (arith, low_parts n k)) (lit≤ tt))

module _ (n m : ℕ) (h : n ≤ m) (k : m ≤ 50000000000) where
  pub low_sine_steps : nat_abs (pair (pos m)).sine ≤ (parts_of m - parts_of n) + nat_abs (pair (pos n)).sine
  low_sine_steps = rw (low_sine n (omega arith), low_sine m k)
      (raw_sine_steps (parts_of n) (parts_of m) (parts_of_grows n m h) (omega (arith, low_parts m k)))

  pub low_cosine_steps : (e : ℕ) → parts_of m ≤ parts_of n + e → 1 ≤ e
      → nat_abs (pair (pos n)).cosine ≤ e + nat_abs (pair (pos m)).cosine
  low_cosine_steps e i o = rw (pair_is n (omega arith), pair_is m (omega arith))
      (cosine_steps_lem (parts_of n) (parts_of m) e (parts_of_grows n m h) (low_parts m k) i o)
