-- Bringing to length, for x up to 260,282,364 (50,000,000,000 µas): the sine is not moved, the cosine is moved by just
-- what the length lacks of 2^30, and so falls from one x to a larger by no more than x rises.
use Rattle.std.specs.Prelude.{◌≡◌, refl, ℕ, zero, suc, ◌+◌, ◌*◌, ◌-◌, ◌≤◌, ◌<◌, nat_abs, ◌*ℤ◌}
use Rattle.std.proofs.Common.{subst, mul-le-mul_left, mul-le-mul_right, arith}
use Rattle.std.proofs.Math.Nat.{mul-le-mul}
use Rattle.std.proofs.Math.Decide.{dec_le}
use Rattle.std.proofs.Math.IntN.{pos}
use Rattle.integers.specs.Size.{abs_mul}
use Rattle.rules.specs.Units.{unit}
use Rattle.rules.specs.Rounding.{rnd, rnd_size}
use Rattle.rules.specs.Length.{square, pair_squares, part_to, pair_to_length}
use Rattle.rules.specs.Circle.{square_parts, stage, stages, raw_sine, raw_cosine, pair_of_parts}
use Rattle.laws.specs.Rounding.{abs_rnd, rnd_size_is}
use Rattle.laws.specs.Root.{Root, root_root}
use Rattle.laws.specs.UpTo.{UpTo, up_to_pos, up_to_le}
use Rattle.laws.specs.Circle.{half_quarter_parts, raw_cosine_range}
use Rattle.laws.specs.CircleLength.{raw_pair, length_of, length_near_unit}
use Rattle.laws.specs.Sines.{raw_sine_low}
use Rattle.laws.specs.SineSteps.{raw_sine_steps, raw_cosine_falls, raw_cosine_steps}

-- ---- sizes alone: l is the length

-- a part below a quarter of 2^30 is not moved
small_unmoved : (s l : ℕ) → unit ≤ l + 2 → l ≤ unit + 1 → 4 * s + 2 < unit → rnd_size (s * unit) l ≡ s
small_unmoved s l h k i = rnd_size_is (s * unit) l s
    (omega (arith, mul-le-mul_right s k)) (omega (arith, mul-le-mul_right s h))

-- one above three quarters is moved by what the length lacks
large_moved : (c l : ℕ) → unit ≤ l + 2 → l ≤ unit + 1 → 3 * unit + 3 ≤ 4 * c → c ≤ unit
    → rnd_size (c * unit) l + l ≡ c + unit
large_moved c l h k i j =
    let e : 1073741822 + (l - 1073741822) ≡ l = omega arith in
    subst (λ m. rnd_size (c * unit) m + m ≡ c + unit) e (by (l - 1073741822) (omega arith))
  where
    by : (d : ℕ) → d ≤ 3 → rnd_size (c * unit) (1073741822 + d) + (1073741822 + d) ≡ c + unit
    by zero q = omega (arith, rnd_size_is (c * unit) 1073741822 (c + 2) (omega arith) (omega arith))
    by (suc zero) q = omega (arith, rnd_size_is (c * unit) 1073741823 (c + 1) (omega arith) (omega arith))
    by (suc (suc zero)) q = omega (arith, rnd_size_is (c * unit) 1073741824 c (omega arith) (omega arith))
    by (suc (suc (suc zero))) q = omega (arith, rnd_size_is (c * unit) 1073741825 (c - 1) (omega arith) (omega arith))
    by (suc (suc (suc (suc d)))) q = absurd (omega arith)

-- where the cosine falls by a, the length rises by no more than what is left of a rise of x
length_rises : (c s l b t m a p : ℕ) → c ≡ b + a → 1 ≤ a + p → t ≤ s + (a + p) → s ≤ 260282364 → t ≤ 260282364
    → 260282364 ≤ b → unit ≤ l + 2 → c * c + s * s < (l + 1) * (l + 1) → m * m ≤ b * b + t * t → m ≤ l + p
length_rises c s l b t m a p e o h i j k q u v = by (dec_le m (l + p))
  where
    by : Dec (m ≤ l + p) → m ≤ l + p
    by (yes r) = r
    by (no r) =
        let g : l + 1 + p ≤ m = omega arith in
        let z : 260282364 ≤ l + 1 = omega arith in
        absurd (omega (
          arith,
          rw e at u,
          mul-le-mul g g,
          mul-le-mul_left t h,
          mul-le-mul_left s h,
          mul-le-mul_left (a + p) i,
          mul-le-mul_left (a + p) j,
          mul-le-mul_left a k,
          mul-le-mul_left p z,
        ))

-- ---- of x

cosine_at_nought : nat_abs (raw_cosine (pos 0)) ≡ unit
unfolding raw_cosine stages stage square_parts rnd rnd_size
cosine_at_nought = refl

module _ (x : ℕ) (hx : x ≤ 260282364) where
  small_range : UpTo (pos x) half_quarter_parts
  small_range = up_to_pos x half_quarter_parts (omega arith)

  sine_small : nat_abs (raw_sine (pos x)) ≤ 260282364
  sine_small = raw_sine_low (pos x) small_range 260282364 (up_to_pos x 260282364 hx)

  cosine_large : 3 * unit + 3 ≤ 4 * nat_abs (raw_cosine (pos x))
  cosine_large = omega (
    arith,
    raw_cosine_steps 0 x (omega arith) (omega arith) 1 (omega arith),
    cosine_at_nought,
  )

  pub sine_unmoved : nat_abs (pair_of_parts (pos x)).sine ≡ nat_abs (raw_sine (pos x))
  unfolding pair_of_parts pair_to_length part_to
  sine_unmoved =
      let s = raw_sine (pos x) in
      let l = length_of (pos x) in
      let n = length_near_unit (pos x) small_range in
      rw (abs_rnd (s *ℤ pos unit) l, abs_mul s (pos unit))
      (small_unmoved (nat_abs s) l n.0 n.1 (omega (arith, sine_small)))

  cosine_by_length : nat_abs (pair_of_parts (pos x)).cosine + length_of (pos x) ≡ nat_abs (raw_cosine (pos x)) + unit
  unfolding pair_of_parts pair_to_length part_to
  cosine_by_length =
      let c = raw_cosine (pos x) in
      let l = length_of (pos x) in
      let n = length_near_unit (pos x) small_range in
      rw (abs_rnd (c *ℤ pos unit) l, abs_mul c (pos unit))
      (large_moved (nat_abs c) l n.0 n.1 cosine_large (up_to_le c unit (raw_cosine_range (pos x) small_range)))

  length_root : Root (nat_abs (raw_cosine (pos x)) * nat_abs (raw_cosine (pos x))
      + nat_abs (raw_sine (pos x)) * nat_abs (raw_sine (pos x))) (length_of (pos x))
  unfolding pair_squares square
  length_root =
      let c = up_to_le (raw_cosine (pos x)) unit (raw_cosine_range (pos x) small_range) in
      root_root (pair_squares (raw_pair (pos x))) (omega (arith, mul-le-mul c c, mul-le-mul sine_small sine_small))

-- the cosine falls by no more than x rises, or by one
pub cosine_steps_lem : (x y e : ℕ) → x ≤ y → y ≤ 260282364 → y ≤ x + e → 1 ≤ e
    → nat_abs (pair_of_parts (pos x)).cosine ≤ e + nat_abs (pair_of_parts (pos y)).cosine
cosine_steps_lem x y e h k l o =
    let hx : x ≤ 260282364 = omega arith in
    let hy : y ≤ half_quarter_parts = omega arith in
    let c = nat_abs (raw_cosine (pos x)) in
    let b = nat_abs (raw_cosine (pos y)) in
    let f = raw_cosine_falls x y h hy in
    let g = raw_cosine_steps x y h hy 1 (omega arith) in
    let i = raw_sine_steps x y h hy in
    let r = length_rises c (nat_abs (raw_sine (pos x))) (length_of (pos x)) b (nat_abs (raw_sine (pos y))) (length_of (pos y))
    (c - b) (e - (c - b)) (omega arith) (omega arith) (omega arith) (sine_small x hx) (sine_small y k)
    (omega (arith, cosine_large y k)) (length_near_unit (pos x) (small_range x hx)).0
    (length_root x hx).above (length_root y k).below in
    omega (arith, r, cosine_by_length x hx, cosine_by_length y k)
