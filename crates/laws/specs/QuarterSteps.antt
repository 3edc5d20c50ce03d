-- How the pair goes from one angle to a larger, up to a quarter: neither does its sine rise nor its cosine fall by more
-- than a part for 96 µas, but for twelve parts; and how high the sine is from 45,400,000,000 µas on.
use Rattle.std.specs.Prelude.{◌≡◌, ℕ, ◌+◌, ◌*◌, ◌-◌, ◌≤◌, pos, nat_abs}
use Rattle.std.proofs.Common.{sym, ◌∙◌, arith, lit<, lit≤}
use Rattle.std.proofs.Math.Decide.{dec_le}
use Rattle.integers.specs.Size.{abs_moved, abs_moved_back}
use Rattle.rules.specs.declared.Pair.{Pair}
use Rattle.rules.specs.Units.{unit, half, quarter, half_quarter, half_in_parts}
use Rattle.rules.specs.Circle.{raw_sine, raw_cosine, pair_of_parts, pair}
use Rattle.laws.specs.Rounding.{rnd_size_high}
use Rattle.laws.specs.UpTo.{up_to_is, up_to_le}
use Rattle.laws.specs.Circle.{half_quarter_parts}
use Rattle.laws.specs.CircleLength.{sine_moved, cosine_moved, sine_range, cosine_range, cosine_high}
use Rattle.laws.specs.CircleToHalf.{pair_to_half_is}
use Rattle.laws.specs.Angles.{sine_at_nought, pair_to_half_lem}
use Rattle.laws.specs.Sines.{before}
use Rattle.laws.specs.SineSteps.{raw_sine_steps, raw_cosine_steps}
use Rattle.laws.specs.PairSteps.{parts_of, parts_range, pair_is, parts_of_grows, parts_of_slow}
use Rattle.laws.specs.PairSteps.{raw_sine_most}

-- from the pair p to the pair q, d µas on, but for e
pub record Steps (p q : Pair) (d e : ℕ) : Type 0 where
  pub sine : 96 * nat_abs q.sine ≤ 96 * nat_abs p.sine + d + 96 * e
  pub cosine : 96 * nat_abs p.cosine ≤ 96 * nat_abs q.cosine + d + 96 * e

steps_to_half : (n m : ℕ) → n ≤ m → m ≤ half_quarter → Steps (pair (pos n)) (pair (pos m)) (m - n) 6
steps_to_half n m h k =
    let x = parts_of n in
    let y = parts_of m in
    let i = parts_range n (omega arith) in
    let j = parts_range m k in
    let g = parts_of_grows n m h in
    let l = up_to_le (pos y) half_quarter_parts j in
    let p = pair_of_parts (pos x) in
    let q = pair_of_parts (pos y) in
    rw (pair_is n (omega arith), pair_is m k) (record {
      sine = omega (
        arith,
        parts_of_slow n m h,
        raw_sine_steps x y g l,
        abs_moved q.sine (raw_sine (pos y)),
        abs_moved_back p.sine (raw_sine (pos x)),
        sine_moved (pos x) i,
        sine_moved (pos y) j,
      );
      cosine = omega (
        arith,
        parts_of_slow n m h,
        raw_cosine_steps x y g l 2 (omega arith),
        abs_moved p.cosine (raw_cosine (pos x)),
        abs_moved_back q.cosine (raw_cosine (pos y)),
        cosine_moved (pos x) i,
        cosine_moved (pos y) j,
      );
    })

-- above half a quarter, the pair of the rest is exchanged
steps_from_half : (n m : ℕ) → n ≤ m → half_quarter ≤ n → m ≤ quarter → Steps (pair (pos n)) (pair (pos m)) (m - n) 6
steps_from_half n m h i k =
    let s = steps_to_half (quarter - m) (quarter - n) (omega arith) (omega arith) in
    rw (before n (omega arith), before m k)
    (record { sine = omega (arith, s.cosine); cosine = omega (arith, s.sine) })

pub steps_to_quarter : (n m : ℕ) → n ≤ m → m ≤ quarter → Steps (pair (pos n)) (pair (pos m)) (m - n) 12
steps_to_quarter n m h k = by (dec_le m half_quarter) (dec_le half_quarter n)
  where
    by : Dec (m ≤ half_quarter) → Dec (half_quarter ≤ n) → Steps (pair (pos n)) (pair (pos m)) (m - n) 12
    by (yes i) d =
        let s = steps_to_half n m h i in
        record { sine = omega (arith, s.sine); cosine = omega (arith, s.cosine) }
    by (no i) (yes j) =
        let s = steps_from_half n m h j k in
        record { sine = omega (arith, s.sine); cosine = omega (arith, s.cosine) }
    by (no i) (no j) =
        let s = steps_to_half n half_quarter (omega arith) (lit≤ tt) in
        let t = steps_from_half half_quarter m (omega arith) (lit≤ tt) k in
        record {
          sine = omega (arith, s.sine, t.sine);
          cosine = omega (arith, s.cosine, t.cosine);
        }

-- ---- how high the sine is

sine_to_half : (n a s : ℕ) → n ≤ half_quarter → a ≤ parts_of n → 2 * (unit * (s + 2)) ≤ 2 * (a * 894784853) + unit
    → s ≤ nat_abs (pair (pos n)).sine
sine_to_half n a s h k l =
    let x = parts_of n in
    let i = parts_range n h in
    rw (pair_is n h)
    (omega (
      arith,
      raw_sine_most x a (s + 2) k (up_to_le (pos x) half_quarter_parts i) l,
      abs_moved_back (pair_of_parts (pos x)).sine (raw_sine (pos x)),
      sine_moved (pos x) i,
    ))

sine_from_half : (n : ℕ) → half_quarter ≤ n → n ≤ quarter → 536870910 ≤ nat_abs (pair (pos n)).sine
sine_from_half n h k =
    let r = quarter - n in
    rw (before n k, pair_is r (omega arith))
    (omega (arith, cosine_high (pos (parts_of r)) (parts_range r (omega arith))))

pub sine_upper : (n : ℕ) → 45400000000 ≤ n → n ≤ quarter → 196000000 ≤ nat_abs (pair (pos n)).sine
sine_upper n h k = by (dec_le n half_quarter)
  where
    by : Dec (n ≤ half_quarter) → 196000000 ≤ nat_abs (pair (pos n)).sine
    by (yes i) = sine_to_half n 236330000 196000000 i
        (omega (arith, rnd_size_high (n * half_in_parts) half (lit< tt))) (lit≤ tt)
    by (no i) = omega (arith, sine_from_half n (omega arith) k)

-- ---- at a quarter the cosine is nought; before it, no less

pub cosine_before : (n : ℕ) → n ≤ quarter → (pair (pos n)).cosine ≡ pos (nat_abs (pair (pos n)).cosine)
cosine_before n h = by (dec_le n half_quarter)
  where
    by : Dec (n ≤ half_quarter) → (pair (pos n)).cosine ≡ pos (nat_abs (pair (pos n)).cosine)
    by (yes i) =
        let x = pos (parts_of n) in
        rw (pair_is n i) (up_to_is (pair_of_parts x).cosine unit (cosine_range x (parts_range n i)))
    by (no i) =
        let r = quarter - n in
        let x = pos (parts_of r) in
        rw (before n h, pair_is r (omega arith))
        (up_to_is (pair_of_parts x).sine unit (sine_range x (parts_range r (omega arith))))

pub cosine_at_quarter : nat_abs (pair (pos quarter)).cosine ≡ 0
cosine_at_quarter =
    let e = pair_to_half_lem 0 (lit≤ tt) ∙ sym (pair_to_half_is 0) in
    rw (before quarter (lit≤ tt), e, sine_at_nought)
