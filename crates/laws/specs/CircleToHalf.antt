-- The pair from nought to half a quarter: near the series, by what x is (docs/MATHEMATICS.md,
-- "The pair within four parts"); the half-quarter exception gives what the two rows give.
use Rattle.std.specs.Prelude.{◌≡◌, refl, [], ◌∷◌, Bool, true, false, cond, ℕ, ◌+◌, ◌*◌, ◌≤◌, ◌<◌, ◌^◌, T, eqb, ℤ, pos, nat_abs, ◌+ℤ◌, ◌-ℤ◌, ◌*ℤ◌}
use Rattle.std.proofs.Common.{sym, ap, ◌∙◌, mul-le-mul_right, arith, eqb→eq, lit<, lit≤}
use Rattle.integers.specs.Ring.{ring, v0, v1, v2, v3, v4, v5, v6, ◌⊕◌, ◌⊖◌, ◌⊗◌, lit}
use Rattle.integers.specs.Size.{abs_add, abs_mul, abs_sub}
use Rattle.rules.specs.declared.Pair.{Pair}
use Rattle.rules.specs.Units.{unit, half, half_quarter, half_in_parts}
use Rattle.rules.specs.Rounding.{rnd, rnd_size}
use Rattle.rules.specs.Length.{root, root_from, square, pair_squares, part_to, pair_to_length}
use Rattle.rules.specs.Circle.{radian_parts, square_parts, stage, stages, raw_sine, raw_cosine, pair_of_parts, pair_at_half}
use Rattle.rules.specs.Circle.{pair_to_half}
use Rattle.rules.specs.Series.{whole, sine_series, cosine_series, pi, radian, series_to_half}
use Rattle.laws.specs.Rounding.{rnd_near}
use Rattle.laws.specs.UpTo.{UpTo, up_to_pos, up_to_product}
use Rattle.laws.specs.Near.{Near, near_moved}
use Rattle.laws.specs.Circle.{half_quarter_parts, sine_error, cosine_error, raw_sine_near, raw_cosine_near}
use Rattle.laws.specs.Circle.{errors_angle}
use Rattle.laws.specs.CircleLength.{length_of, length_near_unit, length_of_pos, cosine_moved, sine_moved}

-- ---- the exception is what the rows give

rows_at_half : pair_of_parts (radian_parts (pos half_quarter)) ≡ pair_at_half
unfolding pair_of_parts pair_to_length pair_squares square part_to root root_from raw_sine raw_cosine stages stage square_parts
    radian_parts rnd rnd_size
rows_at_half = refl

pub pair_to_half_is : (r : ℕ) → pair_to_half r ≡ pair_of_parts (radian_parts (pos r))
unfolding pair_to_half
pair_to_half_is r = by (eqb r half_quarter) (pair_of_parts (radian_parts (pos r)))
    (λ h. sym (ap (λ n. pair_of_parts (radian_parts (pos n))) (eqb→eq r half_quarter h) ∙ rows_at_half))
  where
    by : (b : Bool) (q : Pair) → (T b → pair_at_half ≡ q) → cond b pair_at_half q ≡ q
    by true q h = h tt
    by false q h = refl

-- ---- x, and r in radians

pub radian_parts_range : (r : ℕ) → r ≤ half_quarter → UpTo (radian_parts (pos r)) half_quarter_parts
unfolding radian_parts
radian_parts_range r h =
    up_to_product (pos r) (pos half_in_parts) half_quarter half_in_parts half half_quarter_parts (up_to_pos r half_quarter h)
    (up_to_pos half_in_parts half_in_parts (lit≤ tt)) (lit< tt) (lit≤ tt)

pub radian_parts_near : (r : ℕ) → r ≤ half_quarter → Near (radian_parts (pos r)) (pos (r * pi)) radian 540
unfolding radian_parts
radian_parts_near r h =
    let x = rnd (pos r *ℤ pos half_in_parts) half in
    let R = pos r *ℤ pos half_in_parts -ℤ pos half *ℤ x in
    let P = pos half_in_parts *ℤ pos (10 ^ 15) -ℤ pos unit *ℤ pos pi in
    record {
      divisor_pos = lit< tt;
      near = rw (out x (pos r) (pos half_in_parts) (pos half) (pos (10 ^ 15)) (pos unit) (pos pi))
          (omega (
            arith,
            abs_sub (pos r *ℤ P) (pos (10 ^ 15) *ℤ R),
            abs_mul (pos r) P,
            abs_mul (pos (10 ^ 15)) R,
            rnd_near (pos r *ℤ pos half_in_parts) half (lit< tt),
          ));
    }
  where
    out : (x r k h t b p : ℤ) → x *ℤ (h *ℤ t) -ℤ b *ℤ (r *ℤ p)
        ≡ r *ℤ (k *ℤ t -ℤ b *ℤ p) -ℤ t *ℤ (r *ℤ k -ℤ h *ℤ x)
    out x r k h t b p = ring (x ∷ r ∷ k ∷ h ∷ t ∷ b ∷ p ∷ [])
        (v0 ⊗ (v3 ⊗ v4) ⊖ v5 ⊗ (v1 ⊗ v6)) (v1 ⊗ (v2 ⊗ v4 ⊖ v5 ⊗ v6) ⊖ v4 ⊗ (v1 ⊗ v2 ⊖ v3 ⊗ v0)) tt

-- x of the next angle is as near to r in radians
pub radian_parts_next_near : (r : ℕ) → r + 1 ≤ half_quarter → Near (radian_parts (pos (r + 1))) (pos (r * pi)) radian 540
unfolding radian_parts
radian_parts_next_near r h =
    let x = rnd (pos (r + 1) *ℤ pos half_in_parts) half in
    let R = pos (r + 1) *ℤ pos half_in_parts -ℤ pos half *ℤ x in
    let P = pos half_in_parts *ℤ pos (10 ^ 15) -ℤ pos unit *ℤ pos pi in
    let K = pos half_in_parts *ℤ pos (10 ^ 15) in
    record {
      divisor_pos = lit< tt;
      near = rw (out x (pos r) (pos half_in_parts) (pos half) (pos (10 ^ 15)) (pos unit) (pos pi))
          (omega (
            arith,
            abs_sub (pos r *ℤ P +ℤ K) (pos (10 ^ 15) *ℤ R),
            abs_add (pos r *ℤ P) K,
            abs_mul (pos r) P,
            abs_mul (pos (10 ^ 15)) R,
            rnd_near (pos (r + 1) *ℤ pos half_in_parts) half (lit< tt),
          ));
    }
  where
    out : (x r k h t b p : ℤ) → x *ℤ (h *ℤ t) -ℤ b *ℤ (r *ℤ p)
        ≡ r *ℤ (k *ℤ t -ℤ b *ℤ p) +ℤ k *ℤ t -ℤ t *ℤ ((r +ℤ pos 1) *ℤ k -ℤ h *ℤ x)
    out x r k h t b p = ring (x ∷ r ∷ k ∷ h ∷ t ∷ b ∷ p ∷ [])
        (v0 ⊗ (v3 ⊗ v4) ⊖ v5 ⊗ (v1 ⊗ v6))
        (v1 ⊗ (v2 ⊗ v4 ⊖ v5 ⊗ v6) ⊕ v2 ⊗ v4 ⊖ v4 ⊗ ((v1 ⊕ lit (pos 1)) ⊗ v2 ⊖ v3 ⊗ v0)) tt

-- the length that the pair is divided by: from 2^30 − 2 to 2^30 + 1, so never nought
pub pair_length_near : (r : ℕ) → r ≤ half_quarter
    → (unit ≤ length_of (radian_parts (pos r)) + 2) × (length_of (radian_parts (pos r)) ≤ unit + 1)
pair_length_near r h = length_near_unit (radian_parts (pos r)) (radian_parts_range r h)

pub pair_length_pos : (r : ℕ) → r ≤ half_quarter → 0 < length_of (radian_parts (pos r))
pair_length_pos r h = length_of_pos (radian_parts (pos r)) (radian_parts_range r h)

pub radians_le : (r : ℕ) → r ≤ half_quarter → 1000 * nat_abs (pos (r * pi)) ≤ 786 * radian
radians_le r h = omega arith

-- ---- the pair of any x against the series at any fraction that x is near

module _ (x y : ℤ) (d ε : ℕ) (hx : UpTo x half_quarter_parts) (hn : Near x y d ε) (hy : 1000 * nat_abs y ≤ 786 * d) where
  pub sine_near : Near (pair_of_parts x).sine (sine_series y d) (whole d) (sine_error ε + 2000)
  sine_near = near_moved (raw_sine x) (pair_of_parts x).sine (sine_series y d) (whole d) (sine_error ε) 2
      (sine_moved x hx) (raw_sine_near x y d ε hx hn hy)

  pub cosine_near : Near (pair_of_parts x).cosine (cosine_series y d) (whole d) (cosine_error ε + 2000)
  cosine_near = near_moved (raw_cosine x) (pair_of_parts x).cosine (cosine_series y d) (whole d) (cosine_error ε) 2
      (cosine_moved x hx) (raw_cosine_near x y d ε hx hn hy)

-- ---- the pair of an angle

-- each part of p is within four parts of that of q, q being 2^30 parts over e
pub record WithinFour (p q : Pair) (e : ℕ) : Type 0 where
  pub cosine : nat_abs (p.cosine *ℤ pos e -ℤ pos unit *ℤ q.cosine) ≤ 4 * e
  pub sine : nat_abs (p.sine *ℤ pos e -ℤ pos unit *ℤ q.sine) ≤ 4 * e

pub pair_to_half_near : (r : ℕ) → r ≤ half_quarter → WithinFour (pair_to_half r) (series_to_half r) (whole radian)
unfolding series_to_half
pair_to_half_near r h =
    let x = radian_parts (pos r) in
    let y = pos (r * pi) in
    let e = errors_angle in
    let s = rw e.0 at (sine_near x y radian 540 (radian_parts_range r h) (radian_parts_near r h) (radians_le r h)) in
    let c = rw e.1 at (cosine_near x y radian 540 (radian_parts_range r h) (radian_parts_near r h) (radians_le r h)) in
    rw (pair_to_half_is r) (record {
      cosine = to_four (whole radian) _ 3374 c.near (lit≤ tt);
      sine = to_four (whole radian) _ 3665 s.near (lit≤ tt);
    })
  where
    to_four : (e t g : ℕ) → 1000 * t ≤ g * e → g ≤ 4000 → t ≤ 4 * e
    to_four e t g h k = omega (arith, mul-le-mul_right e k)
