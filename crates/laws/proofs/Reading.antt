-- The two promises of a reading, of every (h, v) that has an angle, with the pair of the answer (docs/MATHEMATICS.md,
-- "The whole circle of a reading"): from the first octant to the whole circle, by the laws of angles.
use Rattle.std.specs.Prelude.{◌≡◌, refl, Bool, true, false, cond, [], ◌∷◌, ℕ, suc, ◌+◌, ◌≤◌, ◌<◌, ℤ, pos, negsuc, neg_ℤ, nat_abs, ◌-ℤ◌, ◌*ℤ◌, Some}
use Rattle.std.proofs.Common.{sym, ap, ◌∙◌, lt_of_not-le, arith}
use Rattle.std.proofs.Math.Decide.{dec_le}
use Rattle.std.proofs.Math.IntN.{+ℤ_comm}
use Rattle.std.specs.Int.Signed.{lt_z}
use Rattle.integers.specs.Difference.{pos_part, neg_part, eq_of_parts, lt_z_false}
use Rattle.integers.specs.Size.{abs_neg}
use Rattle.integers.specs.Ring.{ring, v0, v1, v2, v3, ◌⊕◌, ◌⊖◌, ◌⊗◌, neg}
use Rattle.rules.specs.Units.{circle, half}
use Rattle.rules.specs.declared.Pair.{Pair}
use Rattle.rules.specs.Circle.{pair}
use Rattle.rules.specs.Reading.{angle_to_half, angle_to_quarter, by_signs, not_circle, angle_of, reading, Reads}
use Rattle.laws.specs.UpTo.{UpTo}
use Rattle.laws.specs.Angles.{pair_circle, pair_opposite, pair_complement, pair_half, pair_supplement}
use Rattle.laws.specs.ReadingRange.{angle_wide, angle_high, angle_to_quarter_range, by_signs_range}
use Rattle.laws.specs.ReadingRange.{signs_plus_plus, signs_minus_plus, signs_minus_minus, signs_plus_minus}
use Rattle.laws.proofs.Octant.{Points, octant_points}
use Rattle.laws.specs.NoAngle.{angled}

-- ---- the promises, mirrored

points_minus_h : (p : Pair) (h v : ℤ) → Points p h v
    → Points (record { cosine = neg_ℤ p.cosine; sine = p.sine }) (neg_ℤ h) v
points_minus_h p h v k =
    let xs = p.cosine ∷ p.sine ∷ h ∷ v ∷ [] in
    record {
      across = rw (
        ring xs (neg v0 ⊗ v3 ⊖ v1 ⊗ neg v2) (neg (v0 ⊗ v3 ⊖ v1 ⊗ v2)) tt,
        abs_neg (p.cosine *ℤ v -ℤ p.sine *ℤ h),
        abs_neg h,
      )
          k.across;
      along = rw (ring xs (neg v0 ⊗ neg v2 ⊕ v1 ⊗ v3) (v0 ⊗ v2 ⊕ v1 ⊗ v3) tt) k.along;
    }

points_minus_v : (p : Pair) (h v : ℤ) → Points p h v
    → Points (record { cosine = p.cosine; sine = neg_ℤ p.sine }) h (neg_ℤ v)
points_minus_v p h v k =
    let xs = p.cosine ∷ p.sine ∷ h ∷ v ∷ [] in
    record {
      across = rw (
        ring xs (v0 ⊗ neg v3 ⊖ neg v1 ⊗ v2) (neg (v0 ⊗ v3 ⊖ v1 ⊗ v2)) tt,
        abs_neg (p.cosine *ℤ v -ℤ p.sine *ℤ h),
        abs_neg v,
      )
          k.across;
      along = rw (ring xs (v0 ⊗ v2 ⊕ neg v1 ⊗ neg v3) (v0 ⊗ v2 ⊕ v1 ⊗ v3) tt) k.along;
    }

points_exchanged : (p : Pair) (h v : ℤ) → Points p h v → Points (record { cosine = p.sine; sine = p.cosine }) v h
points_exchanged p h v k =
    let xs = p.cosine ∷ p.sine ∷ h ∷ v ∷ [] in
    record {
      across = rw (
        ring xs (v1 ⊗ v2 ⊖ v0 ⊗ v3) (neg (v0 ⊗ v3 ⊖ v1 ⊗ v2)) tt,
        abs_neg (p.cosine *ℤ v -ℤ p.sine *ℤ h),
      )
          (omega (arith, k.across));
      along = rw (ring xs (v1 ⊗ v3 ⊕ v0 ⊗ v2) (v0 ⊗ v2 ⊕ v1 ⊗ v3) tt) k.along;
    }

-- ---- to a quarter, and by the signs

quarter_points : (h v : ℕ) → 0 < h + v → Points (pair (angle_to_quarter h v)) (pos h) (pos v)
quarter_points h v k = by (dec_le v h)
  where
    by : Dec (v ≤ h) → Points (pair (angle_to_quarter h v)) (pos h) (pos v)
    by (yes l) = rw (angle_wide h v l) (octant_points v h (omega arith) l)
    by (no l) =
        let i : h < v = lt_of_not-le l in
        rw (angle_high h v i, pair_complement (angle_to_half h v))
        (points_exchanged (pair (angle_to_half h v)) (pos v) (pos h) (octant_points h v (omega arith) (omega arith)))

signs_points : (h v θ : ℤ) → Points (pair θ) (pos (nat_abs h)) (pos (nat_abs v)) → Points (pair (by_signs h v θ)) h v
signs_points (pos h) (pos v) θ k = rw (signs_plus_plus h v θ) k
signs_points (negsuc h) (pos v) θ k =
    rw (signs_minus_plus h v θ, pair_supplement θ) (points_minus_h (pair θ) (pos (suc h)) (pos v) k)
signs_points (negsuc h) (negsuc v) θ k =
    rw (signs_minus_minus h v θ, +ℤ_comm (pos half) θ, pair_half θ)
    (points_minus_v (record { cosine = neg_ℤ (pair θ).cosine; sine = (pair θ).sine }) (negsuc h) (pos (suc v))
    (points_minus_h (pair θ) (pos (suc h)) (pos (suc v)) k))
signs_points (pos h) (negsuc v) θ k =
    rw (signs_plus_minus h v θ, +ℤ_comm (pos circle) (neg_ℤ θ), pair_circle (neg_ℤ θ), pair_opposite θ)
    (points_minus_v (pair θ) (pos h) (pos (suc v)) k)

-- C, which reads as 0, has the pair of 0
not_circle_pair : (a : ℤ) → UpTo a circle → pair (not_circle a) ≡ pair a
unfolding not_circle
not_circle_pair a i = by (lt_z a (pos circle)) (lt_z_false a (pos circle))
  where
    by : (t : Bool) → (t ≡ false → circle + neg_part a ≤ pos_part a + 0) → pair (cond t a (pos 0)) ≡ pair a
    by true k = refl
    by false k =
        let l : circle + neg_part a ≤ pos_part a + 0 = k refl in
        sym (pair_circle (pos 0)) ∙ ap pair (eq_of_parts (pos circle) a (omega (arith, i.low, i.high)))

-- ---- the whole circle

angle_points : (h v : ℤ) → 0 < nat_abs h + nat_abs v → Points (pair (angle_of h v)) h v
unfolding angle_of
angle_points h v k =
    let θ = angle_to_quarter (nat_abs h) (nat_abs v) in
    let i = by_signs_range h v θ (angle_to_quarter_range (nat_abs h) (nat_abs v) k) in
    rw (not_circle_pair (by_signs h v θ) i) (signs_points h v θ (quarter_points (nat_abs h) (nat_abs v) k))

pub reading_reads : (h v a : ℤ) → reading h v ≡ Some a → Reads h v a
reading_reads h v a e =
    let k = angled h v a e in
    let p = angle_points h v k.some in
    rw k.is (record { across = p.across; along = p.along })
