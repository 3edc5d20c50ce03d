-- The two promises of a reading in the first octant, for the pair of the angle that it gives (docs/MATHEMATICS.md,
-- "The first octant").
use Rattle.std.specs.Prelude.{◌≡◌, ℕ, ◌+◌, ◌*◌, ◌-◌, ◌≤◌, ◌<◌, ℤ, pos, negsuc, nat_abs, ◌+ℤ◌, ◌-ℤ◌, ◌*ℤ◌, ◌<ℤ◌}
use Rattle.std.proofs.Common.{sym, subst, mul-pos, lt_of_not-le, arith, lt→ltb, lit≤}
use Rattle.std.proofs.Math.Decide.{dec_le}
use Rattle.rules.specs.Units.{unit, half_quarter}
use Rattle.rules.specs.declared.Pair.{Pair}
use Rattle.rules.specs.Circle.{radian_parts, pair_of_parts, pair}
use Rattle.rules.specs.Series.{whole, sine_series, cosine_series}
use Rattle.rules.specs.Reading.{arc, in_microarcseconds, angle_to_half}
use Rattle.laws.specs.UpTo.{UpTo, up_to_pos, up_to_of_le}
use Rattle.laws.specs.Near.{Near, near_le, near_of_le}
use Rattle.laws.specs.Circle.{half_quarter_parts, errors_reading}
use Rattle.laws.specs.CircleLength.{cosine_range, sine_range, cosine_high}
use Rattle.laws.specs.CircleToHalf.{radian_parts_range, sine_near, cosine_near}
use Rattle.laws.specs.Angles.{pair_to_half_lem}
use Rattle.laws.specs.Certificates.{over_power}
use Rattle.laws.specs.HalfQuarterLess.{less_numerator, less_denominator}
use Rattle.laws.specs.AdditionFormulas.{whole_less, cosine_less_near, sine_less_near}
use Rattle.laws.specs.Arc.{ratio, three_sevenths, arc_numerator, arc_denominator, arc_near, arc_of_ratio_range}
use Rattle.laws.specs.Arc.{arc_le}
use Rattle.laws.proofs.ArcSeries.{arc_ratio_near}
use Rattle.laws.specs.ReadingRange.{angle_flat, angle_steep, angle_to_half_range}
use Rattle.laws.specs.ReadingParts.{parts_of_arc, parts_of_less}
use Rattle.laws.specs.Across.{close, turned}

-- the pair p points along (h, v): what a reading is held to, of a pair
pub record Points (p : Pair) (h v : ℤ) : Type 0 where
  pub across : nat_abs (p.cosine *ℤ v -ℤ p.sine *ℤ h) ≤ 8 * (nat_abs h + nat_abs v)
  pub along : pos 0 <ℤ (p.cosine *ℤ h +ℤ p.sine *ℤ v)

-- ---- the first promise

abbrev Across : ℤ → ℕ → ℕ → Type 0
Across x m n = nat_abs ((pair_of_parts x).cosine *ℤ pos m -ℤ (pair_of_parts x).sine *ℤ pos n) ≤ 8 * (m + n)

-- the pair of x, where x is near y / d and the two series there are near the ratio
across_of_near : (x y : ℤ) (d m n : ℕ) → UpTo x half_quarter_parts → Near x y d 2600 → 1000 * nat_abs y ≤ 786 * d
    → 10 * (unit * nat_abs (cosine_series y d *ℤ pos m -ℤ sine_series y d *ℤ pos n)) ≤ (m + n) * whole d
    → Across x m n
across_of_near x y d m n i h k l =
    close (pair_of_parts x).cosine (pair_of_parts x).sine (cosine_series y d) (sine_series y d) (whole d) m n
    (rw errors_reading.1 at (cosine_near x y d 2600 i h k))
    (rw errors_reading.0 at (sine_near x y d 2600 i h k)) l

across_flat : (m n : ℕ) → 0 < n → 5 * m ≤ 2 * n → Across (radian_parts (in_microarcseconds (arc (ratio m n)))) m n
across_flat m n hn h =
    let θ = arc (ratio m n) in
    let Y = arc_numerator m n in
    let D = arc_denominator m n in
    let k : 7 * m ≤ 3 * n = omega arith in
    let z = arc_le m n hn k in
    let i = arc_of_ratio_range m n hn k in
    subst (λ x. Across x m n) (sym (parts_of_arc θ i))
    (across_of_near θ Y D m n (up_to_of_le θ three_sevenths half_quarter_parts (lit≤ tt) i)
    (near_of_le θ Y D 2015 2600 (lit≤ tt) (arc_near m n hn k)) (omega arith) (omega (arith, arc_ratio_near m n k)))

-- with n = m + a
across_steep : (m a : ℕ) → 0 < m + a → 7 * a ≤ 3 * (m + a + m)
    → Across (radian_parts (pos half_quarter -ℤ in_microarcseconds (arc (ratio a (m + a + m))))) m (m + a)
across_steep m a hn h =
    let b = m + a + m in
    let hb : 0 < b = omega arith in
    let Y = arc_numerator a b in
    let D = arc_denominator a b in
    let z = arc_le a b hb h in
    let k = parts_of_less (arc (ratio a b)) (arc_of_ratio_range a b hb h) in
    let x = pos k.x in
    let near = k.near Y D (arc_near a b hb h) in
    subst (λ x. Across x m (m + a)) (sym k.is)
    (across_of_near x (less_numerator Y D) (less_denominator D) m (m + a) (up_to_pos k.x half_quarter_parts k.le) near
    (near_le x (less_numerator Y D) (less_denominator D) 2600 half_quarter_parts 786 k.le (lit≤ tt) near)
    (turned (cosine_series Y D) (sine_series Y D) (cosine_series (less_numerator Y D) (less_denominator D))
    (sine_series (less_numerator Y D) (less_denominator D)) over_power (whole D) (whole (less_denominator D)) m a
    (whole_less Y D) (cosine_less_near Y D z) (sine_less_near Y D z) (arc_ratio_near a b h)))

across : (m n : ℕ) → 0 < n → m ≤ n → Across (radian_parts (angle_to_half m n)) m n
across m n hn h = by (dec_le (5 * m) (2 * n))
  where
    sum : m + (n - m) ≡ n
    sum = omega arith

    by : Dec (5 * m ≤ 2 * n) → Across (radian_parts (angle_to_half m n)) m n
    by (yes k) = rw (angle_flat m n k) (across_flat m n hn k)
    by (no k) =
        let l : 2 * n < 5 * m = lt_of_not-le k in
        rw (angle_steep m n l)
        (subst (λ z. Across (radian_parts (pos half_quarter -ℤ in_microarcseconds (arc (ratio (n - m) (z + m))))) m z) sum
        (across_steep m (n - m) (omega arith) (omega arith)))

-- ---- both

forward : (c s : ℤ) (m n a b : ℕ) → 0 < n → 0 < nat_abs c → UpTo c a → UpTo s b → pos 0 <ℤ (c *ℤ pos n +ℤ s *ℤ pos m)
forward (negsuc c) s m n a b hn hc i j = absurd (omega (arith, i.low))
forward (pos c) (negsuc s) m n a b hn hc i j = absurd (omega (arith, j.low))
forward (pos c) (pos s) m n a b hn hc i j = record { lt = lt→ltb 0 (c * n + s * m) (omega (arith, mul-pos hc hn)) }

pub octant_points : (m n : ℕ) → 0 < n → m ≤ n → Points (pair (angle_to_half m n)) (pos n) (pos m)
octant_points m n hn h = rw (pair_is (angle_to_half m n) r) (record {
  across = omega (arith, across m n hn h);
  along = forward (pair_of_parts x).cosine (pair_of_parts x).sine m n unit unit hn (omega (arith, cosine_high x i))
      (cosine_range x i) (sine_range x i);
})
  where
    r : UpTo (angle_to_half m n) half_quarter
    r = angle_to_half_range m n hn h

    pair_is : (a : ℤ) → UpTo a half_quarter → pair a ≡ pair_of_parts (radian_parts a)
    pair_is (pos n) i = pair_to_half_lem n i.high
    pair_is (negsuc n) i = absurd (omega (arith, i.low))

    range : (a : ℤ) → UpTo a half_quarter → UpTo (radian_parts a) half_quarter_parts
    range (pos n) i = radian_parts_range n i.high
    range (negsuc n) i = absurd (omega (arith, i.low))

    x : ℤ
    x = radian_parts (angle_to_half m n)

    i : UpTo x half_quarter_parts
    i = range (angle_to_half m n) r
