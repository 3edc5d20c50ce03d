-- Where a reading lies: the angle to half a quarter, to a quarter, by the signs (docs/MATHEMATICS.md,
-- "Ranges of a reading"). What each case of the rule is, by one equation.
use Rattle.std.specs.Prelude.{◌≡◌, refl, Bool, true, false, cond, ◌&&◌, ℕ, zero, suc, ◌+◌, ◌*◌, ◌-◌, ◌≤◌, ◌<◌, min, max, T, eqb, ℤ, pos, negsuc, nat_abs, ◌+ℤ◌, ◌-ℤ◌, Some, None}
use Rattle.std.proofs.Common.{lt_of_not-le, arith, le-leb, lt-ltb, le-ltb, eqb→eq, lit≤}
use Rattle.std.proofs.Math.Decide.{dec_le}
use Rattle.std.proofs.Math.Facts.{and_yes}
use Rattle.std.proofs.lemmas.Bool.{lt-leb}
use Rattle.std.proofs.Math.Dec.{leb-suc-zero}
use Rattle.std.specs.Int.Signed.{lt_z}
use Rattle.integers.specs.Difference.{pos_part, neg_part, lt_z_true}
use Rattle.rules.specs.Units.{circle, half, quarter, half_quarter, half_in_parts}
use Rattle.rules.specs.Rounding.{rnd, rnd_size}
use Rattle.rules.specs.Circle.{square_parts}
use Rattle.rules.specs.Reading.{arc_stage, arc_stages, arc, in_microarcseconds, flat, tangent, angle_to_half}
use Rattle.rules.specs.Reading.{angle_to_quarter, by_signs, not_circle, angle_of, reading}
use Rattle.laws.specs.Rounding.{rnd_pos, rnd_size_low}
use Rattle.laws.specs.UpTo.{UpTo, up_to_pos, up_to_of_le, up_to_less, up_to_more}
use Rattle.laws.specs.Arc.{ratio, three_sevenths, arc_of_ratio_range}

-- ---- θ in µas

pub microarcseconds_pos : (t : ℕ) → in_microarcseconds (pos t) ≡ pos (rnd_size (t * half) half_in_parts)
unfolding in_microarcseconds
microarcseconds_pos t = rnd_pos (t * half) half_in_parts

pub microarcseconds_le : (t : ℕ) → t ≤ three_sevenths → rnd_size (t * half) half_in_parts ≤ half_quarter
microarcseconds_le t h = omega (arith, rnd_size_low (t * half) half_in_parts)

pub microarcseconds_range : (t : ℤ) → UpTo t three_sevenths → UpTo (in_microarcseconds t) half_quarter
microarcseconds_range (negsuc t) h = absurd (omega (arith, h.low))
microarcseconds_range (pos t) h = rw (microarcseconds_pos t)
    (up_to_pos (rnd_size (t * half) half_in_parts) half_quarter (microarcseconds_le t h.high))

-- ---- to half a quarter, in the two cases

pub tangent_flat : (m n : ℕ) → 5 * m ≤ 2 * n → tangent m n ≡ ratio m n
unfolding tangent flat
tangent_flat m n h = rw (le-leb (5 * m) (2 * n) h)

pub tangent_steep : (m n : ℕ) → 2 * n < 5 * m → tangent m n ≡ ratio (n - m) (n + m)
unfolding tangent flat
tangent_steep m n h = rw (lt-leb (5 * m) (2 * n) h)

pub angle_flat : (m n : ℕ) → 5 * m ≤ 2 * n → angle_to_half m n ≡ in_microarcseconds (arc (ratio m n))
unfolding angle_to_half flat
angle_flat m n h = rw (le-leb (5 * m) (2 * n) h, tangent_flat m n h)

pub angle_steep : (m n : ℕ) → 2 * n < 5 * m
    → angle_to_half m n ≡ pos half_quarter -ℤ in_microarcseconds (arc (ratio (n - m) (n + m)))
unfolding angle_to_half flat
angle_steep m n h = rw (lt-leb (5 * m) (2 * n) h, tangent_steep m n h)

pub angle_to_half_range : (m n : ℕ) → 0 < n → m ≤ n → UpTo (angle_to_half m n) half_quarter
angle_to_half_range m n hn h = by (dec_le (5 * m) (2 * n))
  where
    by : Dec (5 * m ≤ 2 * n) → UpTo (angle_to_half m n) half_quarter
    by (yes k) = rw (angle_flat m n k)
        (microarcseconds_range (arc (ratio m n)) (arc_of_ratio_range m n hn (omega arith)))
    by (no k) =
        let l : 2 * n < 5 * m = lt_of_not-le k in
        let θ = arc (ratio (n - m) (n + m)) in
        rw (angle_steep m n l) (up_to_less (in_microarcseconds θ) half_quarter half_quarter
        (microarcseconds_range θ (arc_of_ratio_range (n - m) (n + m) (omega arith) (omega arith))) (lit≤ tt))

-- ---- to a quarter

pub angle_wide : (h v : ℕ) → v ≤ h → angle_to_quarter h v ≡ angle_to_half v h
unfolding angle_to_quarter
angle_wide h v k =
    let a : min h v ≡ v = omega arith in
    let b : max h v ≡ h = omega arith in
    rw (le-ltb h v k, a, b)

pub angle_high : (h v : ℕ) → h < v → angle_to_quarter h v ≡ pos quarter -ℤ angle_to_half h v
unfolding angle_to_quarter
angle_high h v k =
    let a : min h v ≡ h = omega arith in
    let b : max h v ≡ v = omega arith in
    rw (lt-ltb h v k, a, b)

pub angle_to_quarter_range : (h v : ℕ) → 0 < h + v → UpTo (angle_to_quarter h v) quarter
angle_to_quarter_range h v k = by (dec_le v h)
  where
    by : Dec (v ≤ h) → UpTo (angle_to_quarter h v) quarter
    by (yes l) = rw (angle_wide h v l)
        (up_to_of_le (angle_to_half v h) half_quarter quarter (lit≤ tt) (angle_to_half_range v h (omega arith) l))
    by (no l) =
        let i : h < v = lt_of_not-le l in
        rw (angle_high h v i) (up_to_less (angle_to_half h v) half_quarter quarter
        (angle_to_half_range h v (omega arith) (omega arith)) (lit≤ tt))

-- ---- by the signs

pub signs_plus_plus : (h v : ℕ) (θ : ℤ) → by_signs (pos h) (pos v) θ ≡ θ
unfolding by_signs
signs_plus_plus h v θ = rw (leb-suc-zero h, leb-suc-zero v)

pub signs_minus_plus : (h v : ℕ) (θ : ℤ) → by_signs (negsuc h) (pos v) θ ≡ pos half -ℤ θ
unfolding by_signs
signs_minus_plus h v θ = rw (leb-suc-zero v)

pub signs_minus_minus : (h v : ℕ) (θ : ℤ) → by_signs (negsuc h) (negsuc v) θ ≡ pos half +ℤ θ
unfolding by_signs
signs_minus_minus h v θ = refl

pub signs_plus_minus : (h v : ℕ) (θ : ℤ) → by_signs (pos h) (negsuc v) θ ≡ pos circle -ℤ θ
unfolding by_signs
signs_plus_minus h v θ = rw (leb-suc-zero h)

pub by_signs_range : (h v θ : ℤ) → UpTo θ quarter → UpTo (by_signs h v θ) circle
by_signs_range (pos h) (pos v) θ i = rw (signs_plus_plus h v θ) (up_to_of_le θ quarter circle (lit≤ tt) i)
by_signs_range (negsuc h) (pos v) θ i = rw (signs_minus_plus h v θ)
    (up_to_of_le (pos half -ℤ θ) half circle (lit≤ tt) (up_to_less θ quarter half i (lit≤ tt)))
by_signs_range (negsuc h) (negsuc v) θ i = rw (signs_minus_minus h v θ)
    (up_to_of_le (pos half +ℤ θ) (half + quarter) circle (lit≤ tt) (up_to_more θ quarter half i))
by_signs_range (pos h) (negsuc v) θ i = rw (signs_plus_minus h v θ) (up_to_less θ quarter circle i (lit≤ tt))

not_circle_range : (a : ℤ) → UpTo a circle → UpTo (not_circle a) (circle - 1)
unfolding not_circle
not_circle_range a i = by (lt_z a (pos circle)) (lt_z_true a (pos circle))
  where
    by : (t : Bool) → (t ≡ true → pos_part a + 0 < circle + neg_part a) → UpTo (cond t a (pos 0)) (circle - 1)
    by true k = let l : pos_part a + 0 < circle + neg_part a = k refl in
        record { low = i.low; high = omega (arith, i.low) }
    by false k = up_to_pos 0 (circle - 1) (omega arith)

-- ---- the angle

some_range : (h v : ℤ) → 0 < nat_abs h + nat_abs v → UpTo (angle_of h v) (circle - 1)
unfolding angle_of
some_range h v k =
    let θ = angle_to_quarter (nat_abs h) (nat_abs v) in
    not_circle_range (by_signs h v θ) (by_signs_range h v θ (angle_to_quarter_range (nat_abs h) (nat_abs v) k))

-- every angle lies from 0 to C − 1
pub angle_of_range : (h v : ℤ) → UpTo (angle_of h v) (circle - 1)
unfolding rnd rnd_size square_parts arc_stage arc_stages arc in_microarcseconds flat tangent angle_to_half angle_to_quarter
    by_signs not_circle angle_of
angle_of_range (pos zero) (pos zero) = up_to_pos 0 (circle - 1) (omega arith)
angle_of_range (pos zero) (pos (suc v)) = some_range (pos zero) (pos (suc v)) (omega arith)
angle_of_range (pos zero) (negsuc v) = some_range (pos zero) (negsuc v) (omega arith)
angle_of_range (pos (suc h)) v = some_range (pos (suc h)) v (omega arith)
angle_of_range (negsuc h) v = some_range (negsuc h) v (omega arith)

-- ---- the reading

-- where h and v are not both nought
pub reading_is : (h v : ℤ) → 0 < nat_abs h + nat_abs v → reading h v ≡ Some (angle_of h v)
unfolding reading
reading_is h v k = by (eqb (nat_abs h) 0 && eqb (nat_abs v) 0) (λ t. and_yes (eqb (nat_abs h) 0) (eqb (nat_abs v) 0) t)
  where
    by : (t : Bool) → (T t → T (eqb (nat_abs h) 0) × T (eqb (nat_abs v) 0))
        → cond t None (Some (angle_of h v)) ≡ Some (angle_of h v)
    by true p =
        let e = eqb→eq (nat_abs h) 0 (p tt).0 in
        let f = eqb→eq (nat_abs v) 0 (p tt).1 in
        absurd (omega arith)
    by false p = refl
