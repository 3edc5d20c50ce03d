-- θ of a reading is near the arc's series through the 23rd power at the fraction a / b (docs/MATHEMATICS.md,
-- "The arc of a reading").
use Rattle.std.specs.Prelude.{◌≡◌, [], ◌∷◌, ℕ, ◌*◌, ◌≤◌, ◌<◌, T, ℤ, pos, neg_ℤ, nat_abs, ◌-ℤ◌, ◌*ℤ◌}
use Rattle.std.proofs.Common.{mul-le-mul, arith, lit<, lit≤}
use Rattle.integers.specs.Size.{abs_neg}
use Rattle.integers.specs.Ring.{ring, v0, v1, v2, ◌⊖◌, ◌⊗◌, neg, lit}
use Rattle.integers.specs.SeriesStages.{numerator, denominator}
use Rattle.rules.specs.Units.{unit}
use Rattle.rules.specs.Rounding.{rnd, rnd_size}
use Rattle.rules.specs.Circle.{square_parts}
use Rattle.rules.specs.Reading.{arc_stages, arc_row, arc}
use Rattle.laws.specs.Rounding.{rnd_near, rnd_pos, rnd_size_under}
use Rattle.laws.specs.UpTo.{UpTo, up_to_pos, up_to_le, up_to_product, up_to_of_le}
use Rattle.laws.specs.Near.{Near, near_product_one, near_le, near_of_le}
use Rattle.laws.specs.RoundedStages.{error, first_error, rises, Worked, chain, stages_of_arc, arc_stages_worked}
use Rattle.laws.specs.RoundedStages.{after_stages_range}
use Rattle.laws.specs.Circle.{half_quarter_parts, square_range}

-- a / b in parts of 2^30
abbrev pub ratio : ℕ → ℕ → ℤ
ratio a b = rnd (pos (a * unit)) b

-- 3 / 7 in parts of 2^30: u and θ are no larger
abbrev pub three_sevenths : ℕ
three_sevenths = 460175068

-- the arc's series at a / b, as a fraction
unfoldable pub arc_numerator : ℕ → ℕ → ℤ
arc_numerator a b = pos a *ℤ numerator (pos (a * a)) (b * b) (stages_of_arc arc_row) (pos 1) 23

unfoldable pub arc_denominator : ℕ → ℕ → ℕ
arc_denominator a b = b * denominator (b * b) (stages_of_arc arc_row) 23

-- ---- the row: its first number, and its range

arc_rises : T (rises (stages_of_arc arc_row) (rnd_size unit 23))
unfolding rnd_size
arc_rises = tt

first_near : Near (rnd (pos unit) 23) (pos 1) 23 500
unfolding rnd rnd_size
first_near = record { divisor_pos = lit< tt; near = lit≤ tt }

pub first_range : UpTo (rnd (pos unit) 23) (rnd_size unit 23)
first_range = rw (rnd_pos unit 23) (up_to_pos (rnd_size unit 23) (rnd_size unit 23) (omega arith))

-- the row's value lies from nought to a whole, and θ is no larger than u
pub arc_factor_range : (w : ℤ) → UpTo w unit → UpTo (arc_stages w arc_row (rnd (pos unit) 23)) unit
arc_factor_range w i = rw (arc_stages_worked w arc_row (rnd (pos unit) 23))
    (after_stages_range w (stages_of_arc arc_row) (rnd (pos unit) 23) (rnd_size unit 23) i arc_rises first_range)

pub arc_range : (u : ℤ) → UpTo u three_sevenths → UpTo (arc u) three_sevenths
unfolding arc
arc_range u i =
    let w = square_parts u in
    up_to_product u (arc_stages w arc_row (rnd (pos unit) 23)) three_sevenths unit unit three_sevenths i
    (arc_factor_range w (square_range u (up_to_of_le u three_sevenths half_quarter_parts (lit≤ tt) i))) (lit< tt) (lit≤ tt)

-- ---- the error that the steps leave

steps_error : error 184 929 (stages_of_arc arc_row) 500 ≤ 2364
unfolding error first_error rnd_size
steps_error = lit≤ tt

module _ (a b : ℕ) (hb : 0 < b) (h : 7 * a ≤ 3 * b) where
  -- u, and w
  ratio_near : Near (ratio a b) (pos a) b 500
  ratio_near =
      let u = ratio a b in
      record {
        divisor_pos = hb;
        near = rw (out u (pos a) (pos b), abs_neg (pos (a * unit) -ℤ pos b *ℤ u))
            (omega (arith, rnd_near (pos (a * unit)) b hb));
      }
    where
      out : (u a b : ℤ) → u *ℤ b -ℤ pos unit *ℤ a ≡ neg_ℤ (a *ℤ pos unit -ℤ b *ℤ u)
      out u a b = ring (u ∷ a ∷ b ∷ [])
          (v0 ⊗ v2 ⊖ lit (pos unit) ⊗ v1) (neg (v1 ⊗ lit (pos unit) ⊖ v2 ⊗ v0)) tt

  pub ratio_range : UpTo (ratio a b) three_sevenths
  ratio_range = rw (rnd_pos (a * unit) b)
      (up_to_pos (rnd_size (a * unit) b) three_sevenths (rnd_size_under (a * unit) b three_sevenths hb (omega arith)))

  square_up_to : UpTo (square_parts (ratio a b)) unit
  square_up_to = square_range (ratio a b) (up_to_of_le (ratio a b) three_sevenths half_quarter_parts (lit≤ tt) ratio_range)

  square_near : Near (square_parts (ratio a b)) (pos (a * a)) (b * b) 929
  unfolding square_parts
  square_near = near_product_one (ratio a b) (ratio a b) (pos a) (pos a) b b 429 429 500 500 929 ratio_near ratio_near
      (omega arith) (omega (arith, up_to_le (ratio a b) three_sevenths ratio_range)) (lit≤ tt)

  -- p, and θ
  stages_worked : Worked (arc_stages (square_parts (ratio a b)) arc_row (rnd (pos unit) 23))
      (numerator (pos (a * a)) (b * b) (stages_of_arc arc_row) (pos 1) 23) (denominator (b * b) (stages_of_arc arc_row) 23)
      (error 184 929 (stages_of_arc arc_row) 500)
  stages_worked = rw (arc_stages_worked (square_parts (ratio a b)) arc_row (rnd (pos unit) 23))
      (chain (square_parts (ratio a b)) (pos (a * a)) (b * b) 929 184 square_near square_up_to
      (omega (arith, mul-le-mul h h)) (stages_of_arc arc_row) (rnd (pos unit) 23) (pos 1) 23 500 (rnd_size unit 23) arc_rises
      first_near first_range)

  pub arc_near : Near (arc (ratio a b)) (arc_numerator a b) (arc_denominator a b) 2015
  unfolding arc arc_numerator arc_denominator
  arc_near =
      let p = arc_stages (square_parts (ratio a b)) arc_row (rnd (pos unit) 23) in
      let n = numerator (pos (a * a)) (b * b) (stages_of_arc arc_row) (pos 1) 23 in
      let d = denominator (b * b) (stages_of_arc arc_row) 23 in
      near_product_one (ratio a b) p (pos a) n b d 429 1000 500 2364 2015 ratio_near
      (near_of_le p n d (error 184 929 (stages_of_arc arc_row) 500) 2364 steps_error stages_worked.near)
      (omega arith) (omega (arith, up_to_le p unit stages_worked.range)) (lit≤ tt)

  pub arc_of_ratio_range : UpTo (arc (ratio a b)) three_sevenths
  arc_of_ratio_range = arc_range (ratio a b) ratio_range

  pub arc_le : 1000 * nat_abs (arc_numerator a b) ≤ 430 * arc_denominator a b
  arc_le = near_le (arc (ratio a b)) (arc_numerator a b) (arc_denominator a b) 2015 three_sevenths 430
      (up_to_le (arc (ratio a b)) three_sevenths arc_of_ratio_range) (lit≤ tt) arc_near
