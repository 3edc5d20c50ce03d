-- Three bounds on polynomials, computed (docs/MATHEMATICS.md, "Four certificates"): the two series at the arc's series,
-- and the two series at half a quarter less an angle. Nothing but these bounds opens the lists.
use Rattle.std.specs.Prelude.{◌≡◌, refl, List, [], ◌∷◌, ℕ, ◌*◌, ◌≤◌, ℤ, pos, negsuc, neg_ℤ}
use Rattle.std.proofs.Common.{leb→le}
use Rattle.integers.specs.Power.{power}
use Rattle.integers.specs.Polynomial.{plus, scale, times, size_at}
use Rattle.integers.specs.SeriesStages.{coefficients, scale_of}
use Rattle.rules.specs.Units.{unit}
use Rattle.rules.specs.Reading.{arc_row}
use Rattle.laws.specs.RoundedStages.{stages_of_arc}
use Rattle.laws.specs.Series.{sine_steps, cosine_steps, identity}

-- ---- the arc: the sine of the arc of u is u times its cosine, in the square of u

-- the arc's series over u, times 23 · 21 · .. · 1
unfoldable pub arc_list : List ℤ
arc_list = coefficients (stages_of_arc arc_row) identity 1 (pos 1 ∷ []) 23

abbrev pub odds : ℕ
odds = 316234143225

pub odds_is : scale_of (stages_of_arc arc_row) 1 23 ≡ odds
unfolding scale_of
odds_is = refl

-- the square of the arc
unfoldable pub arc_square : List ℤ
arc_square = pos 0 ∷ times arc_list arc_list

unfoldable pub sine_of_arc : List ℤ
sine_of_arc = coefficients sine_steps arc_square (odds * odds) (pos 1 ∷ []) 1

unfoldable pub cosine_of_arc : List ℤ
cosine_of_arc = coefficients cosine_steps arc_square (odds * odds) (pos 1 ∷ []) 1

unfoldable pub arc_gap : List ℤ
arc_gap = plus (scale (pos (15 * odds)) cosine_of_arc) (scale (negsuc 0) (times arc_list sine_of_arc))

unfoldable pub arc_scale : ℕ
arc_scale = 1307674368000 * power odds 15

pub arc_gap_le : 100 * (unit * size_at 9 49 arc_gap) ≤ 7 * arc_scale
unfolding arc_gap arc_scale cosine_of_arc sine_of_arc arc_square arc_list coefficients size_at plus scale times power
arc_gap_le = leb→le _ _ tt

-- ---- half a quarter less y: its cosine and sine are those of half a quarter times cos y ± sin y, in y

-- half a quarter in radians, and its sine, over 10^10
abbrev pub over : ℕ
over = 10000000000

abbrev pub half_quarter_angle : ℕ
half_quarter_angle = 7853981634

abbrev pub half_quarter_sine : ℕ
half_quarter_sine = 7071067812

unfoldable pub over_power : ℕ
over_power = power over 15

unfoldable pub less : List ℤ
less = pos half_quarter_angle ∷ neg_ℤ (pos over) ∷ []

unfoldable pub less_square : List ℤ
less_square = times less less

unfoldable pub sine_of_less : List ℤ
sine_of_less = coefficients sine_steps less_square (over * over) (pos 1 ∷ []) 1

unfoldable pub cosine_of_less : List ℤ
cosine_of_less = coefficients cosine_steps less_square (over * over) (pos 1 ∷ []) 1

-- the square of the variable
abbrev pub square : List ℤ
square = pos 0 ∷ pos 0 ∷ pos 1 ∷ []

unfoldable pub sine_over : List ℤ
sine_over = coefficients sine_steps square 1 (pos 1 ∷ []) 1

unfoldable pub cosine_over : List ℤ
cosine_over = coefficients cosine_steps square 1 (pos 1 ∷ []) 1

unfoldable pub cosine_gap : List ℤ
cosine_gap = plus (scale (pos over) (scale (pos (15 * over)) cosine_of_less))
    (scale (neg_ℤ (pos (half_quarter_sine * over_power))) (plus (scale (pos 15) cosine_over) (pos 0 ∷ sine_over)))

unfoldable pub sine_gap : List ℤ
sine_gap = plus (scale (pos over) (times less sine_of_less))
    (scale (neg_ℤ (pos (half_quarter_sine * over_power)))
    (plus (scale (pos 15) cosine_over) (scale (negsuc 0) (pos 0 ∷ sine_over))))

unfoldable pub less_scale : ℕ
less_scale = 1307674368000 * over_power

pub cosine_gap_le : 100 * (unit * size_at 430 1000 cosine_gap) ≤ 3 * (over * less_scale)
unfolding cosine_gap less_scale over_power less less_square sine_of_less cosine_of_less sine_over cosine_over coefficients size_at
    plus scale times power
cosine_gap_le = leb→le _ _ tt

pub sine_gap_le : 100 * (unit * size_at 430 1000 sine_gap) ≤ 3 * (over * less_scale)
unfolding sine_gap less_scale over_power less less_square sine_of_less cosine_of_less sine_over cosine_over coefficients size_at
    plus scale times power
sine_gap_le = leb→le _ _ tt
