-- The pair of cosine and sine of every angle is near the series.
use Rattle.std.specs.Prelude.{ℤ}
use Rattle.rules.specs.Circle.{pair_to_half}
use Rattle.rules.specs.Circle.{exchanged_pair, pair}
use Rattle.rules.specs.Series.{whole, radian, series_to_half, series}
use Rattle.laws.specs.CircleToHalf.{WithinFour, pair_to_half_near}
use Rattle.laws.specs.Folding.{folded_related}
use Rattle.laws.specs.Angles.{four_quarter}

-- within four parts of the series through the 15th power
pub pair_near : (a : ℤ) → WithinFour (pair a) (series a) (whole radian)
unfolding pair series exchanged_pair
pair_near a = folded_related (λ p q. WithinFour p q (whole radian)) pair_to_half series_to_half pair_to_half_near
    (λ p q h. record { cosine = h.sine; sine = h.cosine }) (four_quarter (whole radian)) a
