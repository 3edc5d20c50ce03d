-- The steps of a place: every direction on the way is accepted, so that no turn is refused and no length is nought.
use Rattle.std.specs.Prelude.{ℤ, neg_ℤ}
use Rattle.rules.specs.declared.Direction.{Direction}
use Rattle.rules.specs.declared.Night.{Night}
use Rattle.rules.specs.declared.Star.{Star}
use Rattle.rules.specs.Units.{+◌}
use Rattle.rules.specs.Rounding.{remainder}
use Rattle.rules.specs.Length.{squares}
use Rattle.rules.specs.Circle.{pair}
use Rattle.rules.specs.Turning.{Accepted}
use Rattle.rules.specs.Place.{moved, directed, precessed, aberrated, nutated, apparent}
use Rattle.rules.specs.Place.{overhead}
use Rattle.laws.specs.Angles.{pair_length}
use Rattle.laws.proofs.Turning.{turn_by_accepted}
use Rattle.laws.specs.Aberration.{plus_accepted}
use Rattle.laws.specs.Night.{NightFits}
use Rattle.laws.specs.Place.{ahead, ahead_accepted}

pub directed_accepted : (ra declination : ℤ) → Accepted (squares (directed ra declination))
unfolding directed
directed_accepted ra declination =
    turn_by_accepted (+ 3) (pair (remainder ra)) _ (pair_length (remainder ra))
    (turn_by_accepted (+ 2) (pair (remainder (neg_ℤ declination))) ahead (pair_length (remainder (neg_ℤ declination)))
    ahead_accepted)

module _ (n : Night) (h : NightFits n) where
  pub precessed_accepted : (v : Direction) → Accepted (squares v) → Accepted (squares (precessed n v))
  unfolding precessed
  precessed_accepted v k =
      turn_by_accepted (+ 3) n.z _ h.z
      (turn_by_accepted (+ 2) n.minus_theta _ h.minus_theta
      (turn_by_accepted (+ 3) n.zeta v h.zeta k))

  pub aberrated_accepted : (v : Direction) → Accepted (squares v) → Accepted (squares (aberrated n v))
  unfolding aberrated
  aberrated_accepted v k = plus_accepted v n.aberration k h.aberration

  pub nutated_accepted : (v : Direction) → Accepted (squares v) → Accepted (squares (nutated n v))
  unfolding nutated
  nutated_accepted v k =
      turn_by_accepted (+ 1) n.true_epsilon _ h.true_epsilon
      (turn_by_accepted (+ 3) n.delta_psi _ h.delta_psi
      (turn_by_accepted (+ 1) n.minus_epsilon v h.minus_epsilon k))

  pub overhead_accepted : (v : Direction) → Accepted (squares v) → Accepted (squares (overhead n v))
  unfolding overhead
  overhead_accepted v k =
      turn_by_accepted (+ 2) n.latitude_less_quarter _ h.latitude_less_quarter (turn_by_accepted (+ 3) n.minus_sidereal v h.minus_sidereal k)

  pub apparent_accepted : (s : Star) → Accepted (squares (apparent n s))
  unfolding apparent
  apparent_accepted s =
      nutated_accepted _ (aberrated_accepted _ (precessed_accepted _ (directed_accepted
      (moved n.tt s.ra s.ra_motion) (moved n.tt s.declination s.declination_motion))))
