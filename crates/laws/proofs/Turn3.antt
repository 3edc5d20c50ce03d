-- One turn about axis 3 of an accepted direction by an accepted pair: it is accepted once brought to length, and near the
-- turn with nothing rounded.
use Rattle.std.specs.Prelude.{◌≡◌, [], ◌∷◌, ℕ, ◌+◌, ◌*◌, ◌≤◌, ℤ, ◌+ℤ◌, ◌-ℤ◌, ◌*ℤ◌}
use Rattle.std.proofs.Common.{le_trans, arith, lit≤}
use Rattle.std.proofs.Math.Nat.{mul-le-mul}
use Rattle.std.proofs.Math.IntN.{pos, nat_abs}
use Rattle.integers.specs.Difference.{sub_is}
use Rattle.integers.specs.Size.{abs_le}
use Rattle.integers.specs.Ring.{ring, v0, v1, v2, v3, ◌⊕◌, ◌⊖◌, ◌⊗◌}
use Rattle.rules.specs.declared.Pair.{Pair}
use Rattle.rules.specs.declared.Direction.{Direction}
use Rattle.rules.specs.Units.{unit}
use Rattle.rules.specs.Length.{square as squared, squares, pair_squares, root, to_length}
use Rattle.rules.specs.Turning.{Accepted, turn3}
use Rattle.laws.specs.Directions.{plus, minus, times, plus_le, times_le}
use Rattle.laws.specs.Directions.{le_of_parts_eq}
use Rattle.laws.specs.Length.{to_length_near, to_length_accepted}
use Rattle.laws.specs.Turn3.{turn_error, image, roundings, rest_back_le, turn3_fits, turn3_root_le, turn3_root_ge}

module _ (p : Pair) (v : Direction) (hp : Accepted (pair_squares p)) (hv : Accepted (squares v)) where
  pub turn3_accepted : Accepted (squares (to_length (turn3 p v)))
  turn3_accepted = to_length_accepted (turn3 p v) (omega (arith, turn3_fits p v hp hv)) (omega (arith, turn3_root_ge p v hp hv))

  -- no part moves by more than 5 when it is brought to length
  moved_le : squares (minus (to_length (turn3 p v)) (turn3 p v)) ≤ 9 * 9
  unfolding squares squared
  moved_le =
      let l = root (squares (turn3 p v)) in
      let five : nat_abs (pos unit -ℤ pos l) ≤ 5 = abs_le (pos unit -ℤ pos l) 5
      (omega (arith, sub_is (pos unit) (pos l), turn3_root_ge p v hp hv, turn3_root_le p v hp hv))
      (omega (arith, sub_is (pos unit) (pos l), turn3_root_ge p v hp hv, turn3_root_le p v hp hv)) in
      let n = to_length_near (turn3 p v) (omega (arith, turn3_fits p v hp hv)) (omega (arith, turn3_root_ge p v hp hv)) in
      small _ _ _ (le_trans n.x five) (le_trans n.y five) (le_trans n.z five)
    where
      small : (e f g : ℕ) → e ≤ 5 → f ≤ 5 → g ≤ 5 → e * e + f * f + g * g ≤ 9 * 9
      small e f g h k l = omega (arith, mul-le-mul h h, mul-le-mul k k, mul-le-mul l l)

  -- brought to length and times 2^30, it is near the image
  pub turn3_near : squares (minus (times (pos unit) (to_length (turn3 p v))) (image p v)) ≤ turn_error * turn_error
  turn3_near =
      let w = to_length (turn3 p v) in
      let m = turn3 p v in
      let i = image p v in
      le_of_parts_eq (minus (times (pos unit) w) i)
      (plus (times (pos unit) (minus w m)) (minus (times (pos unit) m) i))
      (by_way_of (pos unit) w.x m.x i.x) (by_way_of (pos unit) w.y m.y i.y)
      (by_way_of (pos unit) w.z m.z i.z)
      (plus_le (times (pos unit) (minus w m)) (minus (times (pos unit) m) i) (unit * 9) roundings
      (times_le (pos unit) (minus w m) unit 9 (lit≤ tt) moved_le) (rest_back_le p v))
    where
      by_way_of : (b w m i : ℤ) → b *ℤ w -ℤ i ≡ b *ℤ (w -ℤ m) +ℤ (b *ℤ m -ℤ i)
      by_way_of b w m i = ring (b ∷ w ∷ m ∷ i ∷ []) (v0 ⊗ v1 ⊖ v3) (v0 ⊗ (v1 ⊖ v2) ⊕ (v0 ⊗ v2 ⊖ v3)) tt
