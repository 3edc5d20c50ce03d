-- The opposite turn about axis 3: of what lies near a turned direction, it lies near the direction itself.
use Rattle.std.specs.Prelude.{◌≡◌, [], ◌∷◌, ℕ, ◌+◌, ◌*◌, ◌≤◌, ◌^◌, ℤ, pos, neg_ℤ, nat_abs, ◌+ℤ◌, ◌-ℤ◌, ◌*ℤ◌}
use Rattle.std.proofs.Common.{arith, lit<, lit≤}
use Rattle.integers.specs.Size.{abs_neg}
use Rattle.integers.specs.Ring.{Term, ring, v0, v1, v2, v3, v4, v5, v6, v7, v8, v9, lit, neg, square, ◌⊕◌, ◌⊖◌, ◌⊗◌}
use Rattle.integers.specs.Square.{square_le_of_le}
use Rattle.rules.specs.declared.Pair.{Pair}
use Rattle.rules.specs.declared.Direction.{Direction}
use Rattle.rules.specs.Units.{unit}
use Rattle.rules.specs.Length.{square as squared, squares, pair_squares, to_length}
use Rattle.rules.specs.Turning.{Accepted, turn3}
use Rattle.laws.specs.LengthNear.{accepted_near}
use Rattle.laws.specs.Directions.{plus, minus, times, plus_le, times_le, le_of_times_le, le_of_parts_eq}
use Rattle.laws.specs.Turn3.{longest, turn_error, image, pair_squares_pos, image_le}
use Rattle.laws.proofs.Turn3.{turn3_near}
use Rattle.laws.specs.Return3.{opposite_pair, farthest}

opposite_pair_accepted : (p : Pair) → Accepted (pair_squares p) → Accepted (pair_squares (opposite_pair p))
unfolding pair_squares squared
opposite_pair_accepted p h = rw (abs_neg p.sine) h

-- ---- 2^60 (r − v) by four small vectors: the excess of the pair's length, the image by the opposite pair of what the
-- turn left over, what the opposite turn left over, and the image of the distance. Of r, v, the turned w and u near w

abbrev excess_term : Term
excess_term = square v1 ⊕ square v2 ⊖ square v0

abbrev error_x : Term
error_x = v0 ⊗ v5 ⊖ (v1 ⊗ v3 ⊖ v2 ⊗ v4)

abbrev error_y : Term
error_y = v0 ⊗ v6 ⊖ (v2 ⊗ v3 ⊕ v1 ⊗ v4)

back_x : (b c s x y wx wy ux uy r : ℤ) → b *ℤ b *ℤ (r -ℤ x)
    ≡ (c *ℤ c +ℤ s *ℤ s -ℤ b *ℤ b) *ℤ x
    +ℤ (c *ℤ (b *ℤ wx -ℤ (c *ℤ x -ℤ s *ℤ y)) -ℤ neg_ℤ s *ℤ (b *ℤ wy -ℤ (s *ℤ x +ℤ c *ℤ y)))
    +ℤ (b *ℤ (b *ℤ r -ℤ (c *ℤ ux -ℤ neg_ℤ s *ℤ uy)) +ℤ b *ℤ (c *ℤ (ux -ℤ wx) -ℤ neg_ℤ s *ℤ (uy -ℤ wy)))
back_x b c s x y wx wy ux uy r = ring (b ∷ c ∷ s ∷ x ∷ y ∷ wx ∷ wy ∷ ux ∷ uy ∷ r ∷ [])
    (square v0 ⊗ (v9 ⊖ v3))
    (excess_term ⊗ v3 ⊕ (v1 ⊗ error_x ⊖ neg v2 ⊗ error_y)
    ⊕ (v0 ⊗ (v0 ⊗ v9 ⊖ (v1 ⊗ v7 ⊖ neg v2 ⊗ v8)) ⊕ v0 ⊗ (v1 ⊗ (v7 ⊖ v5) ⊖ neg v2 ⊗ (v8 ⊖ v6)))) tt

back_y : (b c s x y wx wy ux uy r : ℤ) → b *ℤ b *ℤ (r -ℤ y)
    ≡ (c *ℤ c +ℤ s *ℤ s -ℤ b *ℤ b) *ℤ y
    +ℤ (neg_ℤ s *ℤ (b *ℤ wx -ℤ (c *ℤ x -ℤ s *ℤ y)) +ℤ c *ℤ (b *ℤ wy -ℤ (s *ℤ x +ℤ c *ℤ y)))
    +ℤ (b *ℤ (b *ℤ r -ℤ (neg_ℤ s *ℤ ux +ℤ c *ℤ uy)) +ℤ b *ℤ (neg_ℤ s *ℤ (ux -ℤ wx) +ℤ c *ℤ (uy -ℤ wy)))
back_y b c s x y wx wy ux uy r = ring (b ∷ c ∷ s ∷ x ∷ y ∷ wx ∷ wy ∷ ux ∷ uy ∷ r ∷ [])
    (square v0 ⊗ (v9 ⊖ v4))
    (excess_term ⊗ v4 ⊕ (neg v2 ⊗ error_x ⊕ v1 ⊗ error_y)
    ⊕ (v0 ⊗ (v0 ⊗ v9 ⊖ (neg v2 ⊗ v7 ⊕ v1 ⊗ v8)) ⊕ v0 ⊗ (neg v2 ⊗ (v7 ⊖ v5) ⊕ v1 ⊗ (v8 ⊖ v6)))) tt

back_z : (b k z w u r : ℤ) → b *ℤ b *ℤ (r -ℤ z)
    ≡ k *ℤ pos 0 +ℤ b *ℤ (b *ℤ w -ℤ b *ℤ z) +ℤ (b *ℤ (b *ℤ r -ℤ b *ℤ u) +ℤ b *ℤ (b *ℤ (u -ℤ w)))
back_z b k z w u r = ring (b ∷ k ∷ z ∷ w ∷ u ∷ r ∷ [])
    (square v0 ⊗ (v5 ⊖ v2))
    (v1 ⊗ lit (pos 0) ⊕ v0 ⊗ (v0 ⊗ v3 ⊖ v0 ⊗ v2) ⊕ (v0 ⊗ (v0 ⊗ v5 ⊖ v0 ⊗ v4) ⊕ v0 ⊗ (v0 ⊗ (v4 ⊖ v3)))) tt

-- ---- their sizes

excess_le : (p : Pair) → Accepted (pair_squares p)
    → nat_abs (p.cosine *ℤ p.cosine +ℤ p.sine *ℤ p.sine -ℤ pos unit *ℤ pos unit) ≤ 2 ^ 32
excess_le p h = rw (pair_squares_pos p) (accepted_near (pair_squares p) h)

-- what a direction has across axis 3
abbrev across : Direction → Direction
across v = record { x = v.x; y = v.y; z = pos 0 }

across_le : (v : Direction) → Accepted (squares v) → squares (across v) ≤ longest * longest
unfolding squares squared
across_le v h = omega (arith, h.high)

sum_le : (A : ℕ) → A ≤ farthest
    → 2 ^ 32 * longest + longest * turn_error + (unit * turn_error + unit * (longest * A)) ≤ 2 ^ 60 * (A + 24)
sum_le A h = omega arith

module _ (p : Pair) (v u : Direction) (A : ℕ) (hp : Accepted (pair_squares p)) (hv : Accepted (squares v))
    (hu : Accepted (squares u)) where
  pub turn3_back : A ≤ farthest → squares (minus u (to_length (turn3 p v))) ≤ A * A
      → squares (minus (to_length (turn3 (opposite_pair p) u)) v) ≤ (A + 24) * (A + 24)
  turn3_back small near =
      let c = p.cosine in
      let s = p.sine in
      let o = opposite_pair p in
      let w = to_length (turn3 p v) in
      let r = to_length (turn3 o u) in
      let k = c *ℤ c +ℤ s *ℤ s -ℤ pos unit *ℤ pos unit in
      let excess = times k (across v) in
      let out = minus (times (pos unit) w) (image p v) in
      let home = times (pos unit) (minus (times (pos unit) r) (image o u)) in
      let apart = times (pos unit) (image o (minus u w)) in
      let ho = opposite_pair_accepted p hp in
      le_of_times_le (2 ^ 60) (minus r v) (A + 24) (lit< tt)
      (le_of_parts_eq (times (pos (2 ^ 60)) (minus r v)) (plus (plus excess (image o out)) (plus home apart))
      (back_x (pos unit) c s v.x v.y w.x w.y u.x u.y r.x)
      (back_y (pos unit) c s v.x v.y w.x w.y u.x u.y r.y)
      (back_z (pos unit) k v.z w.z u.z r.z)
      (square_le_of_le (2 ^ 32 * longest + longest * turn_error + (unit * turn_error + unit * (longest * A)))
      (2 ^ 60 * (A + 24))
      (plus_le (plus excess (image o out)) (plus home apart)
      (2 ^ 32 * longest + longest * turn_error) (unit * turn_error + unit * (longest * A))
      (plus_le excess (image o out) (2 ^ 32 * longest) (longest * turn_error)
      (times_le k (across v) (2 ^ 32) longest (excess_le p hp) (across_le v hv))
      (image_le o out turn_error ho (turn3_near p v hp hv)))
      (plus_le home apart (unit * turn_error) (unit * (longest * A))
      (times_le (pos unit) (minus (times (pos unit) r) (image o u)) unit turn_error (lit≤ tt) (turn3_near o u ho hu))
      (times_le (pos unit) (image o (minus u w)) unit (longest * A) (lit≤ tt) (image_le o (minus u w) A ho near))))
      (sum_le A small)))
