-- Three parts brought to length: unless they are far too short, their squares' sum comes out accepted.
use Rattle.std.specs.Prelude.{◌≡◌, refl, [], ◌∷◌, ℕ, ◌+◌, ◌*◌, ◌≤◌, ◌<◌, ◌^◌, ℤ, pos, nat_abs, ◌+ℤ◌, ◌-ℤ◌, ◌*ℤ◌}
use Rattle.std.proofs.Common.{sym, ap, mul-le-mul, mul-le-mul_left, mul-le-mul_right, arith}
use Rattle.std.proofs.Math.Nat.{le_of_mul-le-mul_left}
use Rattle.integers.specs.Difference.{pos_sub, sub_is}
use Rattle.integers.specs.Size.{abs_add, abs_sub, abs_mul, abs_le, abs_is}
use Rattle.integers.specs.Ring.{ring, v0, v1, v2, v3, v4, v5, v6, v7, lit, square, ◌⊕◌, ◌⊖◌, ◌⊗◌}
use Rattle.integers.specs.Square.{le_of_square_le, two_products_le, squares_of, squares_of_pos}
use Rattle.rules.specs.Units.{unit}
use Rattle.rules.specs.Length.{part_to}
use Rattle.rules.specs.Turning.{Accepted}
use Rattle.laws.specs.Rounding.{rnd_near}
use Rattle.laws.specs.Root.{Root}

-- ---- accepted, by the size of a difference

pub accepted_of_near : (n : ℕ) → nat_abs (pos n -ℤ pos (2 ^ 60)) ≤ 2 ^ 32 → Accepted n
accepted_of_near n h =
    let d = pos n -ℤ pos (2 ^ 60) in
    record {
      low = omega (arith, sub_is (pos n) (pos (2 ^ 60)), abs_is d);
      high = omega (arith, sub_is (pos n) (pos (2 ^ 60)), abs_is d);
    }

pub accepted_near : (n : ℕ) → Accepted n → nat_abs (pos n -ℤ pos (2 ^ 60)) ≤ 2 ^ 32
accepted_near n h = abs_le (pos n -ℤ pos (2 ^ 60)) (2 ^ 32)
    (omega (arith, sub_is (pos n) (pos (2 ^ 60)), h.low, h.high))
    (omega (arith, sub_is (pos n) (pos (2 ^ 60)), h.low, h.high))

-- ---- what the rounding of one part leaves over

pub part_rest : (a : ℤ) (l : ℕ) → 0 < l → 2 * nat_abs (a *ℤ pos unit -ℤ pos l *ℤ part_to l a) ≤ l
unfolding part_to
part_rest a l h = rnd_near (a *ℤ pos unit) l h

-- ---- three parts

-- l² (u² + v² + w² − a²), by what each rounding left over
new_squares : (x y z u v w l a : ℤ) → l *ℤ l *ℤ (u *ℤ u +ℤ v *ℤ v +ℤ w *ℤ w -ℤ a *ℤ a)
    ≡ a *ℤ a *ℤ (x *ℤ x +ℤ y *ℤ y +ℤ z *ℤ z -ℤ l *ℤ l)
    -ℤ pos 2 *ℤ a *ℤ (x *ℤ (x *ℤ a -ℤ l *ℤ u) +ℤ y *ℤ (y *ℤ a -ℤ l *ℤ v) +ℤ z *ℤ (z *ℤ a -ℤ l *ℤ w))
    +ℤ ((x *ℤ a -ℤ l *ℤ u) *ℤ (x *ℤ a -ℤ l *ℤ u) +ℤ (y *ℤ a -ℤ l *ℤ v) *ℤ (y *ℤ a -ℤ l *ℤ v)
    +ℤ (z *ℤ a -ℤ l *ℤ w) *ℤ (z *ℤ a -ℤ l *ℤ w))
new_squares x y z u v w l a = ring (x ∷ y ∷ z ∷ u ∷ v ∷ w ∷ l ∷ a ∷ [])
    (v6 ⊗ v6 ⊗ (square v3 ⊕ square v4 ⊕ square v5 ⊖ square v7))
    (v7 ⊗ v7 ⊗ (square v0 ⊕ square v1 ⊕ square v2 ⊖ square v6)
    ⊖ lit (pos 2) ⊗ v7 ⊗ (v0 ⊗ (v0 ⊗ v7 ⊖ v6 ⊗ v3) ⊕ v1 ⊗ (v1 ⊗ v7 ⊖ v6 ⊗ v4) ⊕ v2 ⊗ (v2 ⊗ v7 ⊖ v6 ⊗ v5))
    ⊕ (square (v0 ⊗ v7 ⊖ v6 ⊗ v3) ⊕ square (v1 ⊗ v7 ⊖ v6 ⊗ v4) ⊕ square (v2 ⊗ v7 ⊖ v6 ⊗ v5)))
    tt

-- the sizes' sum is at most 7/4 of the root of the squares' sum
sizes_le : (x y z l : ℕ) → 96 ≤ l → x * x + y * y + z * z ≤ l * l + 2 * l → 4 * (x + y + z) ≤ 7 * l
sizes_le x y z l h k = le_of_square_le (4 * (x + y + z)) (7 * l)
    (omega (arith, two_products_le x y, two_products_le y z, two_products_le x z, mul-le-mul_right l h))

three : (x y z : ℤ) → nat_abs (x +ℤ y +ℤ z) ≤ nat_abs x + nat_abs y + nat_abs z
three x y z = omega (arith, abs_add (x +ℤ y) z, abs_add x y)

near_root : (n l : ℕ) → Root n l → nat_abs (pos n -ℤ pos (l * l)) ≤ 2 * l
near_root n l r = rw (pos_sub n (l * l) r.below) (omega (arith, r.above))

-- by how much, where e, f, g are what the three roundings left over
moved_le : (x y z u v w : ℤ) (l : ℕ) → Root (squares_of x y z) l
    → (e f g : ℤ) → e ≡ x *ℤ pos unit -ℤ pos l *ℤ u → f ≡ y *ℤ pos unit -ℤ pos l *ℤ v → g ≡ z *ℤ pos unit -ℤ pos l *ℤ w
    → l * l * nat_abs (pos (squares_of u v w) -ℤ pos (2 ^ 60))
    ≤ 2 ^ 60 * (2 * l) + 2 ^ 31 * (nat_abs x * nat_abs e + nat_abs y * nat_abs f + nat_abs z * nat_abs g) + squares_of e f g
moved_le x y z u v w l r e f g de df dg =
    let a = pos unit in
    let i = rw (sym de, sym df, sym dg, squares_of_pos u v w, squares_of_pos x y z)
    at (new_squares x y z u v w (pos l) a) in
    let d = pos (squares_of u v w) -ℤ pos (2 ^ 60) in
    let t = pos (squares_of x y z) -ℤ pos (l * l) in
    let m = x *ℤ e +ℤ y *ℤ f +ℤ z *ℤ g in
    let n = e *ℤ e +ℤ f *ℤ f +ℤ g *ℤ g in
    omega (
      arith,
      ap nat_abs i,
      abs_mul (pos (l * l)) d,
      abs_add (a *ℤ a *ℤ t -ℤ pos 2 *ℤ a *ℤ m) n,
      abs_sub (a *ℤ a *ℤ t) (pos 2 *ℤ a *ℤ m),
      abs_mul (a *ℤ a) t,
      abs_mul (pos 2 *ℤ a) m,
      near_root (squares_of x y z) l r,
      three (x *ℤ e) (y *ℤ f) (z *ℤ g),
      abs_mul x e,
      abs_mul y f,
      abs_mul z g,
      three (e *ℤ e) (f *ℤ f) (g *ℤ g),
      abs_mul e e,
      abs_mul f f,
      abs_mul g g,
    )

-- the sum of all three errors, for a length of 15/16 of 2^30 or more
errors_le : (x y z p q s l d : ℕ) → 15 * unit ≤ 16 * l → 2 * p ≤ l → 2 * q ≤ l → 2 * s ≤ l → 4 * (x + y + z) ≤ 7 * l
    → l * l * d ≤ 2 ^ 60 * (2 * l) + 2 ^ 31 * (x * p + y * q + z * s) + (p * p + q * q + s * s)
    → d ≤ 2 ^ 32
errors_le x y z p q s l d h hp hq hs hz k =
    let e : l * (4 * (l * d)) ≤ l * (2 ^ 63 + 7 * 2 ^ 30 * l + 3 * l) = omega (
      arith,
      mul-le-mul_left x hp,
      mul-le-mul_left y hq,
      mul-le-mul_left z hs,
      mul-le-mul hp hp,
      mul-le-mul hq hq,
      mul-le-mul hs hs,
      mul-le-mul_right l hz,
    ) in
    let f : 4 * (l * d) ≤ 2 ^ 63 + 7 * 2 ^ 30 * l + 3 * l = le_of_mul-le-mul_left {k = l} e (omega arith) in
    le_of_mul-le-mul_left {k = l} (omega arith) (omega arith)

-- three parts that are not far too short are brought to an accepted length
pub length_near : (x y z : ℤ) (l : ℕ) → Root (squares_of x y z) l → 15 * unit ≤ 16 * l
    → Accepted (squares_of (part_to l x) (part_to l y) (part_to l z))
length_near x y z l r h =
    let a = pos unit in
    let u = part_to l x in
    let v = part_to l y in
    let w = part_to l z in
    let e = x *ℤ a -ℤ pos l *ℤ u in
    let f = y *ℤ a -ℤ pos l *ℤ v in
    let g = z *ℤ a -ℤ pos l *ℤ w in
    let k : 0 < l = omega arith in
    accepted_of_near (squares_of u v w)
    (errors_le (nat_abs x) (nat_abs y) (nat_abs z) (nat_abs e) (nat_abs f) (nat_abs g) l
    (nat_abs (pos (squares_of u v w) -ℤ pos (2 ^ 60))) h
    (part_rest x l k) (part_rest y l k) (part_rest z l k)
    (sizes_le (nat_abs x) (nat_abs y) (nat_abs z) l (omega arith) (omega (arith, r.above)))
    (moved_le x y z u v w l r e f g refl refl refl))
