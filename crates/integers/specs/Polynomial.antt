-- Polynomials as lists of whole coefficients, constant first, and their values at a fraction z / o, over a power of o
-- (docs/MATHEMATICS.md, "Polynomials as lists"). `value_plus`, `value_scale`, `value_shift`, `raise`: P1.
-- `value_times`: P2. `value_le`: P3, a bound by computing.
-- Keep z and o variables where these are cited, and never unfold a power.
use Rattle.std.specs.Prelude.{◌≡◌, length, ℤ, nat_abs, ◌+ℤ◌, ◌*ℤ◌}
use Rattle.std.proofs.Math.Path.{refl, sym}
use Rattle.std.proofs.Common.{ap}
use mathlib.Core.List.{List, [], ◌∷◌}
use Prim.Native.Nat.{ℕ, zero, suc, ◌+◌, ◌*◌, ◌-◌, ◌/◌, ◌≤◌, ◌<◌}
use Rattle.std.proofs.Math.Nat.{mul-le-mul, mul-le-mul_right, lt-div-mul-add, zero-add, suc-add, le_of_mul-le-mul_left}
use native.Mathlib.Omega.{arith}
use Rattle.std.proofs.Math.IntN.{pos, +ℤ_idl, +ℤ_idr, *ℤ-zero, zero-*ℤ}
use Rattle.integers.specs.Ring.{ring, v0, v1, v2, v3, v4, v5, ◌⊕◌, ◌⊗◌, lit}
use Rattle.integers.specs.Size.{abs_add, abs_mul}
use Rattle.integers.specs.Power.{power}

-- ---- sums, multiples, products

unfoldable pub plus : List ℤ → List ℤ → List ℤ
plus [] q = q
plus (a ∷ p) [] = a ∷ p
plus (a ∷ p) (b ∷ q) = (a +ℤ b) ∷ plus p q

unfoldable pub scale : ℤ → List ℤ → List ℤ
scale c [] = []
scale c (a ∷ p) = (c *ℤ a) ∷ scale c p

unfoldable pub times : List ℤ → List ℤ → List ℤ
times [] q = []
times (a ∷ p) q = plus (scale a q) (pos 0 ∷ times p q)

-- the value at z / o, times o to the e: c o^e + c' z o^(e − 1) + ..
unfoldable pub value_at : ℤ → ℕ → ℕ → List ℤ → ℤ
value_at z o e [] = pos 0
value_at z o zero (c ∷ g) = c
value_at z o (suc e) (c ∷ g) = c *ℤ pos (power o (suc e)) +ℤ z *ℤ value_at z o e g

-- the sizes of the coefficients at u / v, rounded up
unfoldable pub size_at : ℕ → ℕ → List ℤ → ℕ
size_at u v [] = 0
size_at u v (c ∷ g) = nat_abs c + (u * size_at u v g + (v - 1)) / v

-- ---- lengths

pub length_plus : (p q : List ℤ) (m : ℕ) → length p ≤ m → length q ≤ m → length (plus p q) ≤ m
unfolding plus
length_plus [] q m h k = k
length_plus (a ∷ p) [] m h k = h
length_plus (a ∷ p) (b ∷ q) zero h k = absurd (omega arith)
length_plus (a ∷ p) (b ∷ q) (suc m) h k = omega (arith, length_plus p q m (omega arith) (omega arith))

pub length_scale : (c : ℤ) (p : List ℤ) → length (scale c p) ≡ length p
unfolding scale
length_scale c [] = refl
length_scale c (a ∷ p) = ap suc (length_scale c p)

pub length_times : (p q : List ℤ) (e f : ℕ) → length p ≤ suc e → length q ≤ suc f
    → length (times p q) ≤ suc (e + f)
unfolding times
length_times [] q e f h k = omega arith
length_times (a ∷ []) q zero f h k =
    length_plus (scale a q) (pos 0 ∷ []) (suc (zero + f)) (omega (arith, length_scale a q)) (omega arith)
length_times (a ∷ (b ∷ p)) q zero f h k = absurd (omega arith)
length_times (a ∷ p) q (suc e) f h k =
    length_plus (scale a q) (pos 0 ∷ times p q) (suc (suc e + f)) (omega (arith, length_scale a q))
    (omega (arith, length_times p q e f (omega arith) k))

module _ (z : ℤ) (o : ℕ) where
  -- ---- P1

  pub value_plus : (e : ℕ) (p q : List ℤ) → value_at z o e (plus p q) ≡ value_at z o e p +ℤ value_at z o e q
  unfolding value_at plus
  value_plus e [] q = sym (+ℤ_idl (value_at z o e q))
  value_plus e (a ∷ p) [] = sym (+ℤ_idr (value_at z o e (a ∷ p)))
  value_plus zero (a ∷ p) (b ∷ q) = refl
  value_plus (suc e) (a ∷ p) (b ∷ q) =
      rw (value_plus e p q) (out a b (pos (power o (suc e))) z (value_at z o e p) (value_at z o e q))
    where
      out : (a b w z x y : ℤ) → (a +ℤ b) *ℤ w +ℤ z *ℤ (x +ℤ y) ≡ (a *ℤ w +ℤ z *ℤ x) +ℤ (b *ℤ w +ℤ z *ℤ y)
      out a b w z x y = ring (a ∷ b ∷ w ∷ z ∷ x ∷ y ∷ [])
          ((v0 ⊕ v1) ⊗ v2 ⊕ v3 ⊗ (v4 ⊕ v5)) ((v0 ⊗ v2 ⊕ v3 ⊗ v4) ⊕ (v1 ⊗ v2 ⊕ v3 ⊗ v5)) tt

  pub value_scale : (e : ℕ) (c : ℤ) (p : List ℤ) → value_at z o e (scale c p) ≡ c *ℤ value_at z o e p
  unfolding value_at scale
  value_scale e c [] = sym (*ℤ-zero c)
  value_scale zero c (a ∷ p) = refl
  value_scale (suc e) c (a ∷ p) =
      rw (value_scale e c p) (out c a (pos (power o (suc e))) z (value_at z o e p))
    where
      out : (c a w z x : ℤ) → (c *ℤ a) *ℤ w +ℤ z *ℤ (c *ℤ x) ≡ c *ℤ (a *ℤ w +ℤ z *ℤ x)
      out c a w z x = ring (c ∷ a ∷ w ∷ z ∷ x ∷ [])
          ((v0 ⊗ v1) ⊗ v2 ⊕ v3 ⊗ (v0 ⊗ v4)) (v0 ⊗ (v1 ⊗ v2 ⊕ v3 ⊗ v4)) tt

  pub value_constant : (e : ℕ) (c : ℤ) → value_at z o e (c ∷ []) ≡ c *ℤ pos (power o e)
  unfolding value_at power
  value_constant zero c = ring (c ∷ []) v0 (v0 ⊗ lit (pos 1)) tt
  value_constant (suc e) c = rw (*ℤ-zero z) (+ℤ_idr (c *ℤ pos (power o (suc e))))

  -- the variable times p
  pub value_shift : (e : ℕ) (p : List ℤ) → value_at z o (suc e) (pos 0 ∷ p) ≡ z *ℤ value_at z o e p
  unfolding value_at
  value_shift e p = rw (zero-*ℤ (pos (power o (suc e)))) (+ℤ_idl (z *ℤ value_at z o e p))

  -- over one power of o more
  pub raise : (e : ℕ) (p : List ℤ) → length p ≤ suc e → value_at z o (suc e) p ≡ pos o *ℤ value_at z o e p
  unfolding value_at power
  raise e [] h = sym (*ℤ-zero (pos o))
  raise zero (c ∷ []) h =
      ring (c ∷ pos o ∷ z ∷ []) (v0 ⊗ (v1 ⊗ lit (pos 1)) ⊕ v2 ⊗ lit (pos 0)) (v1 ⊗ v0) tt
  raise zero (c ∷ (d ∷ p)) h = absurd (omega arith)
  raise (suc e) (c ∷ p) h =
      rw (raise e p (omega arith)) (out (pos o) c (pos (power o (suc e))) z (value_at z o e p))
    where
      out : (o c w z x : ℤ) → c *ℤ (o *ℤ w) +ℤ z *ℤ (o *ℤ x) ≡ o *ℤ (c *ℤ w +ℤ z *ℤ x)
      out o c w z x = ring (o ∷ c ∷ w ∷ z ∷ x ∷ [])
          (v1 ⊗ (v0 ⊗ v2) ⊕ v3 ⊗ (v0 ⊗ v4)) (v0 ⊗ (v1 ⊗ v2 ⊕ v3 ⊗ v4)) tt

  pub raises : (m e : ℕ) (p : List ℤ) → length p ≤ suc e
      → value_at z o (m + e) p ≡ pos (power o m) *ℤ value_at z o e p
  unfolding power
  raises zero e p h = rw (zero-add e) (ring (value_at z o e p ∷ []) v0 (lit (pos 1) ⊗ v0) tt)
  raises (suc m) e p h =
      rw (suc-add m e, raise (m + e) p (omega arith), raises m e p h)
      (ring (pos o ∷ pos (power o m) ∷ value_at z o e p ∷ []) (v0 ⊗ (v1 ⊗ v2)) (v0 ⊗ v1 ⊗ v2) tt)

  -- ---- P2

  pub value_times : (e f : ℕ) (p q : List ℤ) → length p ≤ suc e → length q ≤ suc f
      → value_at z o (e + f) (times p q) ≡ value_at z o e p *ℤ value_at z o f q
  unfolding value_at times power
  value_times e f [] q h k = sym (zero-*ℤ (value_at z o f q))
  value_times zero f (a ∷ []) q h k =
      rw (
        zero-add f,
        value_plus f (scale a q) (pos 0 ∷ []),
        value_scale f a q,
        value_constant f (pos 0),
        zero-*ℤ (pos (power o f)),
      )
      (+ℤ_idr (a *ℤ value_at z o f q))
  value_times zero f (a ∷ (b ∷ p)) q h k = absurd (omega arith)
  value_times (suc e) f (a ∷ p) q h k =
      rw (
        suc-add e f,
        value_plus (suc (e + f)) (scale a q) (pos 0 ∷ times p q),
        value_scale (suc (e + f)) a q,
        raise (e + f) q (omega arith),
        raises e f q k,
        value_shift (e + f) (times p q),
        value_times e f p q (omega arith) k,
      )
      (out a (pos o) (pos (power o e)) z (value_at z o e p) (value_at z o f q))
    where
      out : (a o w z x y : ℤ) → a *ℤ (o *ℤ (w *ℤ y)) +ℤ z *ℤ (x *ℤ y) ≡ (a *ℤ (o *ℤ w) +ℤ z *ℤ x) *ℤ y
      out a o w z x y = ring (a ∷ o ∷ w ∷ z ∷ x ∷ y ∷ [])
          (v0 ⊗ (v1 ⊗ (v2 ⊗ v5)) ⊕ v3 ⊗ (v4 ⊗ v5)) ((v0 ⊗ (v1 ⊗ v2) ⊕ v3 ⊗ v4) ⊗ v5) tt

  -- ---- P3

  pub value_le : (u v : ℕ) → 0 < v → v * nat_abs z ≤ u * o → (e : ℕ) (g : List ℤ)
      → nat_abs (value_at z o e g) ≤ size_at u v g * power o e
  unfolding value_at size_at power
  value_le u v hv h e [] = omega arith
  value_le u v hv h zero (c ∷ g) = omega arith
  value_le u v hv h (suc e) (c ∷ g) =
      omega (
        arith,
        abs_add (c *ℤ pos (o * power o e)) (z *ℤ value_at z o e g),
        abs_mul c (pos (o * power o e)),
        abs_mul z (value_at z o e g),
        over u v o (power o e) (nat_abs z) (nat_abs (value_at z o e g)) (size_at u v g) hv h (value_le u v hv h e g),
      )
    where
      over : (u v o w z x m : ℕ) → 0 < v → v * z ≤ u * o → x ≤ m * w → z * x ≤ (u * m + (v - 1)) / v * (o * w)
      over u v o w z x m hv h k =
          let r = (u * m + (v - 1)) / v in
          let c : u * m ≤ v * r = omega (arith, lt-div-mul-add {a = u * m + (v - 1)} {b = v} hv) in
          le_of_mul-le-mul_left {k = v} (omega (arith, mul-le-mul h k, mul-le-mul_right (o * w) c)) hv
