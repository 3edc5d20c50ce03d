-- A series worked in steps, as a fraction and as a list of coefficients: `numerator_is` and `denominator_is` say that
-- the two are one (docs/MATHEMATICS.md, "Polynomials as lists", P4).
use Rattle.std.specs.Prelude.{◌≡◌, ℕ, suc, ◌+◌, ◌*◌, ◌≤◌, length, ℤ, pos, neg_ℤ, ◌-ℤ◌, ◌*ℤ◌}
use Rattle.std.proofs.Math.Path.{refl}
use mathlib.Core.List.{List, [], ◌∷◌}
use Rattle.std.proofs.Common.{arith}
use Rattle.integers.specs.Ring.{ring, v0, v1, v2, v3, v4, v5, v6, v7, ◌⊕◌, ◌⊖◌, ◌⊗◌, neg}
use Rattle.integers.specs.Power.{power, power_add}
use Rattle.integers.specs.Polynomial.{scale, plus, times, value_at, value_plus, value_constant, value_scale}
use Rattle.integers.specs.Polynomial.{value_times, length_plus, length_scale, length_times}

-- the stage (j, k) makes 1 / j − (z / k) p of p
pub data Stage : Type 0 where
  stage_of : ℕ → ℕ → Stage

-- as a fraction: n / d at z / o becomes (k o d − j z n) / (j k o d)
unfoldable pub denominator : ℕ → List Stage → ℕ → ℕ
denominator o [] d = d
denominator o (stage_of j k ∷ l) d = denominator o l (j * (k * (o * d)))

unfoldable pub numerator : ℤ → ℕ → List Stage → ℤ → ℕ → ℤ
numerator z o [] n d = n
numerator z o (stage_of j k ∷ l) n d = numerator z o l (pos (k * (o * d)) -ℤ pos j *ℤ (z *ℤ n)) (j * (k * (o * d)))

-- as coefficients, with the polynomial q / s in the place of z: the list, its scale, and the power of o it is over
unfoldable pub coefficients : List Stage → List ℤ → ℕ → List ℤ → ℕ → List ℤ
coefficients [] q s g c = g
coefficients (stage_of j k ∷ l) q s g c =
    coefficients l q s (plus (pos (k * (s * c)) ∷ []) (scale (neg_ℤ (pos j)) (times q g))) (j * (k * (s * c)))

unfoldable pub scale_of : List Stage → ℕ → ℕ → ℕ
scale_of [] s c = c
scale_of (stage_of j k ∷ l) s c = scale_of l s (j * (k * (s * c)))

unfoldable pub degree : ℕ → List Stage → ℕ → ℕ
degree m [] e = e
degree m (stage_of j k ∷ l) e = degree m l (m + e)

-- ---- the fraction is the value of the list

module _ (z : ℤ) (o : ℕ) where
  next : (q g : List ℤ) (m e s c j k : ℕ) → length q ≤ suc m → length g ≤ suc e
      → pos (k * (s * power o m * (c * power o e))) -ℤ pos j *ℤ (value_at z o m q *ℤ value_at z o e g)
      ≡ value_at z o (m + e) (plus (pos (k * (s * c)) ∷ []) (scale (neg_ℤ (pos j)) (times q g)))
  next q g m e s c j k hq hg =
      rw (
        value_plus z o (m + e) (pos (k * (s * c)) ∷ []) (scale (neg_ℤ (pos j)) (times q g)),
        value_constant z o (m + e) (pos (k * (s * c))),
        value_scale z o (m + e) (neg_ℤ (pos j)) (times q g),
        value_times z o m e q g hq hg,
        power_add o m e,
      )
      (ring (pos k ∷ pos s ∷ pos c ∷ pos j ∷ pos (power o m) ∷ pos (power o e) ∷ value_at z o m q ∷ value_at z o e g ∷ [])
      (v0 ⊗ (v1 ⊗ v4 ⊗ (v2 ⊗ v5)) ⊖ v3 ⊗ (v6 ⊗ v7)) (v0 ⊗ (v1 ⊗ v2) ⊗ (v4 ⊗ v5) ⊕ neg v3 ⊗ (v6 ⊗ v7)) tt)

  next_denominator : (m e s c j k : ℕ)
      → j * (k * (s * power o m * (c * power o e))) ≡ j * (k * (s * c)) * power o (m + e)
  next_denominator m e s c j k = rw (power_add o m e) (omega arith)

  pub numerator_is : (q : List ℤ) (m s : ℕ) → length q ≤ suc m
      → (l : List Stage) (g : List ℤ) (e c : ℕ) → length g ≤ suc e
      → numerator (value_at z o m q) (s * power o m) l (value_at z o e g) (c * power o e)
      ≡ value_at z o (degree m l e) (coefficients l q s g c)
  unfolding numerator coefficients degree
  numerator_is q m s hq [] g e c hg = refl
  numerator_is q m s hq (stage_of j k ∷ l) g e c hg =
      let more = plus (pos (k * (s * c)) ∷ []) (scale (neg_ℤ (pos j)) (times q g)) in
      rw (next q g m e s c j k hq hg, next_denominator m e s c j k)
      (numerator_is q m s hq l more (m + e) (j * (k * (s * c)))
      (length_plus (pos (k * (s * c)) ∷ []) (scale (neg_ℤ (pos j)) (times q g)) (suc (m + e)) (omega arith)
      (omega (arith, length_scale (neg_ℤ (pos j)) (times q g), length_times q g m e hq hg))))

  pub denominator_is : (m s : ℕ) (l : List Stage) (e c : ℕ)
      → denominator (s * power o m) l (c * power o e) ≡ scale_of l s c * power o (degree m l e)
  unfolding denominator scale_of degree
  denominator_is m s [] e c = refl
  denominator_is m s (stage_of j k ∷ l) e c =
      rw (next_denominator m e s c j k) (denominator_is m s l (m + e) (j * (k * (s * c))))

pub length_coefficients : (q : List ℤ) (m s : ℕ) → length q ≤ suc m
    → (l : List Stage) (g : List ℤ) (e c : ℕ) → length g ≤ suc e
    → length (coefficients l q s g c) ≤ suc (degree m l e)
unfolding coefficients degree
length_coefficients q m s hq [] g e c hg = hg
length_coefficients q m s hq (stage_of j k ∷ l) g e c hg =
    let more = plus (pos (k * (s * c)) ∷ []) (scale (neg_ℤ (pos j)) (times q g)) in
    length_coefficients q m s hq l more (m + e) (j * (k * (s * c)))
    (length_plus (pos (k * (s * c)) ∷ []) (scale (neg_ℤ (pos j)) (times q g)) (suc (m + e)) (omega arith)
    (omega (arith, length_scale (neg_ℤ (pos j)) (times q g), length_times q g m e hq hg)))
