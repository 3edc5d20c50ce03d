-- The series that the pair is compared with, in three forms that are one: term by term (the rule), worked in steps
-- (what nearness is shown of), and as lists of coefficients in the square (what the arc needs).
use Rattle.std.specs.Prelude.{◌≡◌, refl, List, [], ◌∷◌, ℕ, zero, suc, ◌*◌, ◌-◌, ◌/◌, ◌≤◌, ◌^◌, length, ℤ, pos, neg_ℤ, nat_abs, ◌*ℤ◌}
use Rattle.std.proofs.Common.{sym, ap, ◌∙◌, lit≤}
use Rattle.std.proofs.Math.Nat.{pow-succ', pow-zero}
use native.Mathlib.Omega.{arith}
use Rattle.integers.specs.Ring.{ring, Term, v0, v1, ◌⊕◌, ◌⊖◌, ◌⊗◌, lit}
use Rattle.integers.specs.Power.{power as power_of}
use Rattle.integers.specs.Polynomial.{plus, scale, times, value_at}
use Rattle.integers.specs.SeriesStages.{Stage, stage_of, numerator, denominator, coefficients, scale_of, degree, numerator_is}
use Rattle.integers.specs.SeriesStages.{denominator_is}
use Rattle.rules.specs.Series.{factorial, power, term, whole, sine_series, cosine_series}
use Rattle.laws.specs.RoundedStages.{stages_of_circle}

-- ---- in steps: the rows of the rule with the terms that the rule leaves out, through the 15th and the 14th power

abbrev pub sine_steps : List Stage
sine_steps = stages_of_circle (210 ∷ 156 ∷ 110 ∷ 72 ∷ 42 ∷ 20 ∷ 6 ∷ [])

abbrev pub cosine_steps : List Stage
cosine_steps = stages_of_circle (182 ∷ 132 ∷ 90 ∷ 56 ∷ 30 ∷ 12 ∷ 2 ∷ [])

-- the definitions as terms for `ring`
abbrev power_term : Term → ℕ → Term
power_term y zero = lit (pos 1)
power_term y (suc n) = y ⊗ power_term y n

abbrev term_term : Term → Term → ℕ → Term
term_term y d n = lit (pos (factorial 15 / factorial n)) ⊗ (power_term y n ⊗ power_term d (15 - n))

abbrev pub sine_term : Term → Term → Term
sine_term y d = term_term y d 1 ⊖ term_term y d 3 ⊕ term_term y d 5 ⊖ term_term y d 7
    ⊕ term_term y d 9 ⊖ term_term y d 11 ⊕ term_term y d 13 ⊖ term_term y d 15

abbrev pub cosine_term : Term → Term → Term
cosine_term y d = term_term y d 0 ⊖ term_term y d 2 ⊕ term_term y d 4 ⊖ term_term y d 6
    ⊕ term_term y d 8 ⊖ term_term y d 10 ⊕ term_term y d 12 ⊖ term_term y d 14

abbrev denominator_term : Term → List Stage → Term → Term
denominator_term o [] d = d
denominator_term o (stage_of j k ∷ l) d = denominator_term o l (lit (pos j) ⊗ (lit (pos k) ⊗ (o ⊗ d)))

abbrev numerator_term : Term → Term → List Stage → Term → Term → Term
numerator_term z o [] n d = n
numerator_term z o (stage_of j k ∷ l) n d =
    numerator_term z o l (lit (pos k) ⊗ (o ⊗ d) ⊖ lit (pos j) ⊗ (z ⊗ n)) (lit (pos j) ⊗ (lit (pos k) ⊗ (o ⊗ d)))

pub sine_by_steps : (y : ℤ) (d : ℕ) → sine_series y d ≡ y *ℤ numerator (y *ℤ y) (d * d) sine_steps (pos 1) 1
unfolding sine_series term power numerator factorial
sine_by_steps y d = ring (y ∷ pos d ∷ []) (sine_term v0 v1)
    (v0 ⊗ numerator_term (v0 ⊗ v0) (v1 ⊗ v1) sine_steps (lit (pos 1)) (lit (pos 1))) tt

pub cosine_by_steps : (y : ℤ) (d : ℕ)
    → cosine_series y d ≡ pos (15 * d) *ℤ numerator (y *ℤ y) (d * d) cosine_steps (pos 1) 1
unfolding cosine_series term power numerator factorial
cosine_by_steps y d = ring (y ∷ pos d ∷ []) (cosine_term v0 v1)
    (lit (pos 15) ⊗ v1 ⊗ numerator_term (v0 ⊗ v0) (v1 ⊗ v1) cosine_steps (lit (pos 1)) (lit (pos 1))) tt

-- ---- what all is over

power_is : (o e : ℕ) → power_of o e ≡ o ^ e
unfolding power_of
power_is o zero = rw pow-zero
power_is o (suc e) = rw (power_is o e, pow-succ' o e)

pub whole_power : (d : ℕ) → whole d ≡ 1307674368000 * power_of d 15
unfolding whole factorial
whole_power d = rw (power_is d 15)

pub sine_whole : (d : ℕ) → whole d ≡ d * denominator (d * d) sine_steps 1
unfolding denominator power_of
sine_whole d = whole_power d ∙ ap nat_abs
    (ring (pos d ∷ []) (lit (pos 1307674368000) ⊗ power_term v0 15)
    (v0 ⊗ denominator_term (v0 ⊗ v0) sine_steps (lit (pos 1))) tt)

pub cosine_whole : (d : ℕ) → whole d ≡ 15 * d * denominator (d * d) cosine_steps 1
unfolding denominator power_of
cosine_whole d = whole_power d ∙ ap nat_abs
    (ring (pos d ∷ []) (lit (pos 1307674368000) ⊗ power_term v0 15)
    (lit (pos 15) ⊗ v0 ⊗ denominator_term (v0 ⊗ v0) cosine_steps (lit (pos 1))) tt)

-- ---- as coefficients in the square: 15!, −15!/3!, .., −15!/15! and 14!, −14!/2!, .., −14!/14!

abbrev pub sine_list : List ℤ
sine_list = pos 1307674368000 ∷ neg_ℤ (pos 217945728000) ∷ pos 10897286400 ∷ neg_ℤ (pos 259459200)
    ∷ pos 3603600 ∷ neg_ℤ (pos 32760) ∷ pos 210 ∷ neg_ℤ (pos 1) ∷ []

abbrev pub cosine_list : List ℤ
cosine_list = pos 87178291200 ∷ neg_ℤ (pos 43589145600) ∷ pos 3632428800 ∷ neg_ℤ (pos 121080960)
    ∷ pos 2162160 ∷ neg_ℤ (pos 24024) ∷ pos 182 ∷ neg_ℤ (pos 1) ∷ []

-- the variable itself
abbrev pub identity : List ℤ
identity = pos 0 ∷ pos 1 ∷ []

-- ---- steps at a fraction y / d that is the value of q / s at z / o

module _ (z : ℤ) (o : ℕ) (q : List ℤ) (m s : ℕ) (hq : length q ≤ suc m)
    (y : ℤ) (d : ℕ) (hy : y ≡ value_at z o m q) (hd : d ≡ s * power_of o m) where
  pub composed : (l : List Stage) (c : ℕ)
      → numerator y d l (pos 1) c ≡ value_at z o (degree m l 0) (coefficients l q s (pos 1 ∷ []) c)
  unfolding value_at power_of
  composed l c = rw (hy, hd)
      (ap (λ x. numerator (value_at z o m q) (s * power_of o m) l (pos 1) x) (one c)
      ∙ numerator_is z o q m s hq l (pos 1 ∷ []) 0 c (lit≤ tt))
    where
      one : (c : ℕ) → c ≡ c * 1
      one c = omega arith

  pub composed_denominator : (l : List Stage) (c : ℕ) → denominator d l c ≡ scale_of l s c * power_of o (degree m l 0)
  unfolding power_of
  composed_denominator l c = rw hd
      (ap (λ x. denominator (s * power_of o m) l x) (one c) ∙ denominator_is z o m s l 0 c)
    where
      one : (c : ℕ) → c ≡ c * 1
      one c = omega arith

-- at z / o itself
identity_is : (z : ℤ) (o : ℕ) → z ≡ value_at z o 1 identity
unfolding value_at power_of
identity_is z o =
    ring (z ∷ pos o ∷ []) v0 (lit (pos 0) ⊗ (v1 ⊗ lit (pos 1)) ⊕ v0 ⊗ lit (pos 1)) tt

identity_denominator : (o : ℕ) → o ≡ 1 * power_of o 1
unfolding power_of
identity_denominator o = omega arith

pub plain : (z : ℤ) (o : ℕ) (l : List Stage) (c : ℕ)
    → numerator z o l (pos 1) c ≡ value_at z o (degree 1 l 0) (coefficients l identity 1 (pos 1 ∷ []) c)
plain z o l c = composed z o identity 1 1 (lit≤ tt) z o (identity_is z o) (identity_denominator o) l c

pub plain_denominator : (o : ℕ) (l : List Stage) (c : ℕ)
    → denominator o l c ≡ scale_of l 1 c * power_of o (degree 1 l 0)
plain_denominator o l c =
    composed_denominator (pos 0) o identity 1 1 (lit≤ tt) (pos 0) o (identity_is (pos 0) o) (identity_denominator o) l c

-- ---- the rule's series, as coefficients, and with q / s in the place of the square

sine_coefficients : coefficients sine_steps identity 1 (pos 1 ∷ []) 1 ≡ sine_list
unfolding coefficients plus scale times
sine_coefficients = refl

cosine_coefficients : coefficients cosine_steps identity 1 (pos 1 ∷ []) 1 ≡ cosine_list
unfolding coefficients plus scale times
cosine_coefficients = refl

sine_steps_lem : (z : ℤ) (o : ℕ) → value_at z o 7 sine_list ≡ numerator z o sine_steps (pos 1) 1
unfolding degree
sine_steps_lem z o = sym (plain z o sine_steps 1 ∙ ap (λ g. value_at z o 7 g) sine_coefficients)

cosine_steps_lem : (z : ℤ) (o : ℕ) → value_at z o 7 cosine_list ≡ numerator z o cosine_steps (pos 1) 1
unfolding degree
cosine_steps_lem z o = sym (plain z o cosine_steps 1 ∙ ap (λ g. value_at z o 7 g) cosine_coefficients)

pub sine_is : (y : ℤ) (d : ℕ) → sine_series y d ≡ y *ℤ value_at (y *ℤ y) (d * d) 7 sine_list
sine_is y d = rw (sine_steps_lem (y *ℤ y) (d * d)) (sine_by_steps y d)

pub cosine_is : (y : ℤ) (d : ℕ) → cosine_series y d ≡ pos (15 * d) *ℤ value_at (y *ℤ y) (d * d) 7 cosine_list
cosine_is y d = rw (cosine_steps_lem (y *ℤ y) (d * d)) (cosine_by_steps y d)

module _ (z : ℤ) (o : ℕ) (q : List ℤ) (m s : ℕ) (hq : length q ≤ suc m)
    (y : ℤ) (d : ℕ) (hy : y ≡ value_at z o m q) (hd : d ≡ s * power_of o m) where
  pub sine_at : value_at y d 7 sine_list
      ≡ value_at z o (degree m sine_steps 0) (coefficients sine_steps q s (pos 1 ∷ []) 1)
  sine_at = sine_steps_lem y d ∙ composed z o q m s hq y d hy hd sine_steps 1

  pub cosine_at : value_at y d 7 cosine_list
      ≡ value_at z o (degree m cosine_steps 0) (coefficients cosine_steps q s (pos 1 ∷ []) 1)
  cosine_at = cosine_steps_lem y d ∙ composed z o q m s hq y d hy hd cosine_steps 1
