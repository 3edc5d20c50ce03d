-- Nutation: the limits of its two sums and their rounding, for any table of terms and for the ten of 01.
use Rattle.std.specs.Prelude.{◌≡◌, refl, ℕ, zero, suc, ◌+◌, ◌*◌, ◌≤◌, ◌<◌, ◌^◌, length, take, get_or, ℤ, pos, nat_abs, ◌+ℤ◌, ◌-ℤ◌, ◌*ℤ◌}
use Rattle.std.proofs.Common.{ap, sym, ◌∙◌, mul-le-mul, lit<, lit≤}
use mathlib.Core.List.{List, [], ◌∷◌, map}
use native.Mathlib.Omega.{arith}
use Rattle.std.proofs.Math.IntN.{+ℤ_comm, +ℤ_assoc}
use Rattle.integers.specs.Size.{abs_add, abs_mul}
use Rattle.rules.specs.declared.Tt.{Tt}
use Rattle.rules.specs.declared.Term.{Term}
use Rattle.rules.specs.Units.{unit, −◌}
use Rattle.rules.specs.Rounding.{rnd, rnd_size, modulo}
use Rattle.rules.specs.Polynomials.{times_t_plus, polynomial}
use Rattle.rules.specs.Arguments.{arguments}
use Rattle.rules.specs.Length.{root_from, root, square, pair_squares, part_to, pair_to_length}
use Rattle.rules.specs.Circle.{radian_parts, square_parts, stage, stages, raw_sine, raw_cosine, pair_of_parts, pair_to_half}
use Rattle.rules.specs.Circle.{exchanged_pair, pair_to_quarter, in_quarter, folded, pair}
use Rattle.rules.specs.Nutation.{terms, term_angle, longitude_amplitude, obliquity_amplitude, longitude_product}
use Rattle.rules.specs.Nutation.{obliquity_product, total, nutation_by, nutation}
use Rattle.laws.specs.Rounding.{rnd_near, rnd_under}
use Rattle.laws.specs.Instant.{InRange}
use Rattle.laws.specs.Polynomials.{sizes, polynomial_le}
use Rattle.laws.specs.Angles.{pair_sized}

-- the sizes of the amplitudes and of their changes, summed over a table
abbrev pub sizes_of : (Term → List ℤ) → List Term → ℕ
sizes_of amplitude [] = 0
sizes_of amplitude (m ∷ ms) = sizes (amplitude m) + sizes_of amplitude ms

-- ---- one product

pub longitude_product_le : (t : Tt) → InRange t.0 → (m : Term)
    → nat_abs (longitude_product t m) ≤ sizes (longitude_amplitude m) * unit
unfolding longitude_product
longitude_product_le t h m =
    rw (abs_mul (polynomial (longitude_amplitude m) t.0) (pair (term_angle (arguments t) m)).sine)
    (mul-le-mul (polynomial_le (longitude_amplitude m) t.0 h) (pair_sized (term_angle (arguments t) m)).sine_le)

pub obliquity_product_le : (t : Tt) → InRange t.0 → (m : Term)
    → nat_abs (obliquity_product t m) ≤ sizes (obliquity_amplitude m) * unit
unfolding obliquity_product
obliquity_product_le t h m =
    rw (abs_mul (polynomial (obliquity_amplitude m) t.0) (pair (term_angle (arguments t) m)).cosine)
    (mul-le-mul (polynomial_le (obliquity_amplitude m) t.0 h) (pair_sized (term_angle (arguments t) m)).cosine_le)

-- ---- the sum, one product after the other

pub total_next : (product : Term → ℤ) (ms : List Term) (k : ℕ) (last : Term) → k < length ms
    → total (map product (take (suc k) ms)) ≡ total (map product (take k ms)) +ℤ product (get_or ms k last)
unfolding total
total_next product [] k last h = absurd (omega arith)
total_next product (m ∷ ms) zero last h = +ℤ_comm (product m) (pos 0)
total_next product (m ∷ ms) (suc k) last h =
    ap (λ (z : ℤ). product m +ℤ z) (total_next product ms k last (omega arith))
    ∙ sym (+ℤ_assoc (product m) (total (map product (take k ms))) (product (get_or ms k last)))

-- ---- the sum of any table whose sizes sum to at most 2^32

-- of the products over a table whose sizes sum to `most`
pub record SumLimits (table : List Term) (product : Term → ℤ) (most : ℕ) : Type 0 where
  -- every partial sum, from the first term on
  pub partial_le : (k : ℕ) → nat_abs (total (map product (take k table))) ≤ 2 ^ 62
  -- what the one rounding leaves over is at most half of 2^30
  pub rest_le : 2 * nat_abs (total (map product table) -ℤ pos unit *ℤ rnd (total (map product table)) unit) ≤ unit
  pub result_le : nat_abs (rnd (total (map product table)) unit) ≤ most

module _ (product : Term → ℤ) (amplitude : Term → List ℤ)
    (product_le : (m : Term) → nat_abs (product m) ≤ sizes (amplitude m) * unit) where
  sum_le : (ms : List Term) → nat_abs (total (map product ms)) ≤ sizes_of amplitude ms * unit
  unfolding total
  sum_le [] = omega arith
  sum_le (m ∷ ms) = omega (arith, abs_add (product m) (total (map product ms)), product_le m, sum_le ms)

  take_le : (k : ℕ) (ms : List Term) → sizes_of amplitude (take k ms) ≤ sizes_of amplitude ms
  take_le zero ms = omega arith
  take_le (suc k) [] = omega arith
  take_le (suc k) (m ∷ ms) = omega (arith, take_le k ms)

  sum_limits : (table : List Term) → sizes_of amplitude table ≤ 2 ^ 32
      → SumLimits table product (sizes_of amplitude table)
  sum_limits table h = record {
    partial_le = λ k. omega (arith, sum_le (take k table), take_le k table);
    rest_le = rnd_near (total (map product table)) unit (lit< tt);
    result_le = rnd_under (total (map product table)) unit (sizes_of amplitude table) (lit< tt)
        (omega (arith, sum_le table));
  }

pub longitude_limits : (table : List Term) (t : Tt) → InRange t.0 → sizes_of longitude_amplitude table ≤ 2 ^ 32
    → SumLimits table (longitude_product t) (sizes_of longitude_amplitude table)
longitude_limits table t h = sum_limits (longitude_product t) longitude_amplitude (longitude_product_le t h) table

pub obliquity_limits : (table : List Term) (t : Tt) → InRange t.0 → sizes_of obliquity_amplitude table ≤ 2 ^ 32
    → SumLimits table (obliquity_product t) (sizes_of obliquity_amplitude table)
obliquity_limits table t h = sum_limits (obliquity_product t) obliquity_amplitude (obliquity_product_le t h) table

-- ---- the ten terms

pub record TenTerms (t : Tt) : Type 0 where
  pub longitude_sum : SumLimits terms (longitude_product t) 19325980
  pub obliquity_sum : SumLimits terms (obliquity_product t) 10035610
  pub longitude_le : nat_abs (nutation t).longitude ≤ 19325980
  pub obliquity_le : nat_abs (nutation t).obliquity ≤ 10035610

pub ten_terms : (t : Tt) → InRange t.0 → TenTerms t
unfolding nutation nutation_by
ten_terms t h = record {
  longitude_sum = longitude_limits terms t h (lit≤ tt);
  obliquity_sum = obliquity_limits terms t h (lit≤ tt);
  longitude_le = (longitude_limits terms t h (lit≤ tt)).result_le;
  obliquity_le = (obliquity_limits terms t h (lit≤ tt)).result_le;
}

-- ---- rounded once: at J2000 the products rounded each apart would give another Δε

abbrev at_j2000 : Tt
at_j2000 = record { 0 = pos 0 }

pub record RoundedOnce : Type 0 where
  pub once : (nutation at_j2000).obliquity ≡ − 5771222
  pub each_apart : total (map (λ m. rnd (obliquity_product at_j2000 m) unit) terms) ≡ − 5771223

pub rounded_once : RoundedOnce
unfolding rnd rnd_size modulo times_t_plus polynomial arguments root_from root square pair_squares part_to pair_to_length radian_parts
    square_parts stage stages raw_sine raw_cosine pair_of_parts pair_to_half exchanged_pair pair_to_quarter in_quarter folded pair
    term_angle longitude_product obliquity_product total nutation_by nutation
rounded_once = record { once = refl; each_apart = refl }
