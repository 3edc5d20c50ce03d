-- `nutation::nutation_of` meets its contract: each turn adds one product more to the two sums.
use Rattle.std.specs.Prelude.{◌≡◌, refl, ◌≤◌, ◌^◌, ℕ, nat_abs}
use Rattle.std.proofs.Common.{ap, ◌∙◌, arith, rules, w64, to_z, of_z}
use mathlib.Core.List.{map}
use Rattle.rules.specs.declared.Tt.{Tt}
use Rattle.rules.specs.declared.Nutation.{Nutation}
use Rattle.rules.specs.Nutation.{terms, longitude_product, obliquity_product, total, nutation_by, nutation}
use Rattle.laws.specs.Instant.{InRange}
use Rattle.laws.specs.Nutation.{longitude_product_le, obliquity_product_le, ten_terms}
use Rattle.nutation.specs.Terms.{term_count, term_at}
use Rattle.nutation.specs.TermFits.{term_fits}
use Rattle.nutation.proofs.Sums.{sum_to, more_fits, more_is}
use Rattle.nutation.proofs.nutation_of.Goals as goal

longitude_le : (t : Tt) → InRange t.0 → (k : ℕ) → nat_abs (longitude_product t (term_at k)) ≤ 2 ^ 62
longitude_le t h k = omega (arith, longitude_product_le t h (term_at k), (term_fits k).amplitudes_le)

obliquity_le : (t : Tt) → InRange t.0 → (k : ℕ) → nat_abs (obliquity_product t (term_at k)) ≤ 2 ^ 62
obliquity_le t h k = omega (arith, obliquity_product_le t h (term_at k), (term_fits k).amplitudes_le)

pub loop-term-init : goal.loop-term-init
unfolding total
loop-term-init c = record { longitude_is = refl; obliquity_is = refl }

pub products-p-requires : goal.products-p-requires
products-p-requires c =
    record { a_value = c.arguments_of-a.ensures; term_fits = term_fits c.loop-term.term-index }

pub overflow_add-longitude : goal.overflow_add-longitude
overflow_add-longitude c =
    let k = c.loop-term.term-index in
    let h = rw c.t.view_is at c.t.invariant in
    more_fits (ten_terms c.args.t h).longitude_sum k c.loop-term-test.true _ _ c.loop-term.invariant.longitude_is
    (ap (λ (n : Nutation). n.longitude) c.products-p.ensures) (longitude_le c.args.t h k)

pub overflow_add-obliquity : goal.overflow_add-obliquity
overflow_add-obliquity c =
    let k = c.loop-term.term-index in
    let h = rw c.t.view_is at c.t.invariant in
    more_fits (ten_terms c.args.t h).obliquity_sum k c.loop-term-test.true _ _ c.loop-term.invariant.obliquity_is
    (ap (λ (n : Nutation). n.obliquity) c.products-p.ensures) (obliquity_le c.args.t h k)

pub loop-term-preserved : goal.loop-term-preserved
loop-term-preserved c =
    let k = c.loop-term.term-index in
    let h = rw c.t.view_is at c.t.invariant in
    let ten = ten_terms c.args.t h in
    record {
      longitude_is = more_is ten.longitude_sum k c.loop-term-test.true _ _ c.loop-term.invariant.longitude_is
          (ap (λ (n : Nutation). n.longitude) c.products-p.ensures) (longitude_le c.args.t h k);
      obliquity_is = more_is ten.obliquity_sum k c.loop-term-test.true _ _ c.loop-term.invariant.obliquity_is
          (ap (λ (n : Nutation). n.obliquity) c.products-p.ensures) (obliquity_le c.args.t h k);
    }

pub returns : goal.returns
unfolding nutation nutation_by
returns c =
    let l = c.loop-term in
    let t = c.args.t in
    let all : l.term-index ≡ term_count = omega arith in
    let longitude : to_z w64 l.longitude-bits ≡ total (map (longitude_product t) terms) =
    l.invariant.longitude_is ∙ ap (sum_to (longitude_product t)) all in
    let obliquity : to_z w64 l.obliquity-bits ≡ total (map (obliquity_product t) terms) =
    l.invariant.obliquity_is ∙ ap (sum_to (obliquity_product t)) all in
    let first : to_z w64 (of_z w64 c.rnd_quotient.result) ≡ (nutation t).longitude =
    search rules ∙ rw longitude at c.rnd_quotient.ensures in
    let second : to_z w64 (of_z w64 c.rnd_quotient-2.result) ≡ (nutation t).obliquity =
    search rules ∙ rw obliquity at c.rnd_quotient-2.ensures in
    λ i. record { longitude = first i; obliquity = second i }
