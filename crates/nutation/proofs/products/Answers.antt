-- `nutation::products` meets its contract.
use Rattle.std.specs.Prelude.{◌≡◌, ◌+◌, ◌*◌, ◌≤◌, ◌<◌, ◌^◌, [], ◌∷◌, ℤ, nat_abs}
use Rattle.std.proofs.Common.{ap, ◌∙◌, arith, w64, to_z, of_z}
use Rattle.std.specs.Int.Signed.{mag}
use Rattle.rules.specs.declared.Tt.{Tt}
use Rattle.rules.specs.declared.Term.{Term}
use Rattle.rules.specs.declared.Pair.{Pair}
use Rattle.rules.specs.declared.Arguments.{Arguments}
use Rattle.rules.specs.Units.{unit}
use Rattle.rules.specs.Circle.{pair}
use Rattle.rules.specs.Polynomials.{polynomial}
use Rattle.rules.specs.Arguments.{arguments}
use Rattle.rules.specs.Nutation.{term_angle, longitude_product, obliquity_product}
use Rattle.laws.specs.Instant.{InRange}
use Rattle.laws.specs.Polynomials.{polynomial_le}
use Rattle.laws.specs.Angles.{pair_sized}
use Rattle.words.specs.Fits.{held64}
use Rattle.words.specs.Holds.{Holds, bits, ◌*ʷ◌, arg, got, mul, mul_ok}
use Rattle.nutation.specs.TermFits.{TermFits, arguments_fit}
use Rattle.polynomials.proofs.Held.{instant_held}
use Rattle.nutation.proofs.products.Goals as goal

-- ---- what the words hold

small_held : (z : ℤ) → nat_abs z ≤ 2 ^ 32 → to_z w64 (of_z w64 z) ≡ z
small_held z h = (arg z h tt).value

-- an amplitude with its change, of what `linear` answered
module _ (t at : Tt) (h : InRange at.0) (v : at ≡ t) where
  amplitude : (c d : ℤ) {r : ℤ} → nat_abs c + nat_abs d ≤ 2 ^ 32
      → r ≡ polynomial (to_z w64 (of_z w64 c) ∷ to_z w64 (of_z w64 d) ∷ []) (to_z w64 (of_z w64 at.0))
      → Holds (bits r) (polynomial (c ∷ d ∷ []) t.0) (2 ^ 32)
  amplitude c d l e =
      let ms = instant_held at.0 h ∙ ap (λ (t : Tt). t.0) v in
      got (rw (ms, small_held c (omega (arith, l)), small_held d (omega (arith, l))) at e)
      (omega (arith, polynomial_le (c ∷ d ∷ []) t.0 (rw v at h), l)) tt

  longitude_holds : (m : Term) {r : ℤ} {p : Pair} → TermFits m
      → r ≡ polynomial (to_z w64 (of_z w64 m.longitude) ∷ to_z w64 (of_z w64 m.longitude_change) ∷ []) (to_z w64 (of_z w64 at.0))
      → p ≡ pair (term_angle (arguments t) m)
      → Holds (bits r *ʷ bits p.sine) (longitude_product t m) (2 ^ 32 * unit)
  unfolding longitude_product
  longitude_holds m f e i =
      mul (amplitude m.longitude m.longitude_change (omega (arith, f.amplitudes_le)) e)
      (got (ap (λ (p : Pair). p.sine) i) (pair_sized (term_angle (arguments t) m)).sine_le tt) tt

  obliquity_holds : (m : Term) {r : ℤ} {p : Pair} → TermFits m
      → r ≡ polynomial (to_z w64 (of_z w64 m.obliquity) ∷ to_z w64 (of_z w64 m.obliquity_change) ∷ []) (to_z w64 (of_z w64 at.0))
      → p ≡ pair (term_angle (arguments t) m)
      → Holds (bits r *ʷ bits p.cosine) (obliquity_product t m) (2 ^ 32 * unit)
  unfolding obliquity_product
  obliquity_holds m f e i =
      mul (amplitude m.obliquity m.obliquity_change (omega (arith, f.amplitudes_le)) e)
      (got (ap (λ (p : Pair). p.cosine) i) (pair_sized (term_angle (arguments t) m)).cosine_le tt) tt

-- ---- the needs

pub term_angle-requires-clause-arguments_fit : goal.term_angle-requires-clause-arguments_fit
term_angle-requires-clause-arguments_fit c =
    rw c.requires.a_value (arguments_fit c.args.t (rw c.t.view_is at c.t.invariant))

-- the pair of the term's angle, as `pair` answered it
angle_is : (m : Term) (t : Tt) {a : Arguments} {r : ℤ} → mag r < 2 ^ 63 → r ≡ term_angle a m → a ≡ arguments t
    → to_z w64 (of_z w64 r) ≡ term_angle (arguments t) m
angle_is m t {r = r} l e i = held64 r l ∙ e ∙ ap (λ (a : Arguments). term_angle a m) i

pub overflow_mul-sines : goal.overflow_mul-sines
overflow_mul-sines c =
    let t = c.t in
    let m = c.args.m in
    let angle = angle_is m c.args.t c.term_angle.type_inv c.term_angle.ensures c.requires.a_value in
    let p = rw angle at c.pair-p.ensures in
    mul_ok
    (amplitude c.args.t t.inside.at t.invariant t.view_is m.longitude m.longitude_change
    (omega (arith, c.requires.term_fits.amplitudes_le)) c.linear.ensures)
    (got (ap (λ (p : Pair). p.sine) p) (pair_sized (term_angle (arguments c.args.t) m)).sine_le tt) tt

pub overflow_mul-cosines : goal.overflow_mul-cosines
overflow_mul-cosines c =
    let t = c.t in
    let m = c.args.m in
    let angle = angle_is m c.args.t c.term_angle.type_inv c.term_angle.ensures c.requires.a_value in
    let p = rw angle at c.pair-p.ensures in
    mul_ok
    (amplitude c.args.t t.inside.at t.invariant t.view_is m.obliquity m.obliquity_change
    (omega (arith, c.requires.term_fits.amplitudes_le)) c.linear-2.ensures)
    (got (ap (λ (p : Pair). p.cosine) p) (pair_sized (term_angle (arguments c.args.t) m)).cosine_le tt) tt

pub returns : goal.returns
returns c =
    let t = c.t in
    let m = c.args.m in
    let f = c.requires.term_fits in
    let angle = angle_is m c.args.t c.term_angle.type_inv c.term_angle.ensures c.requires.a_value in
    let p = rw angle at c.pair-p.ensures in
    λ i. record {
      longitude = (longitude_holds c.args.t t.inside.at t.invariant t.view_is m f c.linear.ensures p).value i;
      obliquity = (obliquity_holds c.args.t t.inside.at t.invariant t.view_is m f c.linear-2.ensures p).value i;
    }
