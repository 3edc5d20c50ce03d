-- `refraction::standard_lift` meets its contract: the sine of g is above nought, and the product fits.
use Rattle.std.specs.Prelude.{◌≡◌, refl, true, ◌*◌, ◌<◌, ◌^◌, zero, suc, ℤ, pos, negsuc, ◌*ℤ◌, FitsSigned}
use Rattle.std.proofs.Common.{ap, ◌∙◌, arith, lit<, to_z-of_z, w64, to_z}
use Rattle.std.specs.Int.{int_max}
use Rattle.std.specs.Int.Signed.{mag}
use Rattle.std.proofs.lemmas.Bool.{lt-ltb, le-ltb}
use Rattle.rules.specs.declared.Pair.{Pair}
use Rattle.rules.specs.Units.{unit}
use Rattle.rules.specs.Circle.{pair}
use Rattle.rules.specs.Refraction.{is_lifted, argument, not_below_nought, lift_of, standard_lift}
use Rattle.words.specs.Fits.{held64}
use Rattle.words.specs.Holds.{Holds, bits, ◌*ʷ◌, got, lit, mul, mul_ok}
use Rattle.laws.specs.RefractionArgument.{above_nought}
use Rattle.laws.specs.Refraction.{Liftable, argument_liftable}
use Rattle.refraction.proofs.standard_lift.Goals as goal

max_is : (z : ℤ) → int_max z (pos 0) ≡ not_below_nought z
unfolding not_below_nought
max_is (pos zero) = refl
max_is (pos (suc n)) = rw (lt-ltb 0 (suc n) (omega arith), le-ltb (suc n) 0 (omega arith))
max_is (negsuc n) = refl

-- ---- what the words hold

module _ (h : ℤ) (lifted : is_lifted h ≡ true) {p : Pair} (p_is : p ≡ pair (argument h)) where
  l : Liftable (pair (argument h))
  l = argument_liftable h lifted

  cosine_holds : Holds (bits p.cosine) (pair (argument h)).cosine unit
  cosine_holds = got (ap (λ (p : Pair). p.cosine) p_is) l.cosine_le tt

  sine_holds : Holds (bits p.sine) (pair (argument h)).sine unit
  sine_holds = got (ap (λ (p : Pair). p.sine) p_is) l.sine.at_most tt

  dividend_holds : Holds (61200000 *ʷ bits p.cosine) (pos 61200000 *ℤ (pair (argument h)).cosine) (61200000 * unit)
  dividend_holds = mul (lit 61200000 tt) cosine_holds tt

  dividend_fits : FitsSigned w64 (pos 61200000 *ℤ to_z w64 (bits p.cosine))
  dividend_fits = mul_ok (lit 61200000 tt) cosine_holds tt

-- the pair of g, as `pair` answered it
pair_is : (h : ℤ) {g : ℤ} {p : Pair} → g ≡ argument h → mag g < 2 ^ 63 → p ≡ pair (to_z w64 (bits g)) → p ≡ pair (argument h)
pair_is h {g} e f i = rw (held64 g f ∙ e) at i

-- ---- the needs

pub overflow_mul-p : goal.overflow_mul-p
overflow_mul-p c =
    let h = to_z-of_z c.ranges.h in
    dividend_fits c.args.h c.requires
    (pair_is c.args.h (rw h at c.argument.ensures) c.argument.type_inv c.pair-p.ensures)

pub rnd_quotient-requires : goal.rnd_quotient-requires
rnd_quotient-requires c =
    let p = pair_is c.args.h (rw (to_z-of_z c.ranges.h) at c.argument.ensures) c.argument.type_inv c.pair-p.ensures in
    let s = sine_holds c.args.h c.requires p in
    rw s.value (record {
      pos_bound = above_nought (pair (argument c.args.h)).sine 20000000 unit (lit< tt) (argument_liftable c.args.h c.requires).sine;
      b_bound = omega (arith, s.size);
    })

pub returns : goal.returns
unfolding standard_lift lift_of
returns c =
    let p = pair_is c.args.h (rw (to_z-of_z c.ranges.h) at c.argument.ensures) c.argument.type_inv c.pair-p.ensures in
    let q = c.rnd_quotient in
    held64 c.max.result c.max.type_inv
    ∙ rw (held64 q.result q.type_inv
    ∙ rw ((dividend_holds c.args.h c.requires p).value, (sine_holds c.args.h c.requires p).value) at q.ensures)
    at c.max.ensures.value
    ∙ max_is _
