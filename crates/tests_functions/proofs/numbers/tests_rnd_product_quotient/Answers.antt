-- `tests_functions::numbers::tests_rnd_product_quotient` meets its contract.
use Rattle.std.proofs.Common.{rules, ◌≡◌, refl, sym, ◌∙◌, subst, Bool, true, false, ℕ, ℤ, pos, nat_abs, ◌+◌, ◌*◌, ◌/◌, ◌≤◌, ◌<◌, ◌^◌, ◌&&◌, ◌*ℤ◌, arith}
use native.Mathlib.Nat.{mul-le-mul_left, mul-le-mul_right, lt-div-mul-add, div-mul-le_self}
use lib.Dec.{T}
use mir.Facts.{to_z-of_z, and_yes}
use Rattle.std.specs.Option.{IfSome}
use Rattle.integers.specs.Quotient.{size_pos}
use Rattle.rules.specs.Units.{+◌, between, within}
use Rattle.rules.specs.Rounding.{rnd}
use Rattle.laws.specs.Units.{positive, positive_le, within_le}
use Rattle.laws.specs.Product.{ProductFits}
use Rattle.tests_functions.specs.Numbers.{product_tried, rnd_product_quotient_tried}
use Rattle.tests_functions.proofs.OneNumber.{tried_is}
use Rattle.tests_functions.proofs.numbers.tests_rnd_product_quotient.Goals as goal

-- ---- what the test says

quotient_le : (a b d : ℕ) → 0 < d → b ≤ 2 ^ 61 / (a / d + 1) → a * b ≤ d * 2 ^ 61
quotient_le a b d h k =
    let g : a ≤ (a / d + 1) * d = omega (arith, lt-div-mul-add {a = a} {b = d} h) in
    let e : b * (a / d + 1) ≤ 2 ^ 61 =
    omega (arith, mul-le-mul_right (a / d + 1) k, div-mul-le_self (2 ^ 61) (a / d + 1)) in
    omega (arith, mul-le-mul_right b g, mul-le-mul_left d e)

true_of : (b : Bool) → T b → b ≡ true
true_of true t = refl
true_of false t = absurd t

fits : (a b d : ℤ) → product_tried a b d ≡ true → ProductFits a b d
unfolding product_tried
fits a b d e =
    let most = 2 ^ 61 / (nat_abs a / nat_abs d + 1) in
    let k0 = and_yes (between (+ 1) (pos (2 ^ 42)) d && within (2 ^ 42) a && within (2 ^ 60) b) (within most b)
    (subst T (sym e) tt) in
    let k1 = and_yes (between (+ 1) (pos (2 ^ 42)) d && within (2 ^ 42) a) (within (2 ^ 60) b) k0.0 in
    let k2 = and_yes (between (+ 1) (pos (2 ^ 42)) d) (within (2 ^ 42) a) k1.0 in
    let d_in = true_of (between (+ 1) (pos (2 ^ 42)) d) k2.0 in
    record {
      divisor_pos = positive (2 ^ 42) d d_in;
      divisor_le = positive_le (2 ^ 42) d d_in;
      a_le = within_le (2 ^ 42) a (true_of (within (2 ^ 42) a) k2.1);
      b_le = within_le (2 ^ 60) b (true_of (within (2 ^ 60) b) k1.1);
      quotient_le =
          quotient_le (nat_abs a) (nat_abs b) (nat_abs d) (size_pos d (positive (2 ^ 42) d d_in))
          (within_le most b (true_of (within most b) k0.1));
    }

-- ---- the needs

pub then-requires : goal.then-requires
then-requires c = λ yes _ _ _ _ _ _ _.
    let a = c.args.a in
    let b = c.args.b in
    let d = c.args.d in
    let met : product_tried a b d ≡ true =
    sym (rw (to_z-of_z c.ranges.a, to_z-of_z c.ranges.b, to_z-of_z c.ranges.d) at c.product_fits-is_met.ensures) ∙ yes in
    rw (to_z-of_z c.ranges.a, to_z-of_z c.ranges.a, to_z-of_z c.ranges.b, to_z-of_z c.ranges.b, to_z-of_z c.ranges.d, to_z-of_z c.ranges.d)
    (fits a b d met)

pub returns : goal.returns
unfolding rnd_product_quotient_tried
returns c =
    let given : IfSome c.then.result (λ x. x ≡ rnd (c.args.a *ℤ c.args.b) (nat_abs c.args.d)) = search (rules, c.then.ensures.some) in
    c.into.ensures
    ∙ tried_is c.then.result _ _ (c.then.ensures.variant ∙ rw (to_z-of_z c.ranges.a, to_z-of_z c.ranges.b, to_z-of_z c.ranges.d) at c.product_fits-is_met.ensures) given
