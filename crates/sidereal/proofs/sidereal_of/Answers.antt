-- `sidereal::sidereal_of` meets its contract.
use Rattle.std.specs.Prelude.{◌≡◌, ◌*◌, ℤ, pos, ◌*ℤ◌}
use Rattle.std.proofs.Common.{ap, sym, ◌∙◌, arith, rules, lit<}
use Rattle.rules.specs.declared.Ut.{Ut}
use Rattle.rules.specs.Units.{day}
use Rattle.rules.specs.Rounding.{modulo}
use Rattle.rules.specs.Sidereal.{sidereal_row, sidereal_polynomial, sidereal}
use Rattle.laws.specs.Instant.{InRange}
use Rattle.laws.specs.Modulo.{modulo_lt}
use Rattle.laws.specs.Polynomials.{sizes, polynomial_le}
use Rattle.words.specs.Holds.{Holds, bits, ◌*ʷ◌, got, lit, add, add_ok, mul, mul_ok}
use Rattle.polynomials.proofs.Held.{instant_held}
use Rattle.sidereal.proofs.sidereal_of.Goals as goal

mean_holds : (t : Ut) {r : ℤ} → InRange t.0 → r ≡ sidereal_polynomial t → Holds (bits r) (sidereal_polynomial t) (sizes sidereal_row)
unfolding sidereal_polynomial
mean_holds t h e = got e (polynomial_le sidereal_row t.0 h) tt

time_holds : (t : Ut) {r : ℤ} → r ≡ pos (modulo t.0 day) → Holds (bits r) (pos (modulo t.0 day)) day
time_holds t e = got e (omega (arith, modulo_lt t.0 day (lit< tt))) tt

turned_holds : (t : Ut) {r : ℤ} → r ≡ pos (modulo t.0 day)
    → Holds (15000 *ʷ bits r) (pos 15000 *ℤ pos (modulo t.0 day)) (15000 * day)
turned_holds t e = mul (lit 15000 tt) (time_holds t e) tt

pub overflow_mul-modulo_of : goal.overflow_mul-modulo_of
overflow_mul-modulo_of c =
    mul_ok (lit 15000 tt)
    (time_holds c.t.inside.at (rw (instant_held c.t.inside.at.0 c.t.invariant) at c.modulo_of.ensures)) tt

pub overflow_add-sidereal_polynomial_of : goal.overflow_add-sidereal_polynomial_of
overflow_add-sidereal_polynomial_of c =
    add_ok (mean_holds c.t.inside.at c.t.invariant (c.sidereal_polynomial_of.ensures ∙ ap sidereal_polynomial (sym c.t.view_is)))
    (turned_holds c.t.inside.at (rw (instant_held c.t.inside.at.0 c.t.invariant) at c.modulo_of.ensures)) tt

pub returns : goal.returns
unfolding sidereal
returns c =
    search rules
    ∙ rw (add (mean_holds c.t.inside.at c.t.invariant (c.sidereal_polynomial_of.ensures ∙ ap sidereal_polynomial (sym c.t.view_is)))
    (turned_holds c.t.inside.at (rw (instant_held c.t.inside.at.0 c.t.invariant) at c.modulo_of.ensures)) tt).value
    at c.on_circle.ensures
    ∙ ap sidereal c.t.view_is
