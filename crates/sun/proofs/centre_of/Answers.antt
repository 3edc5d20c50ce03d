-- `sun::centre_of` meets its contract: each product, and the three summed.
use Rattle.std.specs.Prelude.{◌≡◌, ◌*◌, ℤ, pos, ◌*ℤ◌}
use Rattle.std.proofs.Common.{◌∙◌, ap, rules, w64, to_z, of_z}
use Rattle.rules.specs.declared.Tt.{Tt}
use Rattle.rules.specs.Units.{unit}
use Rattle.rules.specs.Circle.{pair}
use Rattle.rules.specs.Polynomials.{polynomial}
use Rattle.rules.specs.Arguments.{sun_row, arguments}
use Rattle.rules.specs.Sun.{first_row, second_row, third_row, centre_product, centre_sum, centre}
use Rattle.laws.specs.Instant.{InRange}
use Rattle.laws.specs.Polynomials.{sizes, polynomial_le}
use Rattle.laws.specs.Angles.{pair_sized}
use Rattle.laws.specs.Sun.{centre_product_one}
use Rattle.words.specs.Holds.{Holds, bits, ◌*ʷ◌, got, lit, add, add_ok, mul, mul_ok}
use Rattle.polynomials.proofs.Held.{instant_held}
use Rattle.sun.proofs.centre_of.Goals as goal

-- ---- what the words hold, at an instant in range

l_holds : (t : Tt) {l : ℤ} → InRange t.0 → l ≡ (arguments t).sun → Holds (bits l) (arguments t).sun (sizes sun_row)
unfolding arguments
l_holds t h e = got e (polynomial_le sun_row t.0 h) tt

double_holds : (t : Tt) {l : ℤ} → InRange t.0 → l ≡ (arguments t).sun
    → Holds (2 *ʷ bits l) (pos 2 *ℤ (arguments t).sun) (2 * sizes sun_row)
double_holds t h e = mul (lit 2 tt) (l_holds t h e) tt

triple_holds : (t : Tt) {l : ℤ} → InRange t.0 → l ≡ (arguments t).sun
    → Holds (3 *ʷ bits l) (pos 3 *ℤ (arguments t).sun) (3 * sizes sun_row)
triple_holds t h e = mul (lit 3 tt) (l_holds t h e) tt

sine_holds : (a : ℤ) {s : ℤ} → s ≡ (pair a).sine → Holds (bits s) (pair a).sine unit
sine_holds a e = got e (pair_sized a).sine_le tt

first_amplitude : (t : Tt) {q : ℤ} → InRange t.0 → q ≡ polynomial first_row t.0
    → Holds (bits q) (polynomial first_row t.0) (sizes first_row)
first_amplitude t h e = got e (polynomial_le first_row t.0 h) tt

second_amplitude : (t : Tt) {q : ℤ} → InRange t.0 → q ≡ polynomial second_row t.0
    → Holds (bits q) (polynomial second_row t.0) (sizes second_row)
second_amplitude t h e = got e (polynomial_le second_row t.0 h) tt

first_holds : (t : Tt) {q s : ℤ} → InRange t.0 → q ≡ polynomial first_row t.0 → s ≡ (pair (arguments t).sun).sine
    → Holds (bits q *ʷ bits s) (centre_product t first_row (pos 1)) (sizes first_row * unit)
first_holds t h e f =
    rw (centre_product_one t first_row) (mul (first_amplitude t h e) (sine_holds (arguments t).sun f) tt)

second_holds : (t : Tt) {q s : ℤ} → InRange t.0 → q ≡ polynomial second_row t.0
    → s ≡ (pair (pos 2 *ℤ (arguments t).sun)).sine
    → Holds (bits q *ʷ bits s) (centre_product t second_row (pos 2)) (sizes second_row * unit)
unfolding centre_product
second_holds t h e f = mul (second_amplitude t h e) (sine_holds (pos 2 *ℤ (arguments t).sun) f) tt

third_holds : (t : Tt) {s : ℤ} → s ≡ (pair (pos 3 *ℤ (arguments t).sun)).sine
    → Holds (1044000 *ʷ bits s) (centre_product t third_row (pos 3)) (sizes third_row * unit)
unfolding centre_product polynomial
third_holds t f = mul (lit 1044000 tt) (sine_holds (pos 3 *ℤ (arguments t).sun) f) tt

-- ---- the needs

pub overflow_mul-first : goal.overflow_mul-first
overflow_mul-first c =
    let t = c.args.t in
    let h = rw c.t.view_is at c.t.invariant in
    let ms = instant_held c.t.inside.at.0 c.t.invariant ∙ ap (λ (t : Tt). t.0) c.t.view_is in
    mul_ok (first_amplitude t h (rw ms at c.quadratic.ensures))
    (sine_holds (arguments t).sun (rw (l_holds t h c.sun_of-l.ensures).value at c.sine.ensures)) tt

pub overflow_mul-l : goal.overflow_mul-l
overflow_mul-l c = mul_ok (lit 2 tt) (l_holds c.args.t (rw c.t.view_is at c.t.invariant) c.sun_of-l.ensures) tt

pub overflow_mul-second : goal.overflow_mul-second
overflow_mul-second c =
    let t = c.args.t in
    let h = rw c.t.view_is at c.t.invariant in
    let ms = instant_held c.t.inside.at.0 c.t.invariant ∙ ap (λ (t : Tt). t.0) c.t.view_is in
    mul_ok (second_amplitude t h (rw ms at c.linear.ensures))
    (sine_holds (pos 2 *ℤ (arguments t).sun) (rw (double_holds t h c.sun_of-l.ensures).value at c.sine-2.ensures)) tt

pub overflow_mul-l-2 : goal.overflow_mul-l-2
overflow_mul-l-2 c = mul_ok (lit 3 tt) (l_holds c.args.t (rw c.t.view_is at c.t.invariant) c.sun_of-l.ensures) tt

pub overflow_mul-third : goal.overflow_mul-third
overflow_mul-third c =
    let t = c.args.t in
    let h = rw c.t.view_is at c.t.invariant in
    mul_ok (lit 1044000 tt)
    (sine_holds (pos 3 *ℤ (arguments t).sun) (rw (triple_holds t h c.sun_of-l.ensures).value at c.sine-third.ensures)) tt

-- the products that are summed: of what each call answered
first_of : (t at : Tt) {l q s : ℤ} → InRange at.0 → at ≡ t → l ≡ (arguments t).sun
    → q ≡ polynomial first_row (to_z w64 (of_z w64 at.0)) → s ≡ (pair (to_z w64 (bits l))).sine
    → Holds (bits q *ʷ bits s) (centre_product t first_row (pos 1)) (sizes first_row * unit)
first_of t at h v e f g =
    let i = rw v at h in
    first_holds t i (rw (instant_held at.0 h ∙ ap (λ (t : Tt). t.0) v) at f) (rw (l_holds t i e).value at g)

second_of : (t at : Tt) {l q s : ℤ} → InRange at.0 → at ≡ t → l ≡ (arguments t).sun
    → q ≡ polynomial second_row (to_z w64 (of_z w64 at.0)) → s ≡ (pair (to_z w64 (2 *ʷ bits l))).sine
    → Holds (bits q *ʷ bits s) (centre_product t second_row (pos 2)) (sizes second_row * unit)
second_of t at h v e f g =
    let i = rw v at h in
    second_holds t i (rw (instant_held at.0 h ∙ ap (λ (t : Tt). t.0) v) at f) (rw (double_holds t i e).value at g)

third_of : (t at : Tt) {l s : ℤ} → InRange at.0 → at ≡ t → l ≡ (arguments t).sun
    → s ≡ (pair (to_z w64 (3 *ʷ bits l))).sine
    → Holds (1044000 *ʷ bits s) (centre_product t third_row (pos 3)) (sizes third_row * unit)
third_of t at h v e g = third_holds t (rw (triple_holds t (rw v at h) e).value at g)

pub overflow_add-first : goal.overflow_add-first
overflow_add-first c =
    let t = c.t in
    add_ok (first_of c.args.t t.inside.at t.invariant t.view_is c.sun_of-l.ensures c.quadratic.ensures c.sine.ensures)
    (second_of c.args.t t.inside.at t.invariant t.view_is c.sun_of-l.ensures c.linear.ensures c.sine-2.ensures) tt

pub overflow_add-first-2 : goal.overflow_add-first-2
overflow_add-first-2 c =
    let t = c.t in
    add_ok
    (add
    (first_of c.args.t t.inside.at t.invariant t.view_is c.sun_of-l.ensures c.quadratic.ensures c.sine.ensures)
    (second_of c.args.t t.inside.at t.invariant t.view_is c.sun_of-l.ensures c.linear.ensures c.sine-2.ensures) tt)
    (third_of c.args.t t.inside.at t.invariant t.view_is c.sun_of-l.ensures c.sine-third.ensures) tt

pub returns : goal.returns
unfolding centre centre_sum
returns c =
    let t = c.t in
    let sum = add
    (add
    (first_of c.args.t t.inside.at t.invariant t.view_is c.sun_of-l.ensures c.quadratic.ensures c.sine.ensures)
    (second_of c.args.t t.inside.at t.invariant t.view_is c.sun_of-l.ensures c.linear.ensures c.sine-2.ensures) tt)
    (third_of c.args.t t.inside.at t.invariant t.view_is c.sun_of-l.ensures c.sine-third.ensures) tt in
    search rules ∙ rw sum.value at c.rnd_quotient.ensures
