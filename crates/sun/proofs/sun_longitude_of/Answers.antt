-- `sun::sun_longitude_of` meets its contract.
use Rattle.std.specs.Prelude.{◌≡◌, ◌+◌, ℤ}
use Rattle.rules.specs.declared.Tt.{Tt}
use Rattle.rules.specs.Sun.{mean_longitude_row, first_row, second_row, third_row, mean_longitude, centre, sun_longitude}
use Rattle.laws.specs.Instant.{InRange}
use Rattle.laws.specs.Polynomials.{sizes, polynomial_le}
use Rattle.laws.specs.Sun.{centre_le}
use Rattle.words.specs.Holds.{Holds, bits, got, add, add_ok}
use Rattle.sun.proofs.sun_longitude_of.Goals as goal

mean_holds : (t : Tt) {r : ℤ} → InRange t.0 → r ≡ mean_longitude t → Holds (bits r) (mean_longitude t) (sizes mean_longitude_row)
unfolding mean_longitude
mean_holds t h e = got e (polynomial_le mean_longitude_row t.0 h) tt

centre_holds : (t : Tt) {r : ℤ} → InRange t.0 → r ≡ centre t
    → Holds (bits r) (centre t) (sizes first_row + sizes second_row + sizes third_row)
centre_holds t h e = got e (centre_le t h) tt

pub overflow_add-result : goal.overflow_add-result
overflow_add-result c =
    let h = rw c.t.view_is at c.t.invariant in
    add_ok (mean_holds c.args.t h c.mean_longitude_of.ensures) (centre_holds c.args.t h c.centre_of.ensures) tt

pub returns : goal.returns
unfolding sun_longitude
returns c =
    let h = rw c.t.view_is at c.t.invariant in
    (add (mean_holds c.args.t h c.mean_longitude_of.ensures) (centre_holds c.args.t h c.centre_of.ensures) tt).value
