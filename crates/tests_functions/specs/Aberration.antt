-- What the tests' export of aberration answers: the paper's number and values. Definitions only.
use Rattle.std.specs.Prelude.{cond, [], ◌∷◌, get_or, pos}
use Rattle.rules.specs.declared.Tt.{Tt}
use Rattle.rules.specs.declared.Refusal.{Refusal}
use Rattle.rules.specs.Refusals.{Answer, given, refused}
use Rattle.rules.specs.Polynomials.{instant_refused}
use Rattle.rules.specs.Circle.{pair}
use Rattle.rules.specs.Precession.{obliquity}
use Rattle.rules.specs.Sun.{sun_longitude, perihelion}
use Rattle.rules.specs.Night.{aberration_x, aberration_y, aberration}
use Rattle.tests_functions.specs.declared.aberration.TestsAberration.{TestsAberration}

-- bx and by of the pairs of S and ϖ, then what is added, of the pairs of S, ϖ and ε
unfoldable pub aberration_given : Tt → Answer
aberration_given t =
    let s = pair (sun_longitude t) in
    let p = pair (perihelion t) in
    let added = aberration s p (pair (obliquity t)) in
    given (aberration_x s p ∷ aberration_y s p ∷ added.x ∷ added.y ∷ added.z ∷ [])

-- or refusal 12
unfoldable pub aberration_at : Tt → Answer
aberration_at t = cond (instant_refused t.0) (refused Refusal.Instant 5) (aberration_given t)

-- the number, and the values in their order
unfoldable pub tests_aberration : Answer → TestsAberration
tests_aberration a = record {
  refused = pos a.number;
  bx = get_or a.values 0 (pos 0);
  by = get_or a.values 1 (pos 0);
  x = get_or a.values 2 (pos 0);
  y = get_or a.values 3 (pos 0);
  z = get_or a.values 4 (pos 0);
}
