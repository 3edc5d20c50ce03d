-- Demand 1 of the angles at an instant, 12: of TT precession, obliquity and the arguments of nutation (`precession`,
-- `arguments`), nutation (`nutation`), the Sun's longitude and the longitude of perihelion (`sun`), of UT the sidereal
-- angle (`sidereal`).
use Rattle.std.specs.Prelude.{◌≡◌, refl, ◌↔◌, [], ◌∷◌, ℤ, pos, Ok, Err}
use Rattle.std.proofs.Common.{ap, ◌∙◌}
use Rattle.rules.specs.declared.Ut.{Ut}
use Rattle.rules.specs.declared.Tt.{Tt}
use Rattle.rules.specs.declared.Refusal.{Refusal}
use Rattle.rules.specs.Checks.{first}
use Rattle.rules.specs.Refusals.{given, refused}
use Rattle.rules.specs.Answers.{angle_answer, precessed_answer, five_arguments_answer, nutated_answer}
use Rattle.rules.specs.Polynomials.{angle_at}
use Rattle.rules.specs.Precession.{precession, precession_at, obliquity, obliquity_at}
use Rattle.rules.specs.Arguments.{arguments, arguments_at}
use Rattle.rules.specs.Nutation.{nutation, nutation_at}
use Rattle.rules.specs.Sun.{sun_longitude, sun_longitude_at, perihelion, perihelion_at}
use Rattle.rules.specs.Sidereal.{sidereal, sidereal_at}
use Rattle.laws.specs.Checks.{FirstGiven}
use Rattle.promises.specs.Demand1.Checks.{instant_checks}
use Rattle.promises.specs.Demand1.InOrder.{first_map, refused_exactly}

-- ---- precession

pub precession_checked : (t : Tt)
    → precession_at t ≡ first (instant_checks t.0) Err (Ok (precession t))
unfolding precession_at first
precession_checked t = refl

pub precession_refused : (t : Tt) (r : Refusal)
    → (precession_at t ≡ Err r) ↔ FirstGiven (instant_checks t.0) r
unfolding precessed_answer given refused
precession_refused t r = rw (precession_checked t)
    (refused_exactly (λ a. pos (precessed_answer a).number) Err _ (λ _. refl) refl
    (instant_checks t.0) r)

pub precession_answer : (t : Tt)
    → precessed_answer (precession_at t)
    ≡ first (instant_checks t.0) (λ r. refused r 3)
    (given ((precession t).zeta ∷ (precession t).z ∷ (precession t).theta ∷ []))
unfolding precessed_answer
precession_answer t =
    ap precessed_answer (precession_checked t) ∙ first_map precessed_answer (instant_checks t.0) Err _

-- ---- the five arguments of nutation

pub arguments_checked : (t : Tt)
    → arguments_at t ≡ first (instant_checks t.0) Err (Ok (arguments t))
unfolding arguments_at first
arguments_checked t = refl

pub arguments_refused : (t : Tt) (r : Refusal)
    → (arguments_at t ≡ Err r) ↔ FirstGiven (instant_checks t.0) r
unfolding five_arguments_answer given refused
arguments_refused t r = rw (arguments_checked t)
    (refused_exactly (λ a. pos (five_arguments_answer a).number) Err _ (λ _. refl) refl
    (instant_checks t.0) r)

pub arguments_answer : (t : Tt)
    → five_arguments_answer (arguments_at t)
    ≡ first (instant_checks t.0) (λ r. refused r 5)
    (given ((arguments t).moon ∷ (arguments t).sun ∷ (arguments t).latitude ∷ (arguments t).elongation ∷ (arguments t).node
    ∷ []))
unfolding five_arguments_answer
arguments_answer t =
    ap five_arguments_answer (arguments_checked t)
    ∙ first_map five_arguments_answer (instant_checks t.0) Err _

-- ---- nutation

pub nutation_checked : (t : Tt)
    → nutation_at t ≡ first (instant_checks t.0) Err (Ok (nutation t))
unfolding nutation_at first
nutation_checked t = refl

pub nutation_refused : (t : Tt) (r : Refusal)
    → (nutation_at t ≡ Err r) ↔ FirstGiven (instant_checks t.0) r
unfolding nutated_answer given refused
nutation_refused t r = rw (nutation_checked t)
    (refused_exactly (λ a. pos (nutated_answer a).number) Err _ (λ _. refl) refl (instant_checks t.0) r)

pub nutation_answer : (t : Tt)
    → nutated_answer (nutation_at t)
    ≡ first (instant_checks t.0) (λ r. refused r 2) (given ((nutation t).longitude ∷ (nutation t).obliquity ∷ []))
unfolding nutated_answer
nutation_answer t =
    ap nutated_answer (nutation_checked t) ∙ first_map nutated_answer (instant_checks t.0) Err _

-- ---- single angles

angle_checked : (t a : ℤ) → angle_at t a ≡ first (instant_checks t) Err (Ok a)
unfolding angle_at first
angle_checked t a = refl

angle_refused : (t a : ℤ) (r : Refusal) → (angle_at t a ≡ Err r) ↔ FirstGiven (instant_checks t) r
unfolding angle_answer given refused
angle_refused t a r = rw (angle_checked t a)
    (refused_exactly (λ b. pos (angle_answer b).number) Err _ (λ _. refl) refl (instant_checks t) r)

angle_answer_lem : (t a : ℤ) → angle_answer (angle_at t a) ≡ first (instant_checks t) (λ r. refused r 1) (given (a ∷ []))
unfolding angle_answer
angle_answer_lem t a = ap angle_answer (angle_checked t a) ∙ first_map angle_answer (instant_checks t) Err _

pub obliquity_checked : (t : Tt)
    → obliquity_at t ≡ first (instant_checks t.0) Err (Ok (obliquity t))
unfolding obliquity_at
obliquity_checked t = angle_checked t.0 (obliquity t)

pub obliquity_refused : (t : Tt) (r : Refusal)
    → (obliquity_at t ≡ Err r) ↔ FirstGiven (instant_checks t.0) r
unfolding obliquity_at
obliquity_refused t r = angle_refused t.0 (obliquity t) r

pub obliquity_answer : (t : Tt)
    → angle_answer (obliquity_at t) ≡ first (instant_checks t.0) (λ r. refused r 1) (given (obliquity t ∷ []))
unfolding obliquity_at
obliquity_answer t = angle_answer_lem t.0 (obliquity t)

pub sun_checked : (t : Tt)
    → sun_longitude_at t ≡ first (instant_checks t.0) Err (Ok (sun_longitude t))
unfolding sun_longitude_at
sun_checked t = angle_checked t.0 (sun_longitude t)

pub sun_refused : (t : Tt) (r : Refusal)
    → (sun_longitude_at t ≡ Err r) ↔ FirstGiven (instant_checks t.0) r
unfolding sun_longitude_at
sun_refused t r = angle_refused t.0 (sun_longitude t) r

pub sun_answer : (t : Tt)
    → angle_answer (sun_longitude_at t) ≡ first (instant_checks t.0) (λ r. refused r 1) (given (sun_longitude t ∷ []))
unfolding sun_longitude_at
sun_answer t = angle_answer_lem t.0 (sun_longitude t)

pub perihelion_checked : (t : Tt)
    → perihelion_at t ≡ first (instant_checks t.0) Err (Ok (perihelion t))
unfolding perihelion_at
perihelion_checked t = angle_checked t.0 (perihelion t)

pub perihelion_refused : (t : Tt) (r : Refusal)
    → (perihelion_at t ≡ Err r) ↔ FirstGiven (instant_checks t.0) r
unfolding perihelion_at
perihelion_refused t r = angle_refused t.0 (perihelion t) r

pub perihelion_answer : (t : Tt)
    → angle_answer (perihelion_at t) ≡ first (instant_checks t.0) (λ r. refused r 1) (given (perihelion t ∷ []))
unfolding perihelion_at
perihelion_answer t = angle_answer_lem t.0 (perihelion t)

pub sidereal_checked : (t : Ut)
    → sidereal_at t ≡ first (instant_checks t.0) Err (Ok (sidereal t))
unfolding sidereal_at
sidereal_checked t = angle_checked t.0 (sidereal t)

pub sidereal_refused : (t : Ut) (r : Refusal)
    → (sidereal_at t ≡ Err r) ↔ FirstGiven (instant_checks t.0) r
unfolding sidereal_at
sidereal_refused t r = angle_refused t.0 (sidereal t) r

pub sidereal_answer : (t : Ut)
    → angle_answer (sidereal_at t) ≡ first (instant_checks t.0) (λ r. refused r 1) (given (sidereal t ∷ []))
unfolding sidereal_at
sidereal_answer t = angle_answer_lem t.0 (sidereal t)
