-- Refusal 12: every angle of an instant is refused exactly when the instant is outside −Q to Q, and else given.
use Rattle.std.specs.Prelude.{◌≡◌, refl, ◌↔◌, Bool, true, false, not, cond, ℕ, ◌≤◌, ◌<◌, T, ℤ, nat_abs, Result, Ok, Err}
use Rattle.std.proofs.Common.{sym, ap, subst, ◌∙◌, lt_of_not-le, arith}
use Rattle.std.proofs.Math.Decide.{dec_lt}
use Rattle.std.proofs.lemmas.Bool.{not-false}
use Rattle.rules.specs.declared.Tt.{Tt}
use Rattle.rules.specs.declared.Ut.{Ut}
use Rattle.rules.specs.declared.Refusal.{Refusal}
use Rattle.rules.specs.Units.{century, within}
use Rattle.rules.specs.Polynomials.{instant_refused, angle_at}
use Rattle.rules.specs.Precession.{precession, precession_at, obliquity, obliquity_at}
use Rattle.rules.specs.Arguments.{arguments, arguments_at}
use Rattle.rules.specs.Nutation.{nutation, nutation_at}
use Rattle.rules.specs.Sun.{sun_longitude, sun_longitude_at, perihelion, perihelion_at}
use Rattle.rules.specs.Sidereal.{sidereal, sidereal_at}
use Rattle.laws.specs.Units.{within_le, within_of}
use Rattle.rules.specs.declared.Precession.{Precession}
use Rattle.rules.specs.declared.Arguments.{Arguments}
use Rattle.rules.specs.declared.Nutation.{Nutation}

-- an instant from −Q to Q
abbrev pub InRange : ℤ → Type 0
InRange t = nat_abs t ≤ century

-- ---- the test

pub in_range_lem : (t : ℤ) → instant_refused t ≡ false → InRange t
unfolding instant_refused
in_range_lem t e = within_le century t (not-false (within century t) e)

pub accepted_of_in_range : (t : ℤ) → InRange t → instant_refused t ≡ false
unfolding instant_refused
accepted_of_in_range t h = ap not (within_of century t h)

pub refused_of_out_of_range : (t : ℤ) → century < nat_abs t → instant_refused t ≡ true
refused_of_out_of_range t h = by (instant_refused t) (in_range_lem t)
  where
    by : (b : Bool) → (b ≡ false → InRange t) → b ≡ true
    by true f = refl
    by false f = absurd (omega (arith, f refl))

pub out_of_range : (t : ℤ) → instant_refused t ≡ true → century < nat_abs t
out_of_range t e = by (dec_lt century (nat_abs t))
  where
    by : Dec (century < nat_abs t) → century < nat_abs t
    by (yes h) = h
    by (no h) = absurd (subst T (sym e ∙ accepted_of_in_range t (omega (arith, lt_of_not-le h))) tt)

-- ---- the answers

-- refused exactly when t is outside −Q to Q, given exactly when it is not
pub record RefusedOutside (A : Type 0) (t : ℤ) (answer refused given : A) : Type 0 where
  pub outside : (answer ≡ refused) ↔ (century < nat_abs t)
  pub inside : (answer ≡ given) ↔ InRange t

refused_outside : (A : Type 0) (t : ℤ) (refused given : A) → (refused ≡ given → ⊥)
    → RefusedOutside A t (cond (instant_refused t) refused given) refused given
refused_outside A t refused given apart = by (instant_refused t) refl
  where
    by : (b : Bool) → instant_refused t ≡ b → RefusedOutside A t (cond b refused given) refused given
    by true e = record {
      outside = (λ _. out_of_range t e, λ _. refl);
      inside = (λ w. absurd (apart w), λ h. absurd (omega (arith, out_of_range t e)));
    }
    by false e = record {
      outside = (λ w. absurd (apart (sym w)), λ h. absurd (omega (arith, in_range_lem t e)));
      inside = (λ _. in_range_lem t e, λ _. refl);
    }

pub record EachRefusedOutside (t : Tt) (u : Ut) : Type 0 where
  pub precession : RefusedOutside (Result Precession Refusal) t.0 (precession_at t) (Err Refusal.Instant)
      (Ok (precession t))
  pub obliquity : RefusedOutside (Result ℤ Refusal) t.0 (obliquity_at t) (Err Refusal.Instant) (Ok (obliquity t))
  pub arguments : RefusedOutside (Result Arguments Refusal) t.0 (arguments_at t) (Err Refusal.Instant)
      (Ok (arguments t))
  pub nutation : RefusedOutside (Result Nutation Refusal) t.0 (nutation_at t) (Err Refusal.Instant)
      (Ok (nutation t))
  pub sun : RefusedOutside (Result ℤ Refusal) t.0 (sun_longitude_at t) (Err Refusal.Instant) (Ok (sun_longitude t))
  pub perihelion : RefusedOutside (Result ℤ Refusal) t.0 (perihelion_at t) (Err Refusal.Instant)
      (Ok (perihelion t))
  pub sidereal : RefusedOutside (Result ℤ Refusal) u.0 (sidereal_at u) (Err Refusal.Instant) (Ok (sidereal u))

never : (r : Refusal) (a : ℤ) → Err r ≡ Ok a → ⊥
never r a e = let z : ◌≡◌ {A = ℕ} 0 1 = cc in omega arith

pub each_refused_outside : (t : Tt) (u : Ut) → EachRefusedOutside t u
unfolding precession_at obliquity_at arguments_at nutation_at sun_longitude_at perihelion_at sidereal_at angle_at
each_refused_outside t u = record {
  precession = refused_outside (Result Precession Refusal) t.0 (Err Refusal.Instant) (Ok (precession t))
      (λ e. let z : ◌≡◌ {A = ℕ} 0 1 = cc in omega arith);
  obliquity = refused_outside (Result ℤ Refusal) t.0 (Err Refusal.Instant) (Ok (obliquity t))
      (never Refusal.Instant (obliquity t));
  arguments = refused_outside (Result Arguments Refusal) t.0 (Err Refusal.Instant)
      (Ok (arguments t))
      (λ e. let z : ◌≡◌ {A = ℕ} 0 1 = cc in omega arith);
  nutation = refused_outside (Result Nutation Refusal) t.0 (Err Refusal.Instant) (Ok (nutation t))
      (λ e. let z : ◌≡◌ {A = ℕ} 0 1 = cc in omega arith);
  sun = refused_outside (Result ℤ Refusal) t.0 (Err Refusal.Instant) (Ok (sun_longitude t))
      (never Refusal.Instant (sun_longitude t));
  perihelion = refused_outside (Result ℤ Refusal) t.0 (Err Refusal.Instant) (Ok (perihelion t))
      (never Refusal.Instant (perihelion t));
  sidereal = refused_outside (Result ℤ Refusal) u.0 (Err Refusal.Instant) (Ok (sidereal u))
      (never Refusal.Instant (sidereal u));
}
