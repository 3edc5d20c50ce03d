-- Where a place has no right ascension or no azimuth (02, C-12), which mark the night list gives, and that its entry
-- tells which angle is missing.
use Rattle.std.specs.Prelude.{◌≡◌, refl, Bool, cond, ◌⊎◌, ◌↔◌, ◌<◌, eqb, ℤ, pos, neg_ℤ, nat_abs, Option, Some, None}
use Rattle.std.proofs.Common.{sym, ap, ◌∙◌, inl, inr, ⊎_elim, arith, eq-eqb, ne_eqb}
use Rattle.std.proofs.Math.Bool.{true, false}
use Rattle.std.proofs.Math.IntN.{neg_ℤ-neg_ℤ}
use Rattle.rules.specs.declared.Direction.{Direction}
use Rattle.rules.specs.declared.Star.{Star}
use Rattle.rules.specs.declared.Place.{Place}
use Rattle.rules.specs.declared.Angles.{Angles}
use Rattle.rules.specs.declared.Entry.{Entry}
use Rattle.rules.specs.declared.Night.{Night}
use Rattle.rules.specs.Units.{quarter}
use Rattle.rules.specs.Answers.{has_angle, or_nought}
use Rattle.rules.specs.Stars.{star_refused}
use Rattle.rules.specs.Place.{apparent, overhead, readings, place_in}
use Rattle.rules.specs.NightList.{mark_of, entry_of, worked}
use Rattle.laws.specs.NoAngle.{some_is_not_none, no_angle_iff}

-- (0, 0, ±z)
abbrev pub OnAxis : Direction → Type 0
OnAxis v = (v.x ≡ pos 0) × (v.y ≡ pos 0)

opposite_nought : (z : ℤ) → neg_ℤ z ≡ pos 0 ↔ z ≡ pos 0
opposite_nought z = (λ e. sym (neg_ℤ-neg_ℤ z) ∙ ap neg_ℤ e, λ e. ap neg_ℤ e)

-- ---- a place

pub no_ra_iff : (n : Night) (s : Star) → (place_in n s).ra ≡ None ↔ OnAxis (apparent n s)
unfolding place_in readings
no_ra_iff n s = no_angle_iff (apparent n s).x (apparent n s).y

pub no_azimuth_iff : (n : Night) (s : Star) → (place_in n s).azimuth ≡ None ↔ OnAxis (overhead n (apparent n s))
unfolding place_in readings
no_azimuth_iff n s =
    let w = overhead n (apparent n s) in
    let i = no_angle_iff (neg_ℤ w.x) w.y in
    let o = opposite_nought w.x in (
      λ e. let k = i.0 e in (o.0 k.0, k.1),
      λ k. i.1 (o.1 k.0, k.1),
    )

-- ---- an entry tells which angle is missing

-- an angle of an entry, by the height beside it
unfoldable pub read_beside : ℤ → ℤ → Option ℤ
read_beside height a = cond (eqb (nat_abs height) quarter) None (Some a)

unfoldable pub place_of : Angles → Place
place_of a = record {
  ra = read_beside a.declination a.ra;
  declination = a.declination;
  azimuth = read_beside a.altitude a.azimuth;
  altitude = a.altitude;
}

pub read_beside_lem : (r : Option ℤ) (height : ℤ) → r ≡ None ↔ nat_abs height ≡ quarter → read_beside height (or_nought r) ≡ r
unfolding or_nought read_beside
read_beside_lem (Some a) height i =
    rw (ne_eqb (nat_abs height) quarter (λ e. some_is_not_none a (i.1 e)))
read_beside_lem None height i = rw (eq-eqb (nat_abs height) quarter (i.0 refl))

-- ---- marks

-- one of the two or both have no angle
abbrev pub LacksOne : Place → Type 0
LacksOne p = (p.ra ≡ None) ⊎ (p.azimuth ≡ None)

lacks_iff : (ra azimuth : Option ℤ) → mark_of ra azimuth ≡ 1 ↔ (ra ≡ None) ⊎ (azimuth ≡ None)
unfolding has_angle mark_of
lacks_iff (Some a) (Some b) =
    (λ e. absurd (omega (arith, e)), λ k. ⊎_elim (λ e. some_is_not_none a e) (λ e. some_is_not_none b e) k)
lacks_iff (Some a) None = (λ e. inr refl, λ k. refl)
lacks_iff None z = (λ e. inl refl, λ k. refl)

zero_or_one : (ra azimuth : Option ℤ) → (mark_of ra azimuth ≡ 0) ⊎ (mark_of ra azimuth ≡ 1)
unfolding has_angle mark_of
zero_or_one (Some a) (Some b) = inl refl
zero_or_one (Some a) None = inr refl
zero_or_one None z = inr refl

pub mark_below_2 : (ra azimuth : Option ℤ) → mark_of ra azimuth < 2
mark_below_2 ra azimuth = ⊎_elim (λ z. omega (arith, z)) (λ z. omega (arith, z)) (zero_or_one ra azimuth)

module _ (n : Night) (e : Entry) where
  abbrev star : Star
  star = e.star

  abbrev p : Place
  p = place_in n star

  mark_either : (b : Bool) → star_refused star ≡ b → (worked n e).mark ≡ cond b 5 (mark_of p.ra p.azimuth)
  unfolding worked entry_of
  mark_either true k = rw k
  mark_either false k = rw k

  pub mark_5_iff : (worked n e).mark ≡ 5 ↔ star_refused star ≡ true
  mark_5_iff = (only (star_refused star) refl, λ k. mark_either true k)
    where
      only : (b : Bool) → star_refused star ≡ b → (worked n e).mark ≡ 5 → star_refused star ≡ true
      only true k m = k
      only false k m = absurd (⊎_elim
          (λ z. omega (arith, z, m, mark_either false k))
          (λ z. omega (arith, z, m, mark_either false k))
          (zero_or_one p.ra p.azimuth))

  pub mark_1_iff : (worked n e).mark ≡ 1 ↔ (star_refused star ≡ false) × LacksOne p
  mark_1_iff = (
    only (star_refused star) refl,
    λ k. mark_either false k.0 ∙ (lacks_iff p.ra p.azimuth).1 k.1,
  )
    where
      only : (b : Bool) → star_refused star ≡ b → (worked n e).mark ≡ 1 → (star_refused star ≡ false) × LacksOne p
      only true k m = absurd (omega (arith, m, mark_either true k))
      only false k m = (k, (lacks_iff p.ra p.azimuth).0 (sym (mark_either false k) ∙ m))

  -- and in every other case 0
  pub mark_0_iff : (worked n e).mark ≡ 0 ↔ (star_refused star ≡ false) × ¬ (LacksOne p)
  mark_0_iff = (
    only (star_refused star) refl,
    λ k. mark_either false k.0
        ∙ ⊎_elim (λ z. z) (λ z. absurd (k.1 ((lacks_iff p.ra p.azimuth).0 z))) (zero_or_one p.ra p.azimuth),
  )
    where
      only : (b : Bool) → star_refused star ≡ b → (worked n e).mark ≡ 0 → (star_refused star ≡ false) × ¬ (LacksOne p)
      only true k m = absurd (omega (arith, m, mark_either true k))
      only false k m = (
        k,
        λ l. omega (arith, (lacks_iff p.ra p.azimuth).1 l, m, mark_either false k),
      )
