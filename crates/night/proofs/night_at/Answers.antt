-- `night::night_at` meets its contract: each call's result is the rule's, and what it is given fits.
use Rattle.std.specs.Prelude.{◌≡◌, ◌^◌, false, ℤ, neg_ℤ}
use Rattle.std.proofs.Common.{sym, ap, ◌∙◌, arith, rules, w64, to_z, of_z}
use Rattle.rules.specs.declared.Direction.{Direction}
use Rattle.rules.specs.declared.Pair.{Pair}
use Rattle.rules.specs.declared.Tt.{Tt}
use Rattle.rules.specs.declared.Site.{Site}
use Rattle.rules.specs.declared.Nutation.{Nutation}
use Rattle.rules.specs.declared.Precession.{Precession}
use Rattle.rules.specs.Units.{half, quarter, unit}
use Rattle.rules.specs.Length.{pair_squares}
use Rattle.rules.specs.Circle.{pair}
use Rattle.rules.specs.Turning.{Accepted}
use Rattle.rules.specs.Precession.{obliquity}
use Rattle.rules.specs.Nutation.{nutation}
use Rattle.rules.specs.Night.{site_refused, local_sidereal, aberration, night}
use Rattle.laws.specs.Instant.{InRange}
use Rattle.laws.specs.Angles.{Sized, pair_sized, pair_length, pair_opposite}
use Rattle.laws.specs.Directions.{PartsLe}
use Rattle.laws.specs.Aberration.{most_added}
use Rattle.laws.specs.Nutation.{ten_terms}
use Rattle.laws.specs.Night.{site_ranges, obliquity_le}
use Rattle.laws.proofs.Night.{aberration_le}
use Rattle.words.specs.Fits.{held64}
use Rattle.words.specs.Holds.{Holds, bits, arg, got, add, add_ok}
use Rattle.night_pairs.specs.Parts.{opposite}
use Rattle.night.proofs.night_at.Goals as goal

-- ---- what the words hold

epsilon_holds : (t : Tt) {e : ℤ} → InRange t.0 → e ≡ obliquity t → Holds (bits e) (obliquity t) (2 ^ 40)
epsilon_holds t h i = got i (obliquity_le t h) tt

delta_psi_holds : (t : Tt) {n : Nutation} → InRange t.0 → n ≡ nutation t
    → Holds (bits n.longitude) (nutation t).longitude (2 ^ 31)
delta_psi_holds t h i = got (ap (λ (n : Nutation). n.longitude) i) (omega (arith, (ten_terms t h).longitude_le)) tt

delta_epsilon_holds : (t : Tt) {n : Nutation} → InRange t.0 → n ≡ nutation t
    → Holds (bits n.obliquity) (nutation t).obliquity (2 ^ 31)
delta_epsilon_holds t h i = got (ap (λ (n : Nutation). n.obliquity) i) (omega (arith, (ten_terms t h).obliquity_le)) tt

cosine_holds : (a : ℤ) {p : Pair} → p ≡ pair a → Holds (bits p.cosine) (pair a).cosine unit
cosine_holds a i = got (ap (λ (p : Pair). p.cosine) i) (pair_sized a).cosine_le tt

longitude_holds : (s : Site) → site_refused s ≡ false → Holds (bits s.longitude) s.longitude half
longitude_holds s h = arg s.longitude (site_ranges s h).longitude_le tt

latitude_holds : (s : Site) → site_refused s ≡ false → Holds (bits s.latitude) s.latitude quarter
latitude_holds s h = arg s.latitude (site_ranges s h).latitude_le tt

-- the pair of ε, as `pair` answered it
mean_is : (t : Tt) {e : ℤ} {p : Pair} → InRange t.0 → e ≡ obliquity t → p ≡ pair (to_z w64 (bits e)) → p ≡ pair (obliquity t)
mean_is t h i j = rw (epsilon_holds t h i).value at j

-- ---- what each call is given

pub opposite_of-requires : goal.opposite_of-requires
opposite_of-requires c = rw c.pair-2.ensures (pair_sized _)

pub aberration-requires-clause-sun_sized : goal.aberration-requires-clause-sun_sized
aberration-requires-clause-sun_sized c = rw c.pair-sun.ensures (pair_sized _)

pub aberration-requires-clause-perihelion_sized : goal.aberration-requires-clause-perihelion_sized
aberration-requires-clause-perihelion_sized c = rw c.pair-perihelion.ensures (pair_sized _)

pub aberration-requires-clause-obliquity_sized : goal.aberration-requires-clause-obliquity_sized
aberration-requires-clause-obliquity_sized c = rw c.pair-mean.ensures (pair_sized _)

pub opposite_of-requires-2 : goal.opposite_of-requires-2
opposite_of-requires-2 c = rw c.pair-mean.ensures (pair_sized _)

pub overflow_add-epsilon : goal.overflow_add-epsilon
overflow_add-epsilon c =
    let t = c.args.at.tt in
    add_ok (epsilon_holds t c.requires.tt_in c.obliquity_of-epsilon.ensures)
    (delta_epsilon_holds t c.requires.tt_in c.nutation_of-n.ensures) tt

pub sidereal_pair-requires : goal.sidereal_pair-requires
sidereal_pair-requires c =
    let t = c.args.at.tt in
    let h = c.requires.tt_in in
    let n = delta_psi_holds t h c.nutation_of-n.ensures in
    let e = cosine_holds (obliquity t) (mean_is t h c.obliquity_of-epsilon.ensures c.pair-mean.ensures) in
    let l = longitude_holds c.args.site c.requires.accepted in
    rw (n.value, e.value, l.value)
    (record { nutation_le = n.size; cosine_le = e.size; longitude_le = omega (arith, l.size) })

pub latitude_pair-requires : goal.latitude_pair-requires
latitude_pair-requires c =
    let l = latitude_holds c.args.site c.requires.accepted in rw l.value (omega (arith, l.size))

-- ---- the night fits the steps, whatever pairs it has, and each part of it is the rule's

pair_accepted : (a : ℤ) {p : Pair} → p ≡ pair a → Accepted (pair_squares p)
pair_accepted a i = rw i (pair_length a)

opposite_accepted : (a : ℤ) {p q : Pair} → p ≡ pair a → q ≡ opposite p → Accepted (pair_squares q)
opposite_accepted a i j = pair_accepted (neg_ℤ a) (j ∙ ap opposite i ∙ sym (pair_opposite a))

aberration_small : {s p e : Pair} {v : Direction} → Sized s → Sized p → Sized e → v ≡ aberration s p e → PartsLe most_added v
aberration_small {s} {p} {e} hs hp he i =
    let a = aberration_le s p hs hp e he in
    rw i (record { x = omega (arith, a.x); y = omega (arith, a.y); z = omega (arith, a.z) })

pub invariant_of-result : goal.invariant_of-result
invariant_of-result c = record {
  instant = c.requires.tt_in;
  zeta = pair_accepted _ c.pair.ensures;
  minus_theta = opposite_accepted _ c.pair-2.ensures c.opposite_of.ensures;
  z = pair_accepted _ c.pair-3.ensures;
  aberration = aberration_small (rw c.pair-sun.ensures (pair_sized _)) (rw c.pair-perihelion.ensures (pair_sized _))
      (rw c.pair-mean.ensures (pair_sized _)) c.aberration.ensures;
  minus_epsilon = opposite_accepted _ c.pair-mean.ensures c.opposite_of-2.ensures;
  delta_psi = pair_accepted _ c.pair-4.ensures;
  true_epsilon = pair_accepted _ c.pair-5.ensures;
  minus_sidereal = pair_accepted _ c.sidereal_pair.ensures;
  latitude_less_quarter = pair_accepted _ c.latitude_pair.ensures;
}

pub returns : goal.returns
unfolding night local_sidereal
returns c =
    let t = c.args.at.tt in
    let h = c.requires.tt_in in
    let p = c.precession_of-p in
    let n = c.nutation_of-n in
    let sun = c.sun_longitude_of in
    let angle = c.perihelion_of in
    let zeta_held : to_z w64 (of_z w64 p.result.zeta) ≡ p.result.zeta = search rules in
    let theta_held : to_z w64 (of_z w64 p.result.theta) ≡ p.result.theta = search rules in
    let z_held : to_z w64 (of_z w64 p.result.z) ≡ p.result.z = search rules in
    let mean = mean_is t h c.obliquity_of-epsilon.ensures c.pair-mean.ensures in
    let delta_psi = delta_psi_holds t h n.ensures in
    let epsilon = add (epsilon_holds t h c.obliquity_of-epsilon.ensures) (delta_epsilon_holds t h n.ensures) tt in
    rw (
      rw zeta_held at c.pair.ensures ∙ ap (λ (p : Precession). pair p.zeta) p.ensures,
      c.opposite_of.ensures ∙ ap opposite (rw theta_held at c.pair-2.ensures ∙ ap (λ (p : Precession). pair p.theta) p.ensures)
          ∙ sym (pair_opposite _),
      rw z_held at c.pair-3.ensures ∙ ap (λ (p : Precession). pair p.z) p.ensures,
      c.aberration.ensures,
      rw (held64 sun.result sun.type_inv ∙ sun.ensures) at c.pair-sun.ensures,
      rw (held64 angle.result angle.type_inv ∙ angle.ensures) at c.pair-perihelion.ensures,
      mean,
      c.opposite_of-2.ensures ∙ ap opposite mean ∙ sym (pair_opposite _),
      rw delta_psi.value at c.pair-4.ensures,
      rw epsilon.value at c.pair-5.ensures,
      rw (delta_psi.value, (cosine_holds (obliquity t) mean).value, (longitude_holds c.args.site c.requires.accepted).value)
          at c.sidereal_pair.ensures,
      rw (latitude_holds c.args.site c.requires.accepted).value at c.latitude_pair.ensures,
    )
