-- `line_entries::angles::put_angles` meets its contract.
use Rattle.std.specs.Prelude.{◌≡◌, true, false, List, ◌++◌, ℕ, ℤ, eqb, nat_abs}
use Rattle.std.proofs.Common.{sym, ◌∙◌, append_assoc, SFits, to_z-of_z, rules}
use Rattle.std.specs.Int.{w64}
use Rattle.rules.specs.Units.{quarter}
use Rattle.sexagesimal.specs.Sexagesimal.{spaced}
use Rattle.line_entries.specs.EntryLine.{dash, or_dash}
use Rattle.line_entries.proofs.angles.put_angles.Goals.{then-is_quarter, else-is_quarter, then-is_quarter-2, else-is_quarter-2}
use Rattle.line_entries.proofs.angles.put_angles.Goals as goal

dash_is : (height : ℤ) (angle : List ℕ) → eqb (nat_abs height) quarter ≡ true → or_dash height angle ≡ dash
unfolding or_dash
dash_is height angle e = rw e

angle_is : (height : ℤ) (angle : List ℕ) → eqb (nat_abs height) quarter ≡ false → or_dash height angle ≡ angle
unfolding or_dash
angle_is height angle e = rw e

pub returns-clause-items : goal.returns-clause-items
returns-clause-items g c =
    let a = c.args.angles in
    let old = c.args.out.now.items in
    let ra : SFits w64 a.ra = search rules in
    let declination : SFits w64 a.declination = search rules in
    let azimuth : SFits w64 a.azimuth = search rules in
    let altitude : SFits w64 a.altitude = search rules in
    let q = rw (to_z-of_z declination) at c.is_quarter.ensures in
    let r = rw (to_z-of_z altitude) at c.is_quarter-2.ensures in
    let first : c.if-is_quarter.out.items ≡ old ++ spaced (or_dash a.declination (g.S.Style.ra a.ra)) =
    elim c.if-is_quarter.branch [
      | then-is_quarter w ↦ (rw (w.out-is, w.put_dash.ensures.items, dash_is a.declination (g.S.Style.ra a.ra) (sym q ∙ w.if-is_quarter.true)))
      | else-is_quarter w ↦ (rw (w.out-is, w.put_ra.ensures.items, to_z-of_z ra, angle_is a.declination (g.S.Style.ra a.ra) (sym q ∙ w.if-is_quarter.false)))
    ] in
    let second : c.if-is_quarter-2.out.items ≡ c.put_height.new.out.items ++ spaced (or_dash a.altitude (g.S.Style.azimuth a.azimuth)) =
    elim c.if-is_quarter-2.branch [
      | then-is_quarter-2 w ↦ (rw (w.out-is, w.put_dash-then-is_quarter-2.ensures.items, dash_is a.altitude (g.S.Style.azimuth a.azimuth) (sym r ∙ w.if-is_quarter-2.true)))
      | else-is_quarter-2 w ↦ (rw (w.out-is, w.put_azimuth.ensures.items, to_z-of_z azimuth, angle_is a.altitude (g.S.Style.azimuth a.azimuth) (sym r ∙ w.if-is_quarter-2.false)))
    ] in
    rw (second, c.put_height.ensures.items, first, to_z-of_z declination, to_z-of_z altitude) at c.put_height-2.ensures.items
    ∙ simp append_assoc
