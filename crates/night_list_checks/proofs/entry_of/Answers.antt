-- The four angles are held by their words.
use Rattle.std.proofs.Common.{◌≡◌, ◌∙◌, rules, to_z, of_z, w64}
use Rattle.rules.specs.NightList.{angles_of, entry_of}
use Rattle.words.specs.Fits.{held64}
use Rattle.night_list_checks.proofs.entry_of.Goals as goal

pub returns : goal.returns
unfolding angles_of entry_of
returns c =
    let p = c.args.place in
    let declination_held : to_z w64 (of_z w64 p.declination) ≡ p.declination = search rules in
    let altitude_held : to_z w64 (of_z w64 p.altitude) ≡ p.altitude = search rules in
    rw (
      c.mark_of.ensures,
      held64 c.or_nought.result c.or_nought.type_inv ∙ c.or_nought.ensures,
      declination_held,
      held64 c.or_nought-2.result c.or_nought-2.type_inv ∙ c.or_nought-2.ensures,
      altitude_held,
    )
