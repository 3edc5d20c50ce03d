-- `module::observed::turbelicus_observed_place` meets its contract: the two calls, put together, are the rule's answer.
use Rattle.std.proofs.Common.{◌≡◌, ◌∙◌, rules}
use Rattle.rules.specs.Answers.{placed_answer, angle_answer}
use Rattle.rules.specs.Place.{place}
use Rattle.rules.specs.Refraction.{observed_altitude, observed_place}
use Rattle.stars.specs.Numbers.{star_of}
use Rattle.answers.specs.Given.{moment_of, site_of, weather_of}
use Rattle.answers.specs.Answers.{placed_out, altitude_out}
use Rattle.answers.specs.Beside.{beside_is}
use Rattle.module.proofs.observed.turbelicus_observed_place.Goals as goal

pub returns : goal.returns
unfolding observed_place
returns c =
    let a = c.args in
    let m = moment_of a.year a.month a.day a.hour a.minute a.second a.ms a.ut1_minus_utc in
    let star = star_of a.ra a.declination a.ra_motion a.declination_motion in
    let kept = weather_of a.pressure a.temperature a.has_pressure a.has_temperature in
    let placed : c.turbelicus_place-placed.result ≡ placed_out (placed_answer (place m star (site_of a.latitude a.longitude))) = search (rules, c.turbelicus_place-placed.ensures) in
    let seen : c.turbelicus_observed_altitude-seen.result
    ≡ altitude_out (angle_answer (observed_altitude kept c.turbelicus_place-placed.result.altitude)) =
    search (rules, c.turbelicus_observed_altitude-seen.ensures) in
    c.beside_out.ensures ∙ rw (seen, placed) (beside_is (place m star (site_of a.latitude a.longitude)) kept)
