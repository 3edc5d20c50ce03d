-- The two places of `SamplePlace`, to the last unit.
use Rattle.std.specs.Prelude.{◌≡◌, refl, Ok}
use Rattle.rules.specs.Units.{between, within}
use Rattle.rules.specs.Night.{site_refused}
use Rattle.rules.specs.Stars.{star_refused}
use Rattle.rules.specs.Place.{place_in}
use Rattle.rules.specs.Place.{place}
use Rattle.laws.specs.SampleNight.{evening, here, tonight}
use Rattle.laws.proofs.SampleNight.{night_is}
use Rattle.laws.specs.SamplePlace.{sirius, sirius_place, equinox, equinox_place, sirius_steps, equinox_steps, place_of_steps, stands}

pub sirius_place_lem : place_in tonight sirius ≡ sirius_place
sirius_place_lem = place_of_steps tonight sirius sirius_steps

pub equinox_place_lem : place_in tonight equinox ≡ equinox_place
equinox_place_lem = place_of_steps tonight equinox equinox_steps

pub sirius_stands : place evening sirius here ≡ Ok sirius_place
unfolding star_refused site_refused between within
sirius_stands = stands here tonight sirius refl night_is refl sirius_place_lem

pub equinox_stands : place evening equinox here ≡ Ok equinox_place
unfolding star_refused site_refused between within
equinox_stands = stands here tonight equinox refl night_is refl equinox_place_lem
