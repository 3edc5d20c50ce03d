-- The three places of `SampleNoAngle`, to the last unit.
use Rattle.std.specs.Prelude.{◌≡◌, refl, Ok}
use Rattle.rules.specs.Units.{+◌, −◌, between, within}
use Rattle.rules.specs.Rounding.{rnd, rnd_size, modulo, remainder}
use Rattle.rules.specs.Length.{root_from, root, square, pair_squares, squares, part_to, pair_to_length, to_length}
use Rattle.rules.specs.Circle.{radian_parts, square_parts, stage, stages, raw_sine, raw_cosine, pair_of_parts, pair_to_half}
use Rattle.rules.specs.Circle.{exchanged_pair, pair_to_quarter, in_quarter, folded, pair}
use Rattle.rules.specs.Night.{site_refused}
use Rattle.rules.specs.Stars.{star_refused}
use Rattle.rules.specs.Place.{place_in, place}
use Rattle.laws.specs.SampleNight.{evening, here, pair_of, tonight}
use Rattle.laws.proofs.SampleNight.{night_is}
use Rattle.laws.proofs.SampleNight.{night_north}
use Rattle.laws.specs.SamplePlace.{place_of_steps, stands}
use Rattle.laws.specs.SampleNoAngle.{pole_star, pole_place, zenith_star, zenith_site, zenith_night, zenith_place, pole_site, pole_night, pole_and_zenith, all_steps}

pub pole_place_lem : place_in tonight pole_star ≡ pole_place
pole_place_lem = place_of_steps tonight pole_star all_steps.pole

pub zenith_place_lem : place_in zenith_night zenith_star ≡ zenith_place
zenith_place_lem = place_of_steps zenith_night zenith_star all_steps.zenith

pub pole_stands : place evening pole_star here ≡ Ok pole_place
unfolding star_refused site_refused between within
pole_stands = stands here tonight pole_star refl night_is refl pole_place_lem

pub zenith_stands : place evening zenith_star zenith_site ≡ Ok zenith_place
unfolding star_refused site_refused between within rnd rnd_size modulo remainder root_from root square squares part_to
    to_length radian_parts square_parts stage stages raw_sine raw_cosine pair_squares pair_to_length pair_of_parts pair_to_half
    exchanged_pair pair_to_quarter in_quarter folded pair
zenith_stands =
    stands zenith_site zenith_night zenith_star refl
    (night_north (+ 180315000000) (pair_of (+ 823587028) (− 688930993)) refl)
    refl zenith_place_lem

pub pole_and_zenith_stand : place evening pole_star pole_site ≡ Ok pole_and_zenith
unfolding star_refused site_refused between within rnd rnd_size modulo remainder root_from root square squares part_to
    to_length radian_parts square_parts stage stages raw_sine raw_cosine pair_squares pair_to_length pair_of_parts pair_to_half
    exchanged_pair pair_to_quarter in_quarter folded pair
pole_and_zenith_stand =
    stands pole_site pole_night pole_star refl
    (night_north (+ 324000000000) (pair_of (+ 1073741824) (+ 0)) refl)
    refl (place_of_steps pole_night pole_star all_steps.both)
