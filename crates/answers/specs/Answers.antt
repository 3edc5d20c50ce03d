-- The structs that C gets: the paper's number and values in their order. Definitions only.
use Rattle.std.specs.Prelude.{cond, get_or, ℤ, pos, nat_abs, Result}
use Rattle.rules.specs.declared.Weather.{Weather}
use Rattle.rules.specs.Units.{same}
use Rattle.rules.specs.Refusals.{Answer}
use Rattle.rules.specs.Answers.{weathered_number, weathered_record}
use Rattle.answers.specs.declared.clocks.TurbelicusClocked.{TurbelicusClocked}
use Rattle.answers.specs.declared.probe.TurbelicusWeathered.{TurbelicusWeathered}
use Rattle.answers.specs.declared.observed.TurbelicusAltitude.{TurbelicusAltitude}
use Rattle.answers.specs.declared.observed.TurbelicusObserved.{TurbelicusObserved}
use Rattle.answers.specs.declared.places.TurbelicusPlaced.{TurbelicusPlaced}
use Rattle.answers.specs.declared.turns.TurbelicusTurned.{TurbelicusTurned}
use Rattle.answers.specs.declared.turns.TurbelicusRead.{TurbelicusRead}
use Rattle.answers.specs.declared.lists.TurbelicusCounted.{TurbelicusCounted}
use Rattle.answers.specs.declared.lists.TurbelicusStarred.{TurbelicusStarred}
use Rattle.answers.specs.declared.lists.TurbelicusWritten.{TurbelicusWritten}

unfoldable pub clocked_out : Answer → TurbelicusClocked
clocked_out a = record {
  refused = pos a.number;
  year = get_or a.values 0 (pos 0);
  month = get_or a.values 1 (pos 0);
  day = get_or a.values 2 (pos 0);
  hour = get_or a.values 3 (pos 0);
  minute = get_or a.values 4 (pos 0);
  second = get_or a.values 5 (pos 0);
  ms = get_or a.values 6 (pos 0);
}

unfoldable pub placed_out : Answer → TurbelicusPlaced
placed_out a = record {
  refused = pos a.number;
  has_ra = get_or a.values 0 (pos 0);
  ra = get_or a.values 1 (pos 0);
  declination = get_or a.values 2 (pos 0);
  has_azimuth = get_or a.values 3 (pos 0);
  azimuth = get_or a.values 4 (pos 0);
  altitude = get_or a.values 5 (pos 0);
}

unfoldable pub turned_out : Answer → TurbelicusTurned
turned_out a = record {
  refused = pos a.number;
  x = get_or a.values 0 (pos 0);
  y = get_or a.values 1 (pos 0);
  z = get_or a.values 2 (pos 0);
}

-- a reading is never refused
unfoldable pub read_out : Answer → TurbelicusRead
read_out a = record { has_angle = get_or a.values 0 (pos 0); angle = get_or a.values 1 (pos 0) }

unfoldable pub starred_out : Answer → TurbelicusStarred
starred_out a = record {
  refused = pos a.number;
  ra = get_or a.values 0 (pos 0);
  declination = get_or a.values 1 (pos 0);
  ra_motion = get_or a.values 2 (pos 0);
  declination_motion = get_or a.values 3 (pos 0);
}

-- a count and a length have no sign
unfoldable pub counted_out : Answer → TurbelicusCounted
counted_out a = record { refused = pos a.number; count = nat_abs (get_or a.values 0 (pos 0)) }

unfoldable pub written_out : Answer → TurbelicusWritten
written_out a = record { refused = pos a.number; length = nat_abs (get_or a.values 0 (pos 0)) }

unfoldable pub altitude_out : Answer → TurbelicusAltitude
altitude_out a = record { refused = pos a.number; altitude = get_or a.values 0 (pos 0) }

unfoldable pub observed_out : Answer → TurbelicusObserved
observed_out a = record {
  refused = pos a.number;
  has_ra = get_or a.values 0 (pos 0);
  ra = get_or a.values 1 (pos 0);
  declination = get_or a.values 2 (pos 0);
  has_azimuth = get_or a.values 3 (pos 0);
  azimuth = get_or a.values 4 (pos 0);
  altitude = get_or a.values 5 (pos 0);
  observed_altitude = get_or a.values 6 (pos 0);
}

-- a place and the observed altitude of it, as C gets them: the place's refusal first, then the other
unfoldable pub none_observed : ℤ → TurbelicusObserved
none_observed number = record {
  refused = number;
  ra = pos 0;
  declination = pos 0;
  azimuth = pos 0;
  altitude = pos 0;
  observed_altitude = pos 0;
  has_ra = pos 0;
  has_azimuth = pos 0;
}

unfoldable pub beside_out : TurbelicusPlaced → TurbelicusAltitude → TurbelicusObserved
beside_out p seen =
    let both : TurbelicusObserved = record {
      refused = pos 0;
      ra = p.ra;
      declination = p.declination;
      azimuth = p.azimuth;
      altitude = p.altitude;
      observed_altitude = seen.altitude;
      has_ra = p.has_ra;
      has_azimuth = p.has_azimuth;
    } in
    cond (same p.refused (pos 0)) (cond (same seen.refused (pos 0)) both (none_observed seen.refused))
    (none_observed p.refused)

-- the number, and the record with its flags as 0 or 1
unfoldable pub record_out : ℤ → Weather → TurbelicusWeathered
record_out number w = record {
  refused = number;
  pressure = w.pressure;
  temperature = w.temperature;
  has_pressure = cond w.has_pressure (pos 1) (pos 0);
  has_temperature = cond w.has_temperature (pos 1) (pos 0);
}

unfoldable pub weathered_out : Result Weather Weather → TurbelicusWeathered
weathered_out a = record_out (pos (weathered_number a)) (weathered_record a)
