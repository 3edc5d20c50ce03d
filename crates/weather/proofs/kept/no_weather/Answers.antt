-- `weather::kept::no_weather` meets its contract.
use Rattle.std.proofs.Common.{refl}
use lib.Ieee.{of_bits}
use Rattle.rules.specs.Weather.{no_weather}
use Rattle.weather.proofs.kept.no_weather.Goals as goal

pub returns : goal.returns
unfolding of_bits no_weather
returns c = refl
