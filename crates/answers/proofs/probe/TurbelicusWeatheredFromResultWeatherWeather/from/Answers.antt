-- `answers::probe::TurbelicusWeathered::from` meets its contract.
use borrow.Author.Rules.{rules}
use Rattle.rules.specs.Answers.{weathered_number, weathered_record}
use Rattle.answers.proofs.Angles.{shown}
use Rattle.answers.specs.Answers.{record_out, weathered_out}
use Rattle.answers.proofs.probe.TurbelicusWeatheredFromResultWeatherWeather.from.Goals as goal
use Rattle.answers.proofs.probe.TurbelicusWeatheredFromResultWeatherWeather.from.Goals.{in-Ok, in-Err}

pub returns : goal.returns
unfolding weathered_out record_out weathered_number weathered_record
returns c = elim c.match-a.branch [ in-Ok w ↦ rw (w.in-Ok.is) (search (rules, shown, w.refused-is)) | in-Err w ↦ rw (w.in-Err.is) (search (rules, shown, w.refused-is)) ]
