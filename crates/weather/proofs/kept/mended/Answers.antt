-- `weather::kept::mended` meets its contract.
use Rattle.rules.specs.Weather.{no_weather, mended}
use Rattle.weather.proofs.kept.mended.Goals as goal
use Rattle.weather.proofs.kept.mended.Goals.{then-w, else-w}

pub returns-then-w-2 : goal.returns-then-w-2
unfolding no_weather mended
returns-then-w-2 c =
    elim c.if-w.branch [
      | then-w b ↦ rw (b.result-is, b.if-w.true, c.if-w-2.true)
      | else-w b ↦ rw (b.result-is, b.if-w.false, c.if-w-2.true, c.no_weather-start.ensures)
    ]

pub returns-else-w-2 : goal.returns-else-w-2
unfolding no_weather mended
returns-else-w-2 c =
    elim c.if-w.branch [
      | then-w b ↦ rw (b.result-is, b.if-w.true, c.if-w-2.false, c.no_weather-start.ensures)
      | else-w b ↦ rw (b.result-is, b.if-w.false, c.if-w-2.false, c.no_weather-start.ensures)
    ]
