-- `weather::take` meets its contract: each arm by the reading's case and the test that led there.
use Rattle.std.specs.Prelude.{Result, Ok, Err}
use Rattle.std.proofs.Common.{Bool, cond, sym, ap, ◌∙◌}
use Rattle.rules.specs.declared.Weather.{Weather}
use Rattle.rules.specs.Weather.{is_accepted, with_pressure, with_temperature, with_reading, taken}
use Rattle.weather.proofs.take.Goals as goal

-- the record with the reading, or as it was
either : Weather → Weather → Bool → Result Weather Weather
either v w b = cond b (Ok v) (Err w)

pub returns-in-Pressure : goal.returns-in-Pressure
unfolding taken is_accepted with_reading with_pressure either
returns-in-Pressure c =
    let w = c.args.w in
    sym (ap (taken w) c.in-Pressure.is
    ∙ ap (either (with_pressure w c.in-Pressure.pressure) w) (sym c.is_pressure.ensures ∙ c.if-is_pressure.true))

pub returns-in-Temperature : goal.returns-in-Temperature
unfolding taken is_accepted with_reading with_temperature either
returns-in-Temperature c =
    let w = c.args.w in
    sym (ap (taken w) c.in-Temperature.is
    ∙ ap (either (with_temperature w c.in-Temperature.temperature) w)
    (sym c.is_temperature.ensures ∙ c.if-is_temperature.true))

pub returns-in_default : goal.returns-in_default
unfolding taken is_accepted with_reading with_pressure either
returns-in_default c =
    let w = c.args.w in
    sym (ap (taken w) c.in-Pressure.is
    ∙ ap (either (with_pressure w c.in-Pressure.pressure) w) (sym c.is_pressure.ensures ∙ c.if-is_pressure.false))

pub returns-in_default-2 : goal.returns-in_default-2
unfolding taken is_accepted with_reading with_temperature either
returns-in_default-2 c =
    let w = c.args.w in
    sym (ap (taken w) c.in-Temperature.is
    ∙ ap (either (with_temperature w c.in-Temperature.temperature) w)
    (sym c.is_temperature.ensures ∙ c.if-is_temperature.false))

pub returns-in-Nothing : goal.returns-in-Nothing
unfolding taken is_accepted with_reading
returns-in-Nothing c = sym (ap (taken c.args.w) c.in-Nothing.is)
