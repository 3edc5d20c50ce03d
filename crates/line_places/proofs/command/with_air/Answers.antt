-- `line_places::command::with_air` meets its contract.
use Rattle.std.proofs.Common.{◌≡◌, sym, ◌∙◌}
use mir.Syntax.{w64}
use mir.Val.{to_z, of_z}
use Rattle.std.proofs.Common.{rules}
use Rattle.line_places.proofs.Words.{without_pressure, without_temperature, with_air_is}
use Rattle.line_places.proofs.command.with_air.Goals as goal

pub returns-in_err-pressure : goal.returns-in_err-pressure
returns-in_err-pressure c =
    c.from_residual.ensures ∙ sym (without_pressure _ _ _ (sym c.parse.ensures.value ∙ c.in_err-pressure.was))

pub returns-in_err-temperature : goal.returns-in_err-temperature
returns-in_err-temperature c =
    c.from_residual-in_err-temperature.ensures
    ∙ sym (without_temperature _ _ _ _ (sym c.parse.ensures.value ∙ c.in_ok-pressure.was)
    (sym c.parse-2.ensures.value ∙ c.in_err-temperature.was))

pub returns : goal.returns
returns c =
    let p = c.in_ok-pressure.pressure in
    let t = c.in_ok-temperature.temperature in
    let e : to_z w64 (of_z w64 p) ≡ p = search rules in
    let f : to_z w64 (of_z w64 t) ≡ t = search rules in
    rw (e, f) (sym (with_air_is c.args.people c.args.pressure.now c.args.temperature.now p t
    (sym c.parse.ensures.value ∙ c.in_ok-pressure.was)
    (sym c.parse-2.ensures.value ∙ c.in_ok-temperature.was)))
