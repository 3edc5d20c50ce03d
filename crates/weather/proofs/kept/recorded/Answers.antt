-- `weather::kept::recorded` meets its contract: the two tests of the mended record are `inRange`.
use Rattle.std.specs.Prelude.{Result, Ok, Err}
use Rattle.std.proofs.Common.{◌≡◌, Bool, true, false, cond, sym, ap, ◌∙◌}
use Rattle.rules.specs.declared.Weather.{Weather}
use Rattle.rules.specs.Weather.{in_range, mended, recorded}
use Rattle.weather.proofs.kept.recorded.Goals as goal
use Rattle.weather.proofs.kept.recorded.Goals.{else-is_pressure-via-then-is_pressure+else-is_temperature, else-is_pressure-via-else-is_pressure}

-- the mended record v, or w as it was
either : Weather → Weather → Bool → Result Weather Weather
either w v b = cond b (Ok v) (Err w)

recorded_is : (w v : Weather) (b : Bool) → v ≡ mended w → in_range v ≡ b → recorded w ≡ either w v b
unfolding recorded either
recorded_is w v b e t = ap (λ m. either w m (in_range m)) (sym e) ∙ ap (either w v) t

pub returns-then-is_temperature : goal.returns-then-is_temperature
unfolding either in_range
returns-then-is_temperature c =
    let m = c.mended-m in
    let p = sym c.is_pressure.ensures ∙ c.if-is_pressure.true in
    let t = sym c.is_temperature.ensures ∙ c.if-is_temperature.true in
    sym (recorded_is c.args.w m.result true m.ensures (rw (p, t)))

pub returns-else-is_pressure : goal.returns-else-is_pressure
unfolding either in_range
returns-else-is_pressure c =
    let m = c.mended-m in
    elim c.else-is_pressure.branch [
      | else-is_pressure-via-then-is_pressure+else-is_temperature b ↦ (
          let p = sym c.is_pressure.ensures ∙ b.if-is_pressure.true in
          let t = sym b.is_temperature.ensures ∙ b.if-is_temperature.false in
          sym (recorded_is c.args.w m.result false m.ensures (rw (p, t))))
      | else-is_pressure-via-else-is_pressure b ↦ (
          let p = sym c.is_pressure.ensures ∙ b.if-is_pressure.false in
          sym (recorded_is c.args.w m.result false m.ensures (rw p)))
    ]
