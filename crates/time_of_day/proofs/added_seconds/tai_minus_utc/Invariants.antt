-- The seconds and the steps still to come that are counted make the answer.
use Rattle.std.proofs.Common.{◌-◌, ◌≡◌, ◌≤◌, ◌+◌, pos}
use lib.ListN.{drop}
use Rattle.laws.specs.Seconds.{step_numbers, up_to}
use Rattle.time_of_day.proofs.added_seconds.tai_minus_utc.Given as goal

abbrev pub invariant-loop-step : goal.invariant-loop-step
invariant-loop-step l = record {
  counted : up_to l.day (drop l.step-index step_numbers) ≤ up_to l.day step_numbers;
  seconds : l.seconds ≡ pos (10 + up_to l.day step_numbers - up_to l.day (drop l.step-index step_numbers));
}
