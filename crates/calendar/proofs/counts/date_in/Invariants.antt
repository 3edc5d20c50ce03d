-- The months passed and the rest make the days given.
use Rattle.std.specs.Prelude.{◌≡◌, ◌+◌, take, pos, nat_abs}
use Rattle.rules.specs.Years.{sum}
use Rattle.calendar.proofs.counts.date_in.Given as goal

abbrev pub invariant-loop-before : goal.invariant-loop-before
invariant-loop-before l = record {
  rest_is : l.rest ≡ pos (nat_abs l.rest);
  whole : sum (take l.before l.length-items) + nat_abs l.rest ≡ nat_abs l.days;
}
