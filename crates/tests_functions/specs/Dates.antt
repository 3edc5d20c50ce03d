-- Day numbers, dates and instants, as the tests get them: the paper's number and values. Definitions only.
use Rattle.std.specs.Prelude.{get_or, pos}
use Rattle.rules.specs.Refusals.{Answer}
use Rattle.tests_functions.specs.declared.days.TestsDay.{TestsDay}
use Rattle.tests_functions.specs.declared.days.TestsDate.{TestsDate}
use Rattle.tests_functions.specs.declared.moments.TestsInstants.{TestsInstants}

-- the number, and the values in their order
unfoldable pub tests_day : Answer → TestsDay
tests_day a = record { refused = pos a.number; day = get_or a.values 0 (pos 0) }

unfoldable pub tests_date : Answer → TestsDate
tests_date a = record {
  refused = pos a.number;
  year = get_or a.values 0 (pos 0);
  month = get_or a.values 1 (pos 0);
  day = get_or a.values 2 (pos 0);
}

unfoldable pub tests_instants : Answer → TestsInstants
tests_instants a = record {
  refused = pos a.number;
  ut = get_or a.values 0 (pos 0);
  tt = get_or a.values 1 (pos 0);
}
