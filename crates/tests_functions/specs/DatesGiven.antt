-- What the tests' exports of dates and instants are given: plain numbers. Definitions only.
use Rattle.std.specs.Prelude.{ℤ}
use Rattle.rules.specs.declared.Date.{Date}
use Rattle.rules.specs.Answers.{instants_answer}
use Rattle.rules.specs.Dates.{instants}
use Rattle.answers.specs.Given.{moment_of}
use Rattle.tests_functions.specs.declared.moments.TestsInstants.{TestsInstants}
use Rattle.tests_functions.specs.Dates.{tests_instants}

-- plain numbers as a date
abbrev pub in_date : ℤ → ℤ → ℤ → Date
in_date y m d = record { year = y; month = m; day = d }

-- what the instants of plain numbers come out as
abbrev pub instants_of : ℤ → ℤ → ℤ → ℤ → ℤ → ℤ → ℤ → ℤ → TestsInstants
instants_of y m d h min s ms diff = tests_instants (instants_answer (instants (moment_of y m d h min s ms diff)))
