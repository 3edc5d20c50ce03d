-- The night list of the moment and the site that the numbers name, each of which its word holds.
use Rattle.std.proofs.Common.{rules}
use Rattle.tests_lists.proofs.tests_night_list.Goals as goal

pub returns : goal.returns
returns c = (
  rw (c.into.ensures, c.night_list.ensures.0, c.moment_of-moment.ensures) (search rules),
  rw (c.night_list.ensures.1, c.moment_of-moment.ensures) (search rules),
)
