-- `module::places::turbelicus_place` meets its contract.
use borrow.Author.Rules.{rules}
use Rattle.module.proofs.places.turbelicus_place.Goals as goal

pub returns : goal.returns
returns c = rw (c.into.ensures, c.place.ensures, c.moment_of-moment.ensures) (search rules)
