-- `turning::turn_by` meets its contract: a turned direction has a length that is not nought, and fits.
use mathlib.Core.Path.{◌≡◌, ap, ◌∙◌}
use native.Mathlib.Omega.{arith}
use mir.Facts.{to_z-of_z}
use Rattle.rules.specs.declared.Direction.{Direction}
use Rattle.rules.specs.Length.{to_length}
use Rattle.rules.specs.Turning.{turn_about, turn_by}
use Rattle.laws.proofs.Turning.{turn_about_fits, turn_about_root_pos}
use Rattle.length.specs.Given.{NotNought}
use Rattle.turning.proofs.turn_by.Goals as goal
use Rattle.turning.proofs.turn_by.Goals.{After-turn_about, Start}

abbrev about : Start → Direction
about c = turn_about c.args.axis c.args.p c.args.v

not_nought : (c : Start) → NotNought (about c)
not_nought c = record {
  fits = omega (arith, turn_about_fits c.args.axis c.args.p c.args.v c.requires.pair c.requires.direction);
  length_pos = turn_about_root_pos c.args.axis c.args.p c.args.v c.requires.pair c.requires.direction;
}

about_is : (c : After-turn_about) → c.turn_about.result ≡ about c.before
about_is c = rw (to_z-of_z c.ranges.axis) at c.turn_about.ensures

pub brought-requires : goal.brought-requires
brought-requires c = rw (about_is c) (not_nought c.before)

pub returns : goal.returns
unfolding turn_by
returns c = c.brought.ensures ∙ ap to_length (about_is c.before)
