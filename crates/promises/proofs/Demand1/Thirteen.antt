-- Refusal 13, "length to be divided by is nought": the rule of bringing to length gives it, of a length of nought and
-- of no other, and no entry point comes to it. `ThirteenByContract` and `ThirteenForC` say so of the functions
-- themselves.
use Rattle.std.specs.Prelude.{refl, Err}
use Rattle.rules.specs.declared.Moment.{Moment}
use Rattle.rules.specs.declared.Star.{Star}
use Rattle.rules.specs.declared.Site.{Site}
use Rattle.rules.specs.Refusals.{number}
use Rattle.rules.specs.Place.{place}
use Rattle.promises.specs.Demand1.Checks.{place_checks}
use Rattle.promises.proofs.Demand1.Places.{place_refused_lem}
use Rattle.promises.specs.Demand1.Thirteen.{Never13, never_13}

pub place_not_13 : (m : Moment) (star : Star) (site : Site) → Never13 (place m star site) Err
unfolding number
place_not_13 m star site = never_13 _ Err (place_checks m star site) refl (place_refused_lem m star site)
