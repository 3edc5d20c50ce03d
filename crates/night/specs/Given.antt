-- What the inner functions are given: conditions on their numbers, cited by `requires`.
use Rattle.std.specs.Prelude.{◌≡◌, false}
use Rattle.rules.specs.declared.Ut.{Ut}
use Rattle.rules.specs.declared.Tt.{Tt}
use Rattle.rules.specs.declared.Site.{Site}
use Rattle.rules.specs.Night.{site_refused}
use Rattle.laws.specs.Instant.{InRange}

-- the instants of a date, and a site that is not refused
pub record SiteFits (ut : Ut) (tt : Tt) (site : Site) : Type 0 where
  pub ut_in : InRange ut.0
  pub tt_in : InRange tt.0
  pub accepted : site_refused site ≡ false
