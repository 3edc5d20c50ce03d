-- Every night that a date and a site are made ready to fits the steps of a place.
use Rattle.std.specs.Prelude.{◌≡◌, refl, Bool, true, false, cond, Result, Ok, Err}
use Rattle.std.proofs.Common.{subst}
use Rattle.rules.specs.declared.Ut.{Ut}
use Rattle.rules.specs.declared.Tt.{Tt}
use Rattle.rules.specs.declared.Moment.{Moment}
use Rattle.rules.specs.declared.Site.{Site}
use Rattle.rules.specs.declared.Instants.{Instants}
use Rattle.rules.specs.declared.Refusal.{Refusal}
use Rattle.rules.specs.declared.Night.{Night}
use Rattle.rules.specs.Dates.{instants}
use Rattle.rules.specs.Night.{site_refused, night, night_at, night_of}
use Rattle.laws.specs.Instants.{tt_within}
use Rattle.laws.specs.Night.{NightFits}
use Rattle.laws.proofs.Night.{night_fits}
use Rattle.night_list_checks.specs.Checks.{PreparedFits}
use Rattle.rules.specs.Dates.{ut_and_tt}

by_site : (m : Moment) (ut : Ut) (tt : Tt) (site : Site) (t : Bool) → instants m ≡ Ok (ut_and_tt ut tt)
    → PreparedFits (cond t (Err Refusal.Site) (Ok (night ut tt site)))
unfolding PreparedFits
by_site m ut tt' site true e = tt
by_site m ut tt' site false e = night_fits ut tt' site (tt_within m ut tt' e)

by_instants : (m : Moment) (site : Site) (i : Result Instants Refusal) → instants m ≡ i → PreparedFits (night_at i site)
unfolding PreparedFits night_at
by_instants m site (Err r) e = tt
by_instants m site (Ok i) e = by_site m i.ut i.tt site (site_refused site) e

pub night_of_fits : (m : Moment) (site : Site) → PreparedFits (night_of m site)
unfolding night_of
night_of_fits m site = by_instants m site (instants m) refl

pub ready_fits : (m : Moment) (site : Site) (n : Night) → night_of m site ≡ Ok n → NightFits n
unfolding PreparedFits
ready_fits m site n e = subst PreparedFits e (night_of_fits m site)
