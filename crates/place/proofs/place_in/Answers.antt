-- `place::place_in` meets its contract.
use mathlib.Core.Path.{◌≡◌, ap, ◌∙◌}
use Rattle.rules.specs.Place.{apparent, overhead, readings, place_in}
use Rattle.place.proofs.place_in.Goals as goal
use Rattle.place.proofs.place_in.Goals.{After-overhead}

overhead_is : (c : After-overhead)
    → c.overhead.result
    ≡ overhead c.args.n (apparent c.args.n c.args.s)
overhead_is c = c.overhead.ensures.value ∙ ap (overhead _) c.apparent-v.ensures.value

pub returns : goal.returns
unfolding place_in
returns c =
    c.readings.ensures
    ∙ ap (λ v. readings v c.overhead.result) c.apparent-v.ensures.value
    ∙ ap (readings _) (overhead_is c.before)

pub overhead-requires : goal.overhead-requires
overhead-requires c = c.apparent-v.ensures.accepted

pub readings-requires : goal.readings-requires
readings-requires c =
    record { apparent_accepted = c.apparent-v.ensures.accepted; overhead_accepted = c.overhead.ensures.accepted }
