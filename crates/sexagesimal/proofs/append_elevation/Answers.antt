-- `sexagesimal::append_elevation` meets its contract.
use Rattle.std.proofs.Common.{◌≡◌, ◌∙◌, append_assoc, lit<, SFits, to_z-of_z, rules}
use Rattle.std.specs.Int.{w64}
use Rattle.rules.specs.Rounding.{rnd}
use Rattle.sexagesimal.specs.Sexagesimal.{elevation}
use Rattle.sexagesimal.specs.Quotients.{divided_size}
use Rattle.sexagesimal.proofs.append_elevation.Goals as goal

pub returns-clause-items : goal.returns-clause-items
unfolding elevation
returns-clause-items g c =
    let r = c.rnd_quotient-n.result in
    let f : SFits w64 r = search rules in
    let e : r ≡ rnd c.args.angle 100000 = rw (to_z-of_z c.ranges.angle) at c.rnd_quotient-n.ensures in
    rw (c.push-2.ensures.items, c.push.ensures.items, c.sign_of.ensures, divided_size r 10 f (lit< tt), to_z-of_z f, e) at c.put_parts.ensures.items
    ∙ simp append_assoc
