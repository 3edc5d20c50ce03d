-- `sexagesimal::append_bearing` meets its contract.
use Rattle.std.proofs.Common.{◌∙◌, append_assoc, lit<, SFits, to_z-of_z, rules}
use Rattle.std.specs.Int.{w64}
use Rattle.words.specs.Fits.{held64}
use Rattle.sexagesimal.specs.Sexagesimal.{round_in, bearing}
use Rattle.sexagesimal.specs.Quotients.{divided_size}
use Rattle.sexagesimal.proofs.append_bearing.Goals as goal

pub returns-clause-items : goal.returns-clause-items
unfolding bearing round_in
returns-clause-items g c =
    let n = c.modulo_of-n.result in
    let f : SFits w64 n = search rules in
    let r = held64 c.rnd_quotient.result c.rnd_quotient.type_inv in
    rw (
      c.push.ensures.items,
      divided_size n 10 f (lit< tt),
      to_z-of_z f,
      c.modulo_of-n.ensures,
      r,
      c.rnd_quotient.ensures,
      to_z-of_z c.ranges.angle,
    ) at c.put_parts.ensures.items
    ∙ simp append_assoc
