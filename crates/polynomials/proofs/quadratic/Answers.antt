-- `polynomials::quadratic` meets its contract.
use mathlib.Core.Path.{◌≡◌, ◌∙◌}
use mathlib.Core.List.{[], ◌∷◌}
use mir.Syntax.{w64}
use mir.Val.{to_z, of_z}
use mir.Facts.{to_z-of_z}
use borrow.Author.Rules.{rules}
use Rattle.rules.specs.Polynomials.{polynomial}
use Rattle.polynomials.specs.Fits.{rest_fits, step_fits}
use Rattle.polynomials.proofs.quadratic.Goals as goal

t_held : (c : goal.Start) → to_z w64 (of_z w64 c.args.t) ≡ c.args.t
t_held c = to_z-of_z c.ranges.t

c0_held : (c : goal.Start) → to_z w64 (of_z w64 c.args.c0) ≡ c.args.c0
c0_held c = to_z-of_z c.ranges.c0

c1_held : (c : goal.Start) → to_z w64 (of_z w64 c.args.c1) ≡ c.args.c1
c1_held c = to_z-of_z c.ranges.c1

c2_held : (c : goal.Start) → to_z w64 (of_z w64 c.args.c2) ≡ c.args.c2
c2_held c = to_z-of_z c.ranges.c2

ruleset held = (t_held, c0_held, c1_held, c2_held)

linear_held : (c : goal.After-linear)
    → to_z w64 (of_z w64 c.linear.result)
    ≡ polynomial (c.args.c1 ∷ c.args.c2 ∷ []) c.args.t
linear_held c = search rules ∙ simp held at c.linear.ensures

pub linear-requires : goal.linear-requires
linear-requires c = simp held (rest_fits c.requires)

pub times_t_plus-requires : goal.times_t_plus-requires
times_t_plus-requires c = simp (held, linear_held) (step_fits c.requires)

pub returns : goal.returns
unfolding polynomial
returns c = search rules ∙ simp (held, linear_held) at c.times_t_plus.ensures
