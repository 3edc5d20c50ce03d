-- `arcs::in_microarcseconds` meets its contract.
use mathlib.Core.Path.{◌≡◌, ap, ◌∙◌}
use mathlib.Core.List.{[], ◌∷◌}
use lib.IntN.{ℤ, pos, ◌*ℤ◌}
use borrow.Author.Rules.{rules}
use Rattle.integers.specs.Ring.{ring, v0, v1, ◌⊗◌}
use Rattle.rules.specs.Units.{unit, half, half_in_parts}
use Rattle.rules.specs.Rounding.{rnd}
use Rattle.rules.specs.Reading as rule
use Rattle.laws.specs.Product.{reading_fits}
use Rattle.laws.specs.UpTo.{up_to_le}
use Rattle.words.specs.Holds.{Holds, bits, arg}
use Rattle.arcs.proofs.in_microarcseconds.Goals as goal

t_holds : (c : goal.Start) → Holds (bits c.args.t) c.args.t unit
t_holds c = arg c.args.t (up_to_le c.args.t unit c.requires) tt

turned : (x y : ℤ) → x *ℤ y ≡ y *ℤ x
turned x y = ring (x ∷ y ∷ []) (v0 ⊗ v1) (v1 ⊗ v0) tt

pub returns : goal.returns
unfolding rule.in_microarcseconds
returns c =
    search rules
    ∙ rw (t_holds c.before).value at c.rnd_product_quotient.ensures
    ∙ ap (λ z. rnd z half_in_parts) (turned (pos half) c.args.t)

pub rnd_product_quotient-requires : goal.rnd_product_quotient-requires
rnd_product_quotient-requires c = rw (t_holds c).value (reading_fits c.args.t (t_holds c).size)
