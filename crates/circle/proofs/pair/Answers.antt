-- `circle::pair` meets its contract.
use mathlib.Core.Path.{◌≡◌, ◌∙◌}
use Prim.Native.Nat.{ℕ, ◌-◌, ◌/◌, ◌%◌, ◌<◌}
use native.Mathlib.Omega.{arith}
use lib.Dec.{lit<}
use lib.IntN.{pos}
use lib.Signed.{lt_z_yes}
use borrow.Author.Rules.{rules}
use mir.Facts.{to_z-of_z}
use Rattle.rules.specs.Units.{circle, quarter}
use Rattle.rules.specs.Rounding.{modulo}
use Rattle.rules.specs.Circle as rule
use Rattle.laws.specs.Modulo.{modulo_lt}
use Rattle.laws.specs.UpTo.{up_to_pos}
use Rattle.laws.specs.Angles.{pair_to_quarter_sized}
use Rattle.words.specs.Holds.{Holds, bits, ◌/ʷ◌, ◌%ʷ◌, got, lit, div, div_ok, rem}
use Rattle.circle.proofs.pair.Goals as goal
use Rattle.circle.proofs.pair.Goals.{After-on_circle-m, After-pair_to_quarter-p, Start}

abbrev angle : Start → ℕ
angle c = modulo c.args.a circle

angle_lt : (c : Start) → angle c < circle
angle_lt c = modulo_lt c.args.a circle (lit< tt)

angle_holds : (c : After-on_circle-m) → Holds (bits c.on_circle-m.result) (pos (angle c.before)) circle
angle_holds c =
    got (rw (to_z-of_z c.before.ranges.a) at c.on_circle-m.ensures) (omega (arith, angle_lt c.before)) tt

rest_holds : (c : After-on_circle-m)
    → Holds (bits c.on_circle-m.result %ʷ quarter) (pos (angle c.before % quarter)) (quarter - 1)
rest_holds c = rem (angle_holds c) (lit quarter tt) (lt_z_yes tt) tt

quarter_holds : (c : After-on_circle-m)
    → Holds (bits c.on_circle-m.result /ʷ quarter) (pos (angle c.before / quarter)) circle
quarter_holds c = div (angle_holds c) (lit quarter tt) (lt_z_yes tt) tt

pair_is : (c : After-pair_to_quarter-p)
    → c.pair_to_quarter-p.result ≡ rule.pair_to_quarter rule.pair_to_half (angle c.before.before % quarter)
pair_is c = rw (rest_holds c.before).value at c.pair_to_quarter-p.ensures

pub nonzero_rem-m : goal.nonzero_rem-m
nonzero_rem-m c = div_ok (angle_holds c) (lit quarter tt) (lt_z_yes tt) tt

pub pair_to_quarter-p-requires : goal.pair_to_quarter-p-requires
pair_to_quarter-p-requires c = rw (rest_holds c).value (up_to_pos (angle c.before % quarter) quarter (omega arith))

pub nonzero_div-m : goal.nonzero_div-m
nonzero_div-m c = nonzero_rem-m c.before

pub in_quarter-requires : goal.in_quarter-requires
in_quarter-requires c =
    let n = angle c.before.before in
    let sized = pair_to_quarter_sized (n % quarter) (omega arith) in
    rw ((quarter_holds c.before).value, pair_is c)
    (record {
      q_range = up_to_pos (n / quarter) 3 (omega (arith, angle_lt c.before.before));
      cosine_le = sized.cosine_le;
      sine_le = sized.sine_le;
    })

pub returns : goal.returns
unfolding rule.pair rule.folded
returns c =
    let b = c.before in
    search rules ∙ rw ((quarter_holds b.before).value, pair_is b) at c.in_quarter.ensures
