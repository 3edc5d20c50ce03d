-- `calendar::years::years_before` meets its contract: `years_before` of the laws, on bits.
use mathlib.Core.Path.{◌∙◌, ap}
use Prim.Native.Nat.{ℕ, ◌-◌, ◌*◌, ◌/◌}
use native.Mathlib.Omega.{arith}
use lib.IntN.{pos, nat_abs}
use Rattle.words.specs.Holds.{Holds, bits, ◌-ʷ◌, ◌*ʷ◌, ◌/ʷ◌, lit, got, add, sub_nat, mul}
use Rattle.words.specs.Holds.{div_lit}
use Rattle.laws.specs.Calendar.{years_before}
use Rattle.calendar.proofs.years.years_before.Goals as goal

module _ (c : goal.Start) where
  abbrev y : ℕ
  y = nat_abs c.args.year

  year : Holds (bits c.args.year) (pos y) 2099
  year = got c.requires.is c.requires.at_most tt

  years : Holds (bits c.args.year -ʷ 1972) (pos (y - 1972)) 2099
  years = sub_nat year (lit 1972 tt) c.requires.at_least tt

  days : Holds (365 *ʷ (bits c.args.year -ʷ 1972)) (pos (365 * (y - 1972))) (365 * 2099)
  days = mul (lit 365 tt) years tt

  quarters : Holds (bits c.args.year -ʷ 1969) (pos (y - 1969)) 2099
  quarters = sub_nat year (lit 1969 tt) (omega (arith, c.requires.at_least)) tt

  leaps : Holds ((bits c.args.year -ʷ 1969) /ʷ 4) (pos ((y - 1969) / 4)) (2099 / 4)
  leaps = div_lit 4 quarters tt tt tt

pub returns : goal.returns
returns c = (add (days c) (leaps c) tt).value ∙ ap pos
    (omega (arith, years_before (y c - 1972) (omega (arith, c.requires.at_most)), c.requires.at_least))
