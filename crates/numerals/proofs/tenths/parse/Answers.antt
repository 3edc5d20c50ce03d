-- `numerals::tenths::parse` meets its contract.
use Rattle.std.specs.Prelude.{◌≡◌, true, false, Bool, cond, List, ℕ, ◌≤◌, ℤ, pos, neg_ℤ, nat_abs}
use Rattle.std.proofs.Common.{sym, ◌∙◌, arith, rules}
use Rattle.integers.specs.Size.{abs_neg}
use Rattle.rules.specs.Numerals.{negative, unsigned}
use Rattle.words.specs.Fits.{held64}
use Rattle.numerals.specs.Tenths.{size_of, of_tenths, tenths_of, tenths_in}
use Rattle.numerals.specs.TenthsParts.{size_le}
use Rattle.numerals.proofs.tenths.parse.Goals as goal

tenths_le : (bs : List ℕ) → of_tenths bs ≡ true → nat_abs (tenths_of bs) ≤ 99999
unfolding of_tenths tenths_of
tenths_le bs e = go (negative bs)
  where
    size : ℤ
    size = pos (size_of (unsigned bs))

    go : (b : Bool) → nat_abs (cond b (neg_ℤ size) size) ≤ 99999
    go true = omega (arith, abs_neg size, size_le (unsigned bs) e)
    go false = size_le (unsigned bs) e

pub returns-then-of_tenths : goal.returns-then-of_tenths
unfolding tenths_in
returns-then-of_tenths c =
    let e = sym c.of_tenths.ensures ∙ c.if-of_tenths.true in
    let z = held64 c.tenths_of.result c.tenths_of.type_inv ∙ c.tenths_of.ensures in
    record { value = rw (e, z); small = rw z (tenths_le c.args.s.now e) }

pub returns-else-of_tenths : goal.returns-else-of_tenths
unfolding tenths_in
returns-else-of_tenths c =
    let e = sym c.of_tenths.ensures ∙ c.if-of_tenths.false in
    record { value = rw e; small = search rules }
