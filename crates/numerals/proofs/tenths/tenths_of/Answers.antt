-- `numerals::tenths::tenths_of` meets its contract.
use Rattle.std.proofs.Common.{ap, ◌∙◌, arith}
use Rattle.words.specs.Fits.{held64}
use Rattle.rules.specs.Numerals.{unsigned}
use Rattle.numerals.specs.Tenths.{of_size, of_tenths, tenths_of}
use Rattle.numerals.specs.TenthsParts.{size_le}
use Rattle.numerals.proofs.tenths.tenths_of.Goals as goal

pub size_of-requires : goal.size_of-requires
unfolding of_tenths
size_of-requires c = ap of_size c.unsigned.ensures ∙ c.requires

pub with_sign-requires : goal.with_sign-requires
unfolding of_tenths
with_sign-requires c =
    let told = rw c.unsigned.ensures at c.size_of.ensures in
    rw (held64 c.size_of.result c.size_of.type_inv, told) (omega (arith, size_le (unsigned c.args.s.now) c.requires))

pub returns : goal.returns
unfolding tenths_of
returns c =
    let told = rw c.unsigned.ensures at c.size_of.ensures in
    held64 c.with_sign.result c.with_sign.type_inv
    ∙ rw (held64 c.size_of.result c.size_of.type_inv, told) at c.with_sign.ensures
