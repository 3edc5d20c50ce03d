-- `numerals::fields::field` meets its contract.
use Rattle.std.proofs.Common.{arith, to_z-of_z, SFits}
use Rattle.std.specs.Int.{w32}
use Rattle.words.specs.Fits.{held64, fits32}
use Rattle.laws.specs.Lines.{most_le}
use Rattle.numerals.proofs.fields.field.Goals as goal

pub overflow_cast-result : goal.overflow_cast-result
overflow_cast-result c =
    let n = c.spelled.result in
    rw (held64 n c.spelled.type_inv) (fits32 n (omega (arith, c.spelled.ensures.1, most_le _ c.requires)))

pub returns : goal.returns
returns c =
    let n = c.spelled.result in
    let f : SFits w32 n = fits32 n (omega (arith, c.spelled.ensures.1, most_le _ c.requires)) in
    rw (held64 n c.spelled.type_inv, to_z-of_z f) c.spelled.ensures.0
