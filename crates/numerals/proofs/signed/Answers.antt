-- `numerals::signed` meets its contract.
use Rattle.std.specs.Prelude.{◌≡◌, nat_abs}
use Rattle.std.proofs.Common.{refl, ap, arith}
use Rattle.words.specs.Fits.{held64}
use Rattle.rules.specs.Numerals.{unsigned, signed}
use Rattle.numerals.specs.Digits.{all_le}
use Rattle.numerals.proofs.Numbers.{signed_size}
use Rattle.numerals.proofs.signed.Goals as goal

pub with_sign-requires : goal.with_sign-requires
with_sign-requires c =
    let told = rw c.unsigned.ensures at c.spelled.ensures in
    rw (held64 c.spelled.result c.spelled.type_inv, told.0)
    (all_le (unsigned c.args.s.now) c.requires (omega (arith, ap nat_abs told.0, told.1)))

pub returns : goal.returns
unfolding signed
returns c =
    let told = rw c.unsigned.ensures at c.spelled.ensures in
    let is : c.with_sign.result ≡ signed c.args.s.now = rw (held64 c.spelled.result c.spelled.type_inv, told.0) at c.with_sign.ensures in
    rw (held64 c.with_sign.result c.with_sign.type_inv, is)
    (refl, omega (arith, signed_size c.args.s.now, ap nat_abs told.0, told.1))
