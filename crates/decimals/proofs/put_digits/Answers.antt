-- `decimals::put_digits` meets its contract: what is done, with the digits left, is the whole.
use Rattle.std.specs.Prelude.{◌+◌, ◌-◌, ◌%◌, ℤ, pos, nat_abs}
use Rattle.std.proofs.Common.{◌∙◌, arith, length-set, to_z, to_z-of_z, SFits}
use Rattle.std.proofs.Math.Facts.{sfits_to_z}
use Rattle.std.specs.Int.{w64}
use Rattle.std.specs.Int.Signed.{quot_z, lt_z_yes}
use Rattle.integers.specs.Quotient.{abs_quot}
use Rattle.words.specs.Fits.{quot_fits}
use Rattle.laws.specs.PuttingBytes.{written_step, written_end, written_is}
use Rattle.decimals.proofs.put_digits.Goals as goal

pub loop-i-preserved : goal.loop-i-preserved
loop-i-preserved c =
    let l = c.loop-i in
    let r : ℤ = to_z w64 l.rest-bits in
    let f : SFits w64 (quot_z r (pos 10)) = quot_fits r (pos 10) (sfits_to_z l.auto.rest-fits) (lt_z_yes tt) in
    rw (to_z-of_z f, abs_quot r (pos 10), c.last_digit.ensures) (
      omega arith,
      (
        length-set l.out (c.args.at + (l.i - 1)) (48 + nat_abs r % 10) ∙ l.invariant.1.0,
        written_step l.i (nat_abs r) c.args.at l.out _ (omega arith) l.invariant.1.1,
      ),
    )

pub returns : goal.returns
returns c =
    let l = c.loop-i in
    written_end l.i (nat_abs (to_z w64 l.rest-bits)) c.args.at l.out _ (omega arith) l.invariant.1.1
    ∙ rw (to_z-of_z c.ranges.n) (written_is c.args.k (nat_abs c.args.n) c.args.at c.args.out.now c.requires)
