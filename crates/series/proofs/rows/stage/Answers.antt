-- `series::rows::stage` meets its contract.
use Prim.Native.Nat.{◌*◌}
use native.Mathlib.Omega.{arith}
use lib.Dec.{lt→ltb, ltb→lt}
use lib.IntN.{ℤ, pos, negsuc, nat_abs, ◌*ℤ◌}
use lib.Signed.{◌<ℤ◌}
use Rattle.integers.specs.Size.{abs_mul}
use Rattle.rules.specs.Units.{unit}
use Rattle.rules.specs.Rounding.{rnd}
use Rattle.rules.specs.Circle as rule
use Rattle.laws.specs.Rounding.{rnd_under}
use Rattle.words.specs.Holds.{Holds, bits, ◌*ʷ◌, got, lit, sub, sub_ok, mul, mul_ok}
use Rattle.series.proofs.Stages.{w_holds, p_holds, k_holds, k_above}
use Rattle.series.proofs.rows.stage.Goals as goal

product_holds : (c : goal.Start)
    → Holds (bits c.args.w *ʷ bits c.args.p) (c.args.w *ℤ c.args.p) (unit * unit)
product_holds c = mul (w_holds c.requires) (p_holds c.requires) tt

divisor_holds : (c : goal.Start) → Holds (unit *ʷ bits c.args.k) (pos unit *ℤ c.args.k) (unit * 132)
divisor_holds c = mul (lit unit tt) (k_holds c.requires) tt

divisor_pos : (k : ℤ) → pos 0 <ℤ k → pos 0 <ℤ (pos unit *ℤ k)
divisor_pos (pos n) h = record { lt = lt→ltb 0 (unit * n) (omega (arith, ltb→lt 0 n h.lt)) }
divisor_pos (negsuc n) h = absurd h.lt

pub overflow_mul-w : goal.overflow_mul-w
overflow_mul-w c = mul_ok (w_holds c.requires) (p_holds c.requires) tt

pub overflow_mul-k : goal.overflow_mul-k
overflow_mul-k c = mul_ok (lit unit tt) (k_holds c.requires) tt

pub rnd_short_quotient-requires : goal.rnd_short_quotient-requires
rnd_short_quotient-requires c =
    rw ((product_holds c).value, (divisor_holds c).value) (record {
      a_bound = omega (arith, (product_holds c).size);
      pos_bound = divisor_pos c.args.k (k_above c.requires);
      b_bound = omega (arith, (divisor_holds c).size);
    })

quotient_holds : (c : goal.After-rnd_short_quotient)
    → Holds (bits c.rnd_short_quotient.result)
    (rnd (c.before.args.w *ℤ c.before.args.p) (unit * nat_abs c.before.args.k)) unit
quotient_holds c =
    let b = c.before in
    let size = abs_mul (pos unit) b.args.k in
    got (rw ((product_holds b).value, (divisor_holds b).value, size) at c.rnd_short_quotient.ensures)
    (rnd_under (b.args.w *ℤ b.args.p) (unit * nat_abs b.args.k) unit (omega (arith, b.requires.k_pos))
    (omega (arith, (product_holds b).size, b.requires.k_pos))) tt

pub overflow_sub-result : goal.overflow_sub-result
overflow_sub-result c = sub_ok (lit unit tt) (quotient_holds c) tt

pub returns : goal.returns
unfolding rule.stage
returns c = (sub (lit unit tt) (quotient_holds c) tt).value
