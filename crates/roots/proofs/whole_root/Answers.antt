-- `roots::whole_root` meets its contract: it begins with as many trials as the root has binary digits.
use Prim.Native.Nat.{ℕ, ◌<◌, ◌≤◌, ◌^◌}
use mathlib.Core.Path.{refl}
use native.Mathlib.Omega.{arith}
use lib.IntN.{nat_abs}
use lib.Pow.{pow_mono}
use mir.Facts.{to_z-of_z}
use Rattle.rules.specs.ManualRoot.{trials, first_power, manual_root}
use Rattle.laws.specs.ManualRoot.{trials_le, manual_root_lem}
use Rattle.words.specs.Fits.{size64_lt, held64}
use Rattle.roots.specs.Trials.{Left}
use Rattle.roots.proofs.whole_root.Goals as goal

all_left : (n : ℕ) → n < 2 ^ 63 → Left n 0 (first_power n) (trials n)
unfolding first_power manual_root
all_left n h =
    let le : 2 ^ trials n ≤ 2 ^ 32 = pow_mono (trials_le n) in
    record { is = refl; le = trials_le n; within = omega arith; makes = manual_root_lem n (omega arith) }

pub root_from-requires : goal.root_from-requires
root_from-requires c =
    let b = c.before in
    let first = rw (to_z-of_z b.ranges.n) at c.first_power.ensures in
    rw (to_z-of_z b.ranges.n, held64 c.first_power.result c.first_power.type_inv, first) (record {
      number = b.requires;
      low_is = refl;
      power_is = refl;
      trials = trials (nat_abs b.args.n);
      left = all_left (nat_abs b.args.n) (size64_lt b.args.n b.ranges.n b.requires);
    })
