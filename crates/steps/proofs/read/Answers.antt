-- `steps::read` meets its contract.
use Prim.Native.Nat.{◌+◌}
use native.Mathlib.Omega.{arith}
use mir.Facts.{to_z-of_z}
use Rattle.words.specs.Fits.{fits32}
use Rattle.words.specs.Holds.{Holds, bits, arg}
use Rattle.rules.specs.Units.{unit}
use Rattle.steps.proofs.read.Goals as goal
use Rattle.steps.proofs.read.Goals.{Start}

h_holds : (c : Start) → Holds (bits c.args.h) c.args.h (unit + 1)
h_holds c = arg c.args.h c.requires.h_le tt

v_holds : (c : Start) → Holds (bits c.args.v) c.args.v (unit + 1)
v_holds c = arg c.args.v c.requires.v_le tt

pub overflow_cast-h : goal.overflow_cast-h
overflow_cast-h c = rw (h_holds c).value (fits32 c.args.h (omega (arith, c.requires.h_le)))

pub overflow_cast-v : goal.overflow_cast-v
overflow_cast-v c = rw (v_holds c).value (fits32 c.args.v (omega (arith, c.requires.v_le)))

pub returns : goal.returns
returns c =
    let start = c.before in
    rw (
      (h_holds start).value,
      (v_holds start).value,
      to_z-of_z (fits32 start.args.h (omega (arith, start.requires.h_le))),
      to_z-of_z (fits32 start.args.v (omega (arith, start.requires.v_le))),
    )
    at c.reading.ensures
