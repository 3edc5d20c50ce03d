-- `sexagesimal::sign_of` meets its contract.
use Rattle.std.proofs.Common.{to_z-of_z}
use Rattle.sexagesimal.specs.Sexagesimal.{sign_of}
use Rattle.sexagesimal.proofs.sign_of.Goals as goal

pub returns-then-n-lt0 : goal.returns-then-n-lt0
unfolding sign_of
returns-then-n-lt0 c = let t = rw (to_z-of_z c.ranges.n) at c.if-n-lt0.true in simp t

pub returns-else-n-lt0 : goal.returns-else-n-lt0
unfolding sign_of
returns-else-n-lt0 c = let t = rw (to_z-of_z c.ranges.n) at c.if-n-lt0.false in simp t
