-- Not above is not below, the other way round.
use Rattle.std.specs.Prelude.{◌≡◌, refl, not, ℤ, pos, negsuc}
use Rattle.std.proofs.Common.{arith}
use Rattle.std.specs.Int.Signed.{lt_z, le_z}

pub le_is : (a b : ℤ) → le_z a b ≡ not (lt_z b a)
le_is (pos a) (pos b) = grind arith
le_is (pos a) (negsuc b) = refl
le_is (negsuc a) (pos b) = refl
le_is (negsuc a) (negsuc b) = grind arith
