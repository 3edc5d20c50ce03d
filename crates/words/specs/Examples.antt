-- A worked example: what the machine's a * b + 5 holds, for a to 1000 and b to 2000 in size, and that it fits.
use Rattle.std.specs.Prelude.{◌+◌, ◌*◌, ◌≤◌, ℤ, pos, nat_abs, ◌+ℤ◌, ◌*ℤ◌}
use Rattle.std.specs.Int.{w64}
use Rattle.std.proofs.Common.{SFits, to_z}
use Rattle.words.specs.Holds.{Holds, bits, ◌+ʷ◌, ◌*ʷ◌, arg, lit, mul, add, add_ok}

product_holds : (a b : ℤ) → nat_abs a ≤ 1000 → nat_abs b ≤ 2000 → Holds (bits a *ʷ bits b) (a *ℤ b) 2000000
product_holds a b ha hb = mul (arg a ha tt) (arg b hb tt) tt

-- the need of the sum, as the check asks it
sum_fits : (a b : ℤ) → nat_abs a ≤ 1000 → nat_abs b ≤ 2000 → SFits w64 (to_z w64 (bits a *ʷ bits b) +ℤ to_z w64 5)
sum_fits a b ha hb = add_ok (product_holds a b ha hb) (lit 5 tt) tt

sum_holds : (a b : ℤ) → nat_abs a ≤ 1000 → nat_abs b ≤ 2000
    → Holds (bits a *ʷ bits b +ʷ 5) (a *ℤ b +ℤ pos 5) 2000005
sum_holds a b ha hb = add (product_holds a b ha hb) (lit 5 tt) tt
