-- The invariant and the measure of the loop of `decimals::put_digits`: what is put, with the digits left, is the whole.
use Rattle.std.specs.Prelude.{◌≡◌, ◌≤◌, nat_abs, length}
use Rattle.laws.specs.PuttingBytes.{written}
use Rattle.decimals.proofs.put_digits.Given as goal

abbrev pub invariant-loop-i : goal.invariant-loop-i
invariant-loop-i l =
    (l.i ≤ l.k)
    × ((length l.out ≡ length l.initial.out)
    × (written l.i (nat_abs l.rest) l.at l.out ≡ written l.k (nat_abs l.n) l.at l.initial.out))

abbrev pub decreases-loop-i : goal.decreases-loop-i
decreases-loop-i l = l.i
