-- The invariant of the loop of `decimals::append_digits`: what is put, with the digits left, is the whole.
use Rattle.std.specs.Prelude.{◌≡◌, ◌+◌, ◌-◌, ◌≤◌, nat_abs}
use Rattle.arrayvec.specs.ArrayVec.{array_vec_len}
use Rattle.decimals.proofs.Digits.{with_left}
use Rattle.decimals.proofs.append_digits.Given as goal

abbrev pub invariant-loop : goal.invariant-loop
invariant-loop g l =
    (l.counter ≤ l.k)
    × ((array_vec_len l.out ≡ array_vec_len l.initial.out + l.counter)
    × (with_left l.out.items (l.k - l.counter) (nat_abs l.rest) ≡ with_left l.initial.out.items l.k (nat_abs l.n)))
