-- `roots::first_power` meets its contract: each local holds the number of the rule's that has its name.
use Prim.Native.Nat.{ℕ, ◌+◌, ◌*◌, ◌/◌, ◌%◌, ◌≤◌, ◌<◌, ◌^◌}
use mathlib.Core.Path.{◌≡◌, ap, ◌∙◌}
use native.Mathlib.Nat.{mod-eq_of_lt, one-mul}
use native.Mathlib.Omega.{arith}
use lib.Count.{count_leading_zeros, leading_le}
use lib.IntN.{pos, nat_abs}
use lib.Pow.{pow_mono}
use lib.Signed.{lt_z_yes, quot_z}
use mir.Syntax.{w64}
use mir.Val.{to_z, SFits}
use mir.Facts.{to_z-of_z}
use Rattle.rules.specs.ManualRoot.{binary_digits, trials, first_power}
use Rattle.laws.specs.ManualRoot.{trials_le}
use Rattle.words.specs.Fits.{fits64}
use Rattle.words.specs.Holds.{Holds, bits, ◌+ʷ◌, ◌-ʷ◌, ◌/ʷ◌, lit, nat, add, sub_nat, div}
use Rattle.roots.proofs.first_power.Goals as goal

-- ---- leading zeros and binary digits of any word

zeros_fit : (m : ℕ) → SFits w64 (pos (count_leading_zeros 64 m))
zeros_fit m = fits64 (pos (count_leading_zeros 64 m)) (omega (arith, leading_le 64 m))

zeros_hold : (m : ℕ) → Holds (count_leading_zeros 64 m) (pos (count_leading_zeros 64 m)) 64
zeros_hold m = nat (count_leading_zeros 64 m) (leading_le 64 m) tt

digits_hold : (m : ℕ) → Holds (64 -ʷ count_leading_zeros 64 m) (pos (binary_digits m)) 64
unfolding binary_digits
digits_hold m = sub_nat (lit 64 tt) (zeros_hold m) (leading_le 64 m) tt

sum_holds : (m : ℕ) → Holds (64 -ʷ count_leading_zeros 64 m +ʷ 1) (pos (binary_digits m + 1)) 65
sum_holds m = add (digits_hold m) (lit 1 tt) tt

root_digits : (m : ℕ) → (64 -ʷ count_leading_zeros 64 m +ʷ 1) /ʷ 2 ≡ trials m
unfolding trials
root_digits m = ap (λ z. bits (quot_z z (pos 2))) (sum_holds m).value

shift_fits : (m : ℕ) → ((64 -ʷ count_leading_zeros 64 m +ʷ 1) /ʷ 2) < 64
shift_fits m = omega (arith, root_digits m, trials_le m)

shifted : (k m : ℕ) → k ≡ m → m ≤ 32 → Holds (1 * 2 ^ k % 2 ^ 64) (pos (2 ^ m)) (2 ^ 32)
shifted k m e h =
    let le : 2 ^ m ≤ 2 ^ 32 = pow_mono h in
    let is : 1 * 2 ^ k % 2 ^ 64 ≡ 2 ^ m =
    ap (λ i. 1 * 2 ^ i % 2 ^ 64) e ∙ ap (λ p. p % 2 ^ 64) (one-mul (2 ^ m)) ∙ mod-eq_of_lt (omega arith) in
    rw is (nat (2 ^ m) le tt)

power_holds : (m : ℕ) → Holds (1 * 2 ^ ((64 -ʷ count_leading_zeros 64 m +ʷ 1) /ʷ 2) % 2 ^ 64) (pos (2 ^ trials m)) (2 ^ 32)
power_holds m = shifted ((64 -ʷ count_leading_zeros 64 m +ʷ 1) /ʷ 2) (trials m) (root_digits m) (trials_le m)

pub returns : goal.returns
unfolding first_power
returns c =
    let word = ap nat_abs (to_z-of_z c.ranges.n) in
    rw c.from-digits.ensures (div (power_holds (nat_abs (to_z w64 (bits c.args.n)))) (lit 2 tt) (lt_z_yes tt) tt).value
    ∙ ap (λ m. pos (2 ^ trials m / 2)) word
