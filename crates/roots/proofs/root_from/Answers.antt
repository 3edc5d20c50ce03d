-- `roots::root_from` meets its contract.
use Rattle.std.proofs.Common.{◌≡◌, refl, ap, ◌∙◌, ℕ, zero, suc, ◌+◌, ◌*◌, ◌/◌, ◌<◌, ◌≤◌, ◌^◌, Bool, true, false, cond, ℤ, pos, nat_abs, arith, ltb-true, ltb-false, w64, of_z, to_z, to_z-of_z}
use native.Mathlib.Nat.{two-pow-succ}
use lib.Dec.{leb}
use lib.Pow.{pow_pos}
use lib.Signed.{lt_z, lt_z_yes, quot_z}
use Rattle.rules.specs.Length.{root, root_from, kept}
use Rattle.rules.specs.ManualRoot.{binary_digits}
use Rattle.laws.specs.ManualRoot.{power_digits}
use Rattle.words.specs.Fits.{held64}
use Rattle.words.specs.Holds.{Holds, lit, div, div_ok}
use Rattle.roots.specs.Trials.{Left, Begun}
use Rattle.roots.proofs.root_from.Goals as goal

-- ---- how many trials are left

digits_left : (n low power m : ℕ) → Left n low power m → binary_digits power ≡ m
digits_left n low power m l = ap binary_digits l.is ∙ power_digits m (omega (arith, l.le))

kept_le : (n low power : ℕ) → kept n low power ≤ low + power
kept_le n low power = by (leb ((low + power) * (low + power)) n)
  where
    by : (b : Bool) → cond b (low + power) low ≤ low + power
    by true = omega arith
    by false = omega arith

abbrev fewer : ℕ → ℕ
fewer zero = 0
fewer (suc m) = m

-- after one more
next : (n low power m : ℕ) → 0 < power → Left n low power m → Left n (kept n low power) (power / 2) (fewer m)
unfolding root_from
next n low power zero h l = absurd (omega (arith, l.is))
next n low power (suc m) h l =
    let e : power ≡ 2 ^ m = omega (arith, l.is, two-pow-succ m) in
    record {
      is = ap (λ p. p / 2) e;
      le = omega (arith, l.le);
      within = omega (arith, l.within, two-pow-succ m, kept_le n low power);
      makes = ap (λ p. root_from m n (kept n low p)) e ∙ l.makes;
    }

one_less : (n low power m : ℕ) → 0 < power → Left n low power m → binary_digits (power / 2) + 1 ≡ binary_digits power
one_less n low power zero h l = absurd (omega (arith, l.is))
one_less n low power (suc m) h l =
    let after = digits_left n (kept n low power) (power / 2) m (next n low power (suc m) h l) in
    omega (arith, after, digits_left n low power (suc m) l)

-- at the end
none : (n low power m : ℕ) → power ≤ 0 → Left n low power m → low ≡ root n
unfolding root_from
none n low power zero h l = l.makes
none n low power (suc m) h l = absurd (omega (arith, l.is, two-pow-succ m, pow_pos m))

-- ---- what the words hold

module _ (n : ℤ) (low power : ℕ) (b : Begun n (to_z w64 low) (to_z w64 power)) where
  power_holds : Holds power (pos (nat_abs (to_z w64 power))) (2 ^ 32)
  power_holds = record { value = b.power_is; size = omega (arith, b.left.is, b.left.within) }

  some_power : lt_z (pos 0) (to_z w64 power) ≡ true → 0 < nat_abs (to_z w64 power)
  some_power t = ltb-true 0 (nat_abs (to_z w64 power)) (rw b.power_is at t)

  half : to_z w64 (of_z w64 (quot_z (to_z w64 power) (pos 2))) ≡ pos (nat_abs (to_z w64 power) / 2)
  half = (div power_holds (lit 2 tt) (lt_z_yes tt) tt).value

  again : (k : ℤ) → k ≡ pos (kept (nat_abs n) (nat_abs (to_z w64 low)) (nat_abs (to_z w64 power)))
      → lt_z (pos 0) (to_z w64 power) ≡ true
      → Begun n k (to_z w64 (of_z w64 (quot_z (to_z w64 power) (pos 2))))
  again k e t = rw (e, half) (record {
    number = b.number;
    low_is = refl;
    power_is = refl;
    trials = fewer b.trials;
    left = next (nat_abs n) (nat_abs (to_z w64 low)) (nat_abs (to_z w64 power)) b.trials (some_power t) b.left;
  })

  less : lt_z (pos 0) (to_z w64 power) ≡ true
      → binary_digits (nat_abs (to_z w64 (of_z w64 (quot_z (to_z w64 power) (pos 2)))))
      < binary_digits (nat_abs (to_z w64 power))
  less t = rw half (omega (
    arith,
    one_less (nat_abs n) (nat_abs (to_z w64 low)) (nat_abs (to_z w64 power)) b.trials (some_power t) b.left,
  ))

  at_end : lt_z (pos 0) (to_z w64 power) ≡ false → to_z w64 low ≡ pos (root (nat_abs n))
  at_end t =
      let over = ltb-false 0 (nat_abs (to_z w64 power)) (rw b.power_is at t) in
      b.low_is
      ∙ ap pos (none (nat_abs n) (nat_abs (to_z w64 low)) (nat_abs (to_z w64 power)) b.trials over b.left)

-- ---- the answers

pub loop-power-init : goal.loop-power-init
loop-power-init c =
    rw (to_z-of_z c.ranges.n, to_z-of_z c.ranges.begun, to_z-of_z c.ranges.first) c.requires

pub kept_of-low-requires : goal.kept_of-low-requires
kept_of-low-requires c =
    let b = c.loop-power.invariant in
    record {
      number = b.number;
      low_is = b.low_is;
      power_is = b.power_is;
      within = omega (arith, b.left.is, b.left.within);
    }

pub nonzero_div-power : goal.nonzero_div-power
nonzero_div-power c = div_ok (power_holds _ _ _ c.loop-power.invariant) (lit _ tt) (lt_z_yes tt) tt

pub loop-power-smaller : goal.loop-power-smaller
loop-power-smaller c = less _ _ _ c.loop-power.invariant c.loop-power-test.true

pub loop-power-preserved : goal.loop-power-preserved
loop-power-preserved c =
    again _ _ _ c.loop-power.invariant _
    (held64 c.kept_of-low.result c.kept_of-low.type_inv ∙ c.kept_of-low.ensures) c.loop-power-test.true

pub returns : goal.returns
returns c = at_end _ _ _ c.loop-power.invariant c.loop-power-test.false ∙ ap (λ z. pos (root (nat_abs z))) (to_z-of_z c.ranges.n)
