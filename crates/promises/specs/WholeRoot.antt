-- Change C-15 in full: the whole root worked as the service manual does, the first trial taken from the number of
-- leading zeros; that nothing it answers changes; and how many powers of two are tried. The numbers go to the largest
-- i64.
use Rattle.std.specs.Prelude.{◌≡◌, refl, ℕ, suc, ◌+◌, ◌*◌, ◌-◌, ◌/◌, ◌≤◌, ◌<◌, ◌^◌, pos, nat_abs}
use Rattle.std.proofs.Common.{sym, ap, ◌∙◌, arith}
use Rattle.std.specs.Int.Count.{count_leading_zeros}
use seplogic.Ra.Ura.{Ura}
use base.Logic.{SProp, id⊢}
use prog.Memory.{Memory}
use prog.Routine.{Routine}
use types.Logic.{Logic}
use contract.Monad.{Fun}
use Rattle.rules.specs.Length.{root, root_from, kept}
use Rattle.rules.specs.ManualRoot.{binary_digits, trials, first_power, manual_root}
use Rattle.laws.specs.Root.{root_root}
use Rattle.laws.specs.ManualRoot as law
use Rattle.promises.specs.OfContracts.{Tells, so_told}
use Rattle.roots.specs.contracts.whole_root as whole_root
use Rattle.roots.specs.contracts.length_root as length_root
use Rattle.roots.specs.contracts.near_root as near_root

-- ---- "Work it as the manual does, the first trial taken from the number of leading zeros."

-- n has 64 less its leading zeros as binary digits, its root half as many, rounded up; the first power is its highest
pub first_from_leading_zeros : (n : ℕ) → first_power n ≡ 2 ^ ((64 - count_leading_zeros 64 n + 1) / 2) / 2
unfolding first_power trials binary_digits
first_from_leading_zeros n = refl

pub first_is_highest : (n : ℕ) → 0 < n → n < 2 ^ 63 → (first_power n ≤ root n) × (root n < 2 * first_power n)
first_is_highest n p h = law.first_is_highest n p (omega arith)

-- from it down to 1: with m + 1 trials left 2^m is tried, and then m are left
pub tried_in_turn : (n low m : ℕ) → root_from (suc m) n low ≡ root_from m n (kept n low (2 ^ m))
unfolding root_from
tried_in_turn n low m = refl

pub none_left : (n low : ℕ) → root_from 0 n low ≡ low
unfolding root_from
none_left n low = refl

-- as many as the root has binary digits
pub as_many_trials : (n : ℕ) → n < 2 ^ 63 → trials n ≡ binary_digits (root n)
as_many_trials n h = sym (law.root_digits n (omega arith))

-- the root of 0 is 0, with no trial
pub no_trial_of_nought : (trials 0 ≡ 0) × (manual_root 0 ≡ 0)
unfolding manual_root root_from trials binary_digits count_leading_zeros
no_trial_of_nought = (refl, refl)

-- ---- "Nothing that it answers changes."

pub same_root : (n : ℕ) → n < 2 ^ 63 → manual_root n ≡ root n
same_root n h = law.manual_root_lem n (omega arith)

-- which is the largest number whose square is at most n
pub largest : (n : ℕ) → n < 2 ^ 63 → (root n * root n ≤ n) × (n < (root n + 1) * (root n + 1))
largest n h = let r = root_root n (omega arith) in (r.below, r.above)

-- the functions answer it
module _ {M : Type 1} {𝓤 : Ura M} (𝓛 : Logic 𝓤) (mem : Memory → SProp 𝓤) (run : Routine → Fun 𝓤) where
  pub whole_root_answers : Tells 𝓤 whole_root.ended (whole_root.clauses 𝓛 mem run)
      (λ κs passed a x. a ≡ pos (root (nat_abs passed.0)))
  whole_root_answers κs passed g a x = id⊢ 𝓤 _

  pub whole_root_as_the_manual : Tells 𝓤 whole_root.ended (whole_root.clauses 𝓛 mem run)
      (λ κs passed a x. nat_abs passed.0 < 2 ^ 63 → a ≡ pos (manual_root (nat_abs passed.0)))
  whole_root_as_the_manual κs passed g a x =
      so_told 𝓤 (whole_root_answers κs passed g a x) (λ e h. e ∙ ap pos (sym (same_root (nat_abs passed.0) h)))

  -- the short cuts too
  pub length_root_answers : Tells 𝓤 length_root.ended (length_root.clauses 𝓛 mem run)
      (λ κs passed a x. a ≡ pos (root (nat_abs passed.0)))
  length_root_answers κs passed g a x = id⊢ 𝓤 _

  pub near_root_answers : Tells 𝓤 near_root.ended (near_root.clauses 𝓛 mem run)
      (λ κs passed a x. a ≡ pos (root (nat_abs passed.0)))
  near_root_answers κs passed g a x = id⊢ 𝓤 _
