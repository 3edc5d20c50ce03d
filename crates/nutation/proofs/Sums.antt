-- Sums of the products of the first terms, and one product more.
use Rattle.std.specs.Prelude.{◌≡◌, ℕ, ◌+◌, ◌≤◌, ◌<◌, ◌^◌, map, ℤ, nat_abs, ◌+ℤ◌, FitsSigned}
use Rattle.std.proofs.Common.{ap, sym, ◌∙◌, w64, to_z}
use native.Mathlib.Numerals.{add-one}
use lib.ListN.{take}
use Rattle.rules.specs.declared.Term.{Term}
use Rattle.rules.specs.Nutation.{terms, total}
use Rattle.laws.specs.Nutation.{SumLimits, total_next}
use Rattle.words.specs.Holds.{Holds, bits, ◌+ʷ◌, got, add_to, add_to_ok}
use Rattle.nutation.specs.Terms.{no_term, term_count, term_at}

-- the sum of the first k products
abbrev pub sum_to : (Term → ℤ) → ℕ → ℤ
sum_to product k = total (map product (take k terms))

-- the sum so far, and the product of the term k, as the words have them
module _ {product : Term → ℤ} {most : ℕ} (limits : SumLimits terms product most) (k : ℕ) (below : k < term_count)
    (sum : ℕ) (one : ℤ) (sum_is : to_z w64 sum ≡ sum_to product k) (one_is : one ≡ product (term_at k))
    (one_le : nat_abs (product (term_at k)) ≤ 2 ^ 62) where
  sum_held : Holds sum (sum_to product k) (2 ^ 62)
  sum_held = record { value = sum_is; size = limits.partial_le k }

  one_held : Holds (bits one) (product (term_at k)) (2 ^ 62)
  one_held = got one_is one_le tt

  next : sum_to product k +ℤ product (term_at k) ≡ sum_to product (k + 1)
  next = sym (total_next product terms k no_term below) ∙ ap (sum_to product) (sym (add-one k))

  more_le : nat_abs (sum_to product k +ℤ product (term_at k)) ≤ 2 ^ 62
  more_le = rw next (limits.partial_le (k + 1))

  pub more_fits : FitsSigned w64 (to_z w64 sum +ℤ to_z w64 (bits one))
  more_fits = add_to_ok sum_held one_held (2 ^ 62) more_le tt

  pub more_is : to_z w64 (sum +ʷ bits one) ≡ sum_to product (k + 1)
  more_is = (add_to sum_held one_held (2 ^ 62) more_le tt).value ∙ next
