-- `calendar::years::months_before` meets its contract.
use Rattle.std.specs.Prelude.{◌≡◌, refl, List, [], ◌∷◌, ℕ, ◌+◌, take, pos, nat_abs}
use Rattle.std.specs.List.{sum}
use Rattle.std.proofs.Common.{arith, ap, ◌∙◌, to_z-of_z}
use Rattle.std.proofs.lemmas.List.Sums.{sum_by_from}
use Rattle.rules.specs.Years.{leap, months, sum as total}
use Rattle.laws.specs.Calendar.{leap_lt, months_row, months_before_le}
use Rattle.words.specs.Fits.{held64}
use Rattle.calendar.proofs.years.months_before.Goals as goal

sum_is : (ns : List ℕ) → sum ns ≡ total ns
unfolding total
sum_is [] = refl
sum_is (n ∷ ns) =
    let more : sum (n ∷ ns) ≡ 0 + n + sum ns = sum_by_from (λ x. x) (0 + n) ns in
    omega (arith, more, sum_is ns)

pub returns : goal.returns
returns c =
    let row = simp (to_z-of_z c.ranges.year) at c.months_of.ensures in
    held64 c.sum_of.result c.sum_of.type_inv
    ∙ c.sum_of.ensures
    ∙ ap (λ ns. pos (sum (take c.args.months ns))) row
    ∙ ap pos (sum_is (take c.args.months (months (nat_abs c.args.year))))

pub sum_of-requires : goal.sum_of-requires
sum_of-requires c =
    let y = nat_abs c.args.year in
    let row_is = simp (to_z-of_z c.ranges.year) at c.months_of.ensures in
    rw (row_is, sum_is (take c.args.months (months y)), months_row y)
    (months_before_le (leap y) c.args.months (leap_lt y))
