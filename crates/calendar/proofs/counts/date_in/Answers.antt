-- `calendar::counts::date_in` meets its contract.
use Rattle.std.specs.Prelude.{◌≡◌, refl, List, true, false, ℕ, ◌+◌, ◌≤◌, ◌<◌, take, get_or, ℤ, pos, nat_abs, ◌+ℤ◌, ◌^◌}
use Rattle.std.proofs.Common.{arith, sym, ap, ◌∙◌, SFits, of_z, to_z, to_z-of_z, ltb-true, ltb-false}
use Rattle.std.proofs.lemmas.Int.{to_z_pos}
use native.Mathlib.Numerals.{add-one}
use Rattle.std.specs.Int.{w32, w64}
use Rattle.std.specs.Int.Signed.{lt_z, mag}
use Rattle.words.specs.Fits.{fits32, held64}
use Rattle.words.specs.Holds.{Holds, bits, sub_nat}
use Rattle.rules.specs.Years.{leap, months, sum}
use Rattle.laws.specs.Rows.{sum_take_suc}
use Rattle.laws.specs.Calendar.{leap_lt, months_row, row_sum, months_le}
use Rattle.laws.specs.DayCounts.{date}
use Rattle.laws.specs.FindingDates.{date_in, date_in_row, row_whole}
use Rattle.calendar.proofs.counts.date_in.Goals as goal

-- ---- a small number in 32 bits, and one more

small : (n : ℕ) → n ≤ 2099 → SFits w32 (pos n)
small n h = fits32 (pos n) (omega arith)

more_fits : (n : ℕ) → n ≤ 366 → SFits w32 (pos 1 +ℤ to_z w32 n)
more_fits n h = rw (to_z_pos w32 n (omega arith)) (small (1 + n) (omega arith))

more : (n : ℕ) → n ≤ 366 → to_z w32 (of_z w32 (pos 1 +ℤ to_z w32 n)) ≡ pos (1 + n)
more n h = to_z-of_z (more_fits n h) ∙ rw (to_z_pos w32 n (omega arith))

-- ---- a year's row

year_le : (y : ℕ) → sum (months y) ≤ 366
year_le y = rw (months_row y) (omega (arith, row_sum (leap y) (leap_lt y), leap_lt y))

year_whole : (y : ℕ) → sum (take 12 (months y)) ≡ sum (months y)
year_whole y = rw (months_row y) (row_whole (leap y) (leap_lt y))

month_in : (y k left days : ℕ) → left < get_or (months y) k 0 → sum (take k (months y)) + left ≡ days
    → date_in y days ≡ date y (1 + k) (1 + left)
month_in y k left days h e =
    date_in_row y (leap y) k left days refl (rw (months_row y) at h) (rw (months_row y) at e)

length_is : (y k : ℕ) (r : ℤ) (items : List ℕ) → mag r < 2 ^ 63 → r ≡ pos (get_or items k 0) → items ≡ months y
    → to_z w64 (of_z w64 r) ≡ pos (get_or (months y) k 0)
length_is y k r items f e h = held64 r f ∙ e ∙ ap (λ ns. pos (get_or ns k 0)) h

-- ---- what is known in the loop

-- of the year y: k months are passed
record Passed (y days k left : ℕ) (rest : ℤ) (items : List ℕ) : Type 0 where
  pub items_are : items ≡ months y
  pub rest_is : rest ≡ pos left
  pub whole : sum (take k (months y)) + left ≡ days
  pub left_le : left ≤ 366

passed : (y days k : ℕ) (rest year : ℤ) (items : List ℕ) → SFits w64 year → nat_abs year ≡ y
    → items ≡ months (nat_abs (to_z w64 (of_z w64 year)))
    → rest ≡ pos (nat_abs rest) → sum (take k items) + nat_abs rest ≡ days → days < sum (months y)
    → Passed y days k (nat_abs rest) rest items
passed y days k rest year items f g e r w l =
    let m : items ≡ months y = e ∙ ap (λ z. months (nat_abs z)) (to_z-of_z f) ∙ ap months g in
    let v : sum (take k (months y)) + nat_abs rest ≡ days = sym (ap (λ ns. sum (take k ns) + nat_abs rest) m) ∙ w in
    record { items_are = m; rest_is = r; whole = v; left_le = omega (arith, year_le y) }

pub loop-before-init : goal.loop-before-init
unfolding sum
loop-before-init c = rw (to_z-of_z c.ranges.days) (record { rest_is = c.requires.days_is; whole = omega arith })

module _ (c : goal.Then-rest-length) where
  abbrev y : ℕ
  y = nat_abs c.args.year

  abbrev left : ℕ
  left = nat_abs (to_z w64 c.loop-before.rest-bits)

  known : Passed y (nat_abs c.args.days) c.loop-before.before left (to_z w64 c.loop-before.rest-bits)
      c.months_of-length-items.result.now
  known =
      passed y (nat_abs c.args.days) c.loop-before.before (to_z w64 c.loop-before.rest-bits) c.args.year
      c.months_of-length-items.result.now c.ranges.year refl c.months_of-length-items.ensures
      c.loop-before.invariant.rest_is (rw (to_z-of_z c.ranges.days) at c.loop-before.invariant.whole)
      c.requires.days_lt

pub overflow_cast-result-then-rest-length-2 : goal.overflow_cast-result-then-rest-length-2
overflow_cast-result-then-rest-length-2 c = rw ((known c).rest_is) (small (left c) (omega (arith, (known c).left_le)))

pub overflow_add-result-then-rest-length : goal.overflow_add-result-then-rest-length
overflow_add-result-then-rest-length c = rw ((known c).rest_is) (more_fits (left c) (known c).left_le)

pub returns-then-rest-length : goal.returns-then-rest-length
returns-then-rest-length c =
    let k = c.loop-before.before in
    let n = left c in
    let year_is : to_z w32 (of_z w32 (to_z w64 (of_z w64 c.args.year))) ≡ pos (y c) =
    ap (λ z. to_z w32 (of_z w32 z)) (to_z-of_z c.ranges.year ∙ c.requires.in_span.is)
    ∙ to_z-of_z (small (y c) c.requires.in_span.at_most) in
    let month_is : to_z w32 (of_z w32 (pos 1 +ℤ to_z w32 k)) ≡ pos (1 + k) = more k (omega arith) in
    let day_is : to_z w32 (of_z w32 (pos 1 +ℤ to_z w32 (of_z w32 (to_z w64 c.loop-before.rest-bits)))) ≡ pos (1 + n) =
    ap (λ z. to_z w32 (of_z w32 (pos 1 +ℤ to_z w32 (of_z w32 z)))) (known c).rest_is ∙ more n (known c).left_le in
    let t : lt_z (pos n) (pos (get_or (months (y c)) k 0)) ≡ true =
    rw (
      (known c).rest_is,
      length_is (y c) k _ _ c.from-length.type_inv c.from-length.ensures (known c).items_are,
    ) at c.if-rest-length.true in
    rw (year_is, month_is, day_is) (sym (month_in (y c) k n (nat_abs c.args.days) (ltb-true _ _ t) (known c).whole))

pub loop-before-preserved : goal.loop-before-preserved
loop-before-preserved c =
    let k = c.loop-before.before in
    let year = nat_abs c.args.year in
    let n = nat_abs (to_z w64 c.loop-before.rest-bits) in
    let now =
    passed year (nat_abs c.args.days) k (to_z w64 c.loop-before.rest-bits) c.args.year
    c.months_of-length-items.result.now c.ranges.year refl c.months_of-length-items.ensures
    c.loop-before.invariant.rest_is (rw (to_z-of_z c.ranges.days) at c.loop-before.invariant.whole)
    c.requires.days_lt in
    let items = c.months_of-length-items.result.now in
    let length = length_is year k _ _ c.from-length.type_inv c.from-length.ensures now.items_are in
    let t : lt_z (pos n) (pos (get_or (months year) k 0)) ≡ false = rw (now.rest_is, length) at c.if-rest-length.false in
    let le : get_or (months year) k 0 ≤ n = ltb-false _ _ t in
    let rest : Holds (c.loop-before.rest-bits) (pos n) 366 = record { value = now.rest_is; size = now.left_le } in
    let month : Holds (bits c.from-length.result) (pos (get_or (months year) k 0)) 31 =
    record { value = length; size = months_le year k (omega arith) } in
    let sums : sum (take (k + 1) items) ≡ sum (take k (months year)) + get_or (months year) k 0 =
    ap (λ ns. sum (take (k + 1) ns)) now.items_are ∙ rw (add-one) (sum_take_suc (months year) k) in
    rw ((sub_nat rest month le tt).value, to_z-of_z c.ranges.days)
    (record { rest_is = refl; whole = omega (arith, sums, now.whole) })

pub unreachable-requires : goal.unreachable-requires
unreachable-requires c =
    let year = nat_abs c.args.year in
    let n = nat_abs (to_z w64 c.loop-before.rest-bits) in
    let now =
    passed year (nat_abs c.args.days) c.loop-before.before (to_z w64 c.loop-before.rest-bits) c.args.year
    c.months_of-length-items.result.now c.ranges.year refl c.months_of-length-items.ensures
    c.loop-before.invariant.rest_is (rw (to_z-of_z c.ranges.days) at c.loop-before.invariant.whole)
    c.requires.days_lt in
    let all : c.loop-before.before ≡ 12 = omega arith in
    let whole : sum (take 12 (months year)) + n ≡ nat_abs c.args.days =
    sym (ap (λ k. sum (take k (months year)) + n) all) ∙ now.whole in
    absurd (omega (arith, whole, year_whole year, c.requires.days_lt))
