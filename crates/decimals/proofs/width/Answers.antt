-- `decimals::width` meets its contract.
use Rattle.std.specs.Prelude.{◌≡◌, refl, Bool, true, false, ltb, ℕ, ◌/◌, ◌^◌, ◌≤◌, ℤ, pos, nat_abs, ◌≤ℤ◌}
use Rattle.std.proofs.Common.{sym, ap, ◌∙◌, arith, lit<, to_z, of_z, to_z-of_z, ltb-true, ltb-false}
use Rattle.std.proofs.Math.Nat.{pow-le-pow_right}
use Rattle.std.proofs.lemmas.Int.{ints}
use Rattle.std.specs.Int.{w64}
use Rattle.std.specs.Int.Signed.{quot_z, lt_z_yes}
use Rattle.integers.specs.Quotient.{abs_quot}
use Rattle.words.specs.Fits.{fits64, size64, quot_fits}
use Rattle.decimals.proofs.Digits.{width_one, width_more}
use Rattle.decimals.proofs.width.Goals as goal

-- a tenth of a number of 64 bits has at most 18 digits
at_most : (k n : ℕ) → n ≤ 2 ^ 63 → 10 ^ k ≤ n / 10 → k ≤ 17
at_most k n h l = go (ltb 17 k) refl
  where
    go : (b : Bool) → ltb 17 k ≡ b → k ≤ 17
    go true e = absurd (omega (arith, pow-le-pow_right {n = 10} (lit< tt) {i = 18} {j = k} (ltb-true 17 k e)))
    go false e = ltb-false 17 k e

-- the size of a tenth, as the word holds it
tenth_is : (n r : ℤ) → nat_abs n ≤ 2 ^ 63 → r ≡ pos (nat_abs (quot_z n (pos 10))) → to_z w64 (of_z w64 r) ≡ pos (nat_abs n / 10)
tenth_is n r h e =
    let q : r ≡ pos (nat_abs n / 10) = e ∙ ap pos (abs_quot n (pos 10)) in
    rw q (to_z-of_z (fits64 (pos (nat_abs n / 10)) (omega arith)))

pub returns-in-Some : goal.returns-in-Some
returns-in-Some c =
    let n = c.args.n in
    let s = size64 n c.ranges.n in
    let t = quot_fits n (pos 10) c.ranges.n (lt_z_yes tt) in
    let is = tenth_is n c.abs.result s (rw (to_z-of_z c.ranges.n, to_z-of_z t) at c.abs.ensures.value) in
    let l = rw is at c.in-Some.ensures.power_le in
    let m = rw is at c.in-Some.ensures.next_power_gt in
    sym (width_more c.in-Some.k (nat_abs n) (at_most c.in-Some.k (nat_abs n) s l) l m)

pub returns-in-None : goal.returns-in-None
returns-in-None c =
    let n = c.args.n in
    let s = size64 n c.ranges.n in
    let t = quot_fits n (pos 10) c.ranges.n (lt_z_yes tt) in
    let is = tenth_is n c.abs.result s (rw (to_z-of_z c.ranges.n, to_z-of_z t) at c.abs.ensures.value) in
    let l : pos (nat_abs n / 10) ≤ℤ pos 0 = rw is at c.in-None.ensures.none in
    sym (width_one (nat_abs n) (omega (arith, ints, l)))
