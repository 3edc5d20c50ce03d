-- `decimals::append_digits` meets its contract: the digits are put from the last on, and turned round at the end.
use Rattle.std.specs.Prelude.{◌≡◌, refl, List, [], ◌++◌, ℕ, ◌+◌, ◌-◌, ℤ, pos, nat_abs, length, take, drop, reverse}
use Rattle.std.proofs.Common.{sym, ap, ◌∙◌, arith, append-nil, to_z, to_z-of_z, SFits}
use Rattle.std.proofs.Math.Facts.{sfits_to_z}
use Rattle.std.proofs.Math.Seq.{take-append_seam, drop-append_seam, take-length, drop-length}
use Rattle.std.proofs.lemmas.List.{reverse-reverse, length-append, length-reverse}
use Rattle.std.specs.Int.{w64}
use Rattle.std.specs.Int.Signed.{quot_z, lt_z_yes}
use Rattle.std.specs.List.{refill}
use Rattle.integers.specs.Quotient.{abs_quot}
use Rattle.words.specs.Fits.{quot_fits}
use Rattle.laws.specs.Decimal.{last_digits}
use Rattle.decimals.proofs.Digits.{left_none, left_more}
use Rattle.decimals.proofs.append_digits.Goals as goal

pub loop-preserved : goal.loop-preserved
loop-preserved g c =
    let r : ℤ = to_z w64 c.loop.rest-bits in
    let f : SFits w64 (quot_z r (pos 10)) = quot_fits r (pos 10) (sfits_to_z c.loop.auto.rest-fits) (lt_z_yes tt) in
    let k = c.args.k in
    let i = c.loop.counter in
    let q : k - (i + 1) ≡ (k - i) - 1 = omega arith in (
      omega arith,
      (
        omega (arith, c.push.ensures.len, c.loop.invariant.1.0),
        rw (to_z-of_z f, abs_quot r (pos 10), q, c.push.ensures.items, c.last_digit.ensures)
            (left_more c.loop.out.items (k - i) (nat_abs r) (omega arith))
            ∙ c.loop.invariant.1.1,
      ),
    )

-- as many elements put in place of all are those
full : (xs ws : List ℕ) → length ws ≡ length xs → refill (length xs) xs ws ≡ ws
full xs ws l =
    let d : drop (length ws) xs ≡ [] = rw l (drop-length xs) in
    rw (d, append-nil ws, sym l) (take-length ws)

-- what stands after the first f elements, turned round
turned : (old there s r : List ℕ) (f : ℕ) → f ≡ length old → s ≡ old ++ there → r ≡ reverse (take (length s - f) (drop f s))
    → refill (length s) s (take f s ++ (r ++ drop (length s - f) (drop f s))) ≡ old ++ reverse there
turned old there s r f h e k =
    let l : length (old ++ there) - length old ≡ length there = omega (arith, length-append old there) in
    let q : r ≡ reverse there =
    k ∙ rw (h, e, l, drop-append_seam old there, take-length there) refl in
    let w : length (old ++ (reverse there ++ [])) ≡ length (old ++ there) =
    rw (append-nil (reverse there), length-append old (reverse there), length-append old there, length-reverse there) refl in
    rw (h, e, l, drop-append_seam old there, take-append_seam old there, drop-length there, q)
    (full (old ++ there) (old ++ (reverse there ++ [])) w ∙ ap (λ x. old ++ x) (append-nil (reverse there)))

pub returns-clause-items : goal.returns-clause-items
returns-clause-items g c =
    let old : List ℕ = c.args.out.now.items in
    let there : List ℕ = c.loop.out.items in
    let k = c.args.k in
    let n = nat_abs c.args.n in
    let digits = last_digits k n in
    let left = k - c.loop.counter in
    let r = nat_abs (to_z w64 c.loop.rest-bits) in
    let whole = rw (to_z-of_z c.ranges.n) at c.loop.invariant.1.1 in
    let e : there ≡ old ++ reverse digits = sym (left_none there left r (omega arith) ∙ append-nil there) ∙ whole in
    let a = c.as_mut_slice.ensures.value in
    let after = rw a at c.reverse.ensures.after in
    rw a (turned old (reverse digits) there c.reverse.new.self c.len-front.result c.len-front.ensures.value e after)
    ∙ ap (λ x. old ++ x) (reverse-reverse digits)
