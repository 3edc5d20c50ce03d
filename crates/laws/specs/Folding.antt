-- Folding, of any pairs f from nought to half a quarter: what holds there holds of every angle; a circle more, a
-- quarter more, the opposite angle.
use Rattle.std.specs.Prelude.{◌≡◌, Bool, not, ℕ, zero, suc, ◌+◌, ◌*◌, ◌-◌, ◌/◌, ◌%◌, ◌≤◌, ◌<◌, ℤ, pos, neg_ℤ, ◌+ℤ◌, T, leb}
use Rattle.std.proofs.Math.Path.{refl, ap}
use Rattle.std.proofs.Common.{sym, ◌∙◌, leb→le, lit<, lit≤}
use Rattle.std.proofs.Math.Bool.{true, false, cond}
use Rattle.std.proofs.Math.Decide.{dec_le}
use native.Mathlib.Omega.{arith}
use Rattle.std.proofs.Math.Dec.{nleb→lt}
use Rattle.integers.specs.Difference.{pos_part, neg_part, add_is, pos_part_neg, neg_part_neg}
use Rattle.rules.specs.declared.Pair.{Pair}
use Rattle.rules.specs.Units.{circle, quarter, half_quarter}
use Rattle.rules.specs.Rounding.{modulo}
use Rattle.rules.specs.Circle.{exchanged_pair, pair_to_quarter, in_quarter, folded}
use Rattle.laws.specs.Quarters.{modulo_is, place, Place, quarter_next, quarter_last, opposite, opposite_at}
use Rattle.laws.specs.Quarters.{quarter_opposite, quarter_opposite_at}

-- ---- what holds up to half a quarter holds of every angle

module _ (R : Pair → Pair → Type 0) (f g : ℕ → Pair)
    (to_half : (r : ℕ) → r ≤ half_quarter → R (f r) (g r))
    (exchange : (p q : Pair) → R p q → R (exchanged_pair p) (exchanged_pair q)) where
  pub to_quarter : (r : ℕ) → r < quarter → R (pair_to_quarter f r) (pair_to_quarter g r)
  unfolding pair_to_quarter
  to_quarter r h = by (leb r half_quarter) (leb→le r half_quarter) (nleb→lt r half_quarter)
    where
      by : (b : Bool) → (T b → r ≤ half_quarter) → (T (not b) → half_quarter < r)
          → R (cond b (f r) (exchanged_pair (f (quarter - r)))) (cond b (g r) (exchanged_pair (g (quarter - r))))
      by true l k = to_half r (l tt)
      by false l k =
          let j = k tt in exchange (f (quarter - r)) (g (quarter - r)) (to_half (quarter - r) (omega arith))

  pub folded_related : ((k : ℕ) (p q : Pair) → R p q → R (in_quarter k p) (in_quarter k q))
      → (a : ℤ) → R (folded f a) (folded g a)
  unfolding folded
  folded_related h a =
      let m = modulo a circle in
      h (m / quarter) (pair_to_quarter f (m % quarter)) (pair_to_quarter g (m % quarter))
      (to_quarter (m % quarter) (omega arith))

-- ---- the laws of angles

module _ (f : ℕ → Pair) where
  pub folded_at : (a : ℤ) (q r k j : ℕ) → q < 4 → r < quarter
      → pos_part a + k * circle ≡ neg_part a + (q * quarter + r) + j * circle
      → folded f a ≡ in_quarter q (pair_to_quarter f r)
  unfolding folded
  folded_at a q r k j hq hr e =
      let h = modulo_is a (q * quarter + r) k j (omega arith) e in
      ap (λ n. in_quarter n (pair_to_quarter f (modulo a circle % quarter))) (omega arith)
      ∙ ap (λ n. in_quarter q (pair_to_quarter f n)) (omega arith)

  pub folded_place : (a : ℤ) (w : Place a) → folded f a ≡ in_quarter w.q (pair_to_quarter f w.r)
  folded_place a w = folded_at a w.q w.r w.k w.j w.q_lt w.r_lt w.is

  pub folded_circle : (a : ℤ) → folded f (a +ℤ pos circle) ≡ folded f a
  folded_circle a =
      let w = place a in
      folded_at (a +ℤ pos circle) w.q w.r w.k (w.j + 1) w.q_lt w.r_lt
      (omega (arith, w.is, add_is a (pos circle)))
      ∙ sym (folded_place a w)

  pub folded_quarter : (a : ℤ) → folded f (a +ℤ pos quarter) ≡ in_quarter 1 (folded f a)
  folded_quarter a =
      let w = place a in
      rw (folded_place a w) (by w w.q refl (dec_le w.q 2))
    where
      by : (w : Place a) (q : ℕ) → w.q ≡ q → Dec (q ≤ 2)
          → folded f (a +ℤ pos quarter) ≡ in_quarter 1 (in_quarter q (pair_to_quarter f w.r))
      by w q e (yes h) =
          folded_at (a +ℤ pos quarter) (suc q) w.r w.k w.j (omega arith) w.r_lt
          (omega (arith, w.is, add_is a (pos quarter)))
          ∙ quarter_next q (pair_to_quarter f w.r) (omega arith)
      by w q e (no h) =
          let t : q ≡ 3 = omega (arith, w.q_lt) in
          folded_at (a +ℤ pos quarter) 0 w.r w.k (w.j + 1) (lit< tt) w.r_lt
          (omega (arith, w.is, add_is a (pos quarter)))
          ∙ quarter_last (pair_to_quarter f w.r)
          ∙ ap (λ n. in_quarter 1 (in_quarter n (pair_to_quarter f w.r))) (sym t)

  -- the two halves of a quarter
  pub lower_half : (r : ℕ) → r ≤ half_quarter → pair_to_quarter f r ≡ f r
  unfolding pair_to_quarter
  lower_half r h = by (leb r half_quarter) (nleb→lt r half_quarter)
    where
      by : (b : Bool) → (T (not b) → half_quarter < r) → cond b (f r) (exchanged_pair (f (quarter - r))) ≡ f r
      by true k = refl
      by false k = let j = k tt in absurd (omega arith)

  pub upper_half : (r : ℕ) → half_quarter < r → pair_to_quarter f r ≡ exchanged_pair (f (quarter - r))
  unfolding pair_to_quarter
  upper_half r h = by (leb r half_quarter) (leb→le r half_quarter)
    where
      by : (b : Bool) → (T b → r ≤ half_quarter)
          → cond b (f r) (exchanged_pair (f (quarter - r))) ≡ exchanged_pair (f (quarter - r))
      by true k = let j = k tt in absurd (omega arith)
      by false k = refl

  -- the opposite angle, where f at half a quarter is a pair of equals and f at nought has the sine nought
  module _ (half : f half_quarter ≡ exchanged_pair (f half_quarter)) (nought : (f 0).sine ≡ pos 0) where
    -- quarter − r has the pair of r exchanged
    mirror : (r m : ℕ) → 0 < r → r < quarter → m + r ≡ quarter → pair_to_quarter f m ≡ exchanged_pair (pair_to_quarter f r)
    unfolding exchanged_pair
    mirror r m h k e = by (dec_le r half_quarter) (dec_le m half_quarter)
      where
        by : Dec (r ≤ half_quarter) → Dec (m ≤ half_quarter) → pair_to_quarter f m ≡ exchanged_pair (pair_to_quarter f r)
        by (yes i) (yes j) =
            let t : r ≡ half_quarter = omega arith in
            let u : m ≡ half_quarter = omega arith in
            rw (u, t, lower_half half_quarter (lit≤ tt)) half
        by (yes i) (no j) =
            rw (lower_half r i, upper_half m (omega arith)) (ap (λ n. exchanged_pair (f n)) (omega arith))
        by (no i) (yes j) = rw (lower_half m j, upper_half r (omega arith)) (ap f (omega arith))
        by (no i) (no j) = absurd (omega arith)

    nought_at : (pair_to_quarter f 0).sine ≡ pos 0
    nought_at = rw (lower_half 0 (lit≤ tt)) nought

    pub folded_opposite : (a : ℤ) → folded f (neg_ℤ a) ≡ opposite (folded f a)
    folded_opposite a =
        let w = place a in
        rw (folded_place a w) (by w w.q w.r refl refl)
      where
        by : (w : Place a) (q r : ℕ) → w.q ≡ q → w.r ≡ r
            → folded f (neg_ℤ a) ≡ opposite (in_quarter q (pair_to_quarter f r))
        by w zero zero d e =
            folded_at (neg_ℤ a) 0 0 w.j w.k (lit< tt) (lit< tt)
            (omega (arith, w.is, pos_part_neg a, neg_part_neg a))
            ∙ opposite_at (pair_to_quarter f 0) nought_at
        by w (suc q) zero d e =
            folded_at (neg_ℤ a) (3 - q) 0 (w.j + 1) w.k (omega arith) (lit< tt)
            (omega (arith, w.is, w.q_lt, pos_part_neg a, neg_part_neg a))
            ∙ quarter_opposite_at q (pair_to_quarter f 0) nought_at (omega (arith, w.q_lt))
        by w q (suc r) d e =
            folded_at (neg_ℤ a) (3 - q) (quarter - suc r) (w.j + 1) w.k (omega arith) (omega arith)
            (omega (arith, w.is, w.q_lt, w.r_lt, pos_part_neg a, neg_part_neg a))
            ∙ ap (in_quarter (3 - q)) (mirror (suc r) (quarter - suc r) (omega arith) (omega (arith, w.r_lt))
            (omega (arith, w.r_lt)))
            ∙ quarter_opposite q (pair_to_quarter f (suc r)) (omega (arith, w.q_lt))
