-- Where an angle lies: its quarter, and what is over that, by one linear equation. A pair turned by quarters, and the
-- pair of the opposite angle.
use Rattle.std.specs.Prelude.{◌≡◌, refl, ℕ, zero, suc, ◌+◌, ◌*◌, ◌-◌, ◌/◌, ◌%◌, ◌<◌, ℤ, pos, negsuc, neg_ℤ}
use Rattle.std.proofs.Common.{arith, lit<}
use Rattle.std.proofs.Math.IntN.{neg_ℤ-neg_ℤ}
use Rattle.integers.specs.Difference.{pos_part, neg_part}
use Rattle.rules.specs.declared.Pair.{Pair}
use Rattle.rules.specs.Units.{circle, quarter}
use Rattle.rules.specs.Rounding.{modulo}
use Rattle.rules.specs.Circle.{exchanged_pair, in_quarter}
use Rattle.laws.specs.Modulo.{modulo_lt}

-- ---- where an angle lies: a is q quarters and r, but for whole circles

pub record Place (a : ℤ) : Type 0 where
  pub q : ℕ
  pub r : ℕ
  pub k : ℕ
  pub j : ℕ
  pub q_lt : q < 4
  pub r_lt : r < quarter
  pub is : pos_part a + k * circle ≡ neg_part a + (q * quarter + r) + j * circle

pub modulo_is : (a : ℤ) (m k j : ℕ) → m < circle → pos_part a + k * circle ≡ neg_part a + m + j * circle
    → modulo a circle ≡ m
unfolding modulo
modulo_is (pos n) m k j h e = omega arith
modulo_is (negsuc n) m k j h e = omega arith

circles_up : ℤ → ℕ
circles_up (pos n) = 0
circles_up (negsuc n) = n / circle + 1

circles_down : ℤ → ℕ
circles_down (pos n) = n / circle
circles_down (negsuc n) = 0

modulo_has : (a : ℤ) → pos_part a + circles_up a * circle ≡ neg_part a + modulo a circle + circles_down a * circle
unfolding modulo circles_up circles_down
modulo_has (pos n) = omega arith
modulo_has (negsuc n) = omega arith

pub place : (a : ℤ) → Place a
place a = record {
  q = modulo a circle / quarter;
  r = modulo a circle % quarter;
  k = circles_up a;
  j = circles_down a;
  q_lt = omega (arith, modulo_lt a circle (lit< tt));
  r_lt = omega arith;
  is = omega (arith, modulo_has a);
}

-- ---- turning by quarters

pub quarter_next : (q : ℕ) (p : Pair) → q < 3 → in_quarter (suc q) p ≡ in_quarter 1 (in_quarter q p)
unfolding in_quarter
quarter_next zero p h = refl
quarter_next (suc zero) p h = refl
quarter_next (suc (suc zero)) p h = rw (neg_ℤ-neg_ℤ p.sine)
quarter_next (suc (suc (suc q))) p h = absurd (omega arith)

pub quarter_last : (p : Pair) → in_quarter 0 p ≡ in_quarter 1 (in_quarter 3 p)
unfolding in_quarter
quarter_last p = rw (neg_ℤ-neg_ℤ p.cosine)

-- the pair of the opposite angle
abbrev pub opposite : Pair → Pair
opposite p = record { cosine = p.cosine; sine = neg_ℤ p.sine }

pub quarter_opposite : (q : ℕ) (p : Pair) → q < 4 → in_quarter (3 - q) (exchanged_pair p) ≡ opposite (in_quarter q p)
unfolding in_quarter exchanged_pair
quarter_opposite zero p h = refl
quarter_opposite (suc zero) p h = refl
quarter_opposite (suc (suc zero)) p h = rw (neg_ℤ-neg_ℤ p.sine)
quarter_opposite (suc (suc (suc zero))) p h = rw (neg_ℤ-neg_ℤ p.cosine)
quarter_opposite (suc (suc (suc (suc q)))) p h = absurd (omega arith)

-- at a quarter's beginning, where the sine is nought
pub quarter_opposite_at : (q : ℕ) (p : Pair) → p.sine ≡ pos 0 → q < 3
    → in_quarter (3 - q) p ≡ opposite (in_quarter (suc q) p)
unfolding in_quarter
quarter_opposite_at zero p e h = rw e
quarter_opposite_at (suc zero) p e h = rw e
quarter_opposite_at (suc (suc zero)) p e h = rw (e, neg_ℤ-neg_ℤ p.cosine)
quarter_opposite_at (suc (suc (suc q))) p e h = absurd (omega arith)

pub opposite_at : (p : Pair) → p.sine ≡ pos 0 → in_quarter 0 p ≡ opposite (in_quarter 0 p)
unfolding in_quarter
opposite_at p e = rw e
