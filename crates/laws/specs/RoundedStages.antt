-- A series worked in rounded steps is near the fraction that its steps mean (docs/MATHEMATICS.md, "A series in steps"):
-- one law, `chain`, for the rows of the sine, the cosine and the arc. The error is a function that computes; no stage
-- has a constant of its own.
use Rattle.std.specs.Prelude.{◌≡◌, refl, Bool, ◌&&◌, ℕ, ◌+◌, ◌*◌, ◌-◌, ◌/◌, ◌≤◌, ◌<◌, T, leb, ltb, ℤ, negsuc, nat_abs, ◌-ℤ◌, ◌*ℤ◌}
use mathlib.Core.List.{List, [], ◌∷◌}
use Rattle.std.proofs.Math.Facts.{and_yes}
use Rattle.std.proofs.Common.{mul-le-mul_right, arith, leb→le, ltb→lt}
use Rattle.std.proofs.Math.Nat.{lt-div-mul-add}
use Rattle.std.proofs.Math.IntN.{pos}
use Rattle.integers.specs.Difference.{pos_sub}
use Rattle.integers.specs.SeriesStages.{Stage, stage_of, numerator, denominator}
use Rattle.rules.specs.Units.{unit}
use Rattle.rules.specs.Rounding.{rnd, rnd_size}
use Rattle.rules.specs.Circle.{stage, stages}
use Rattle.rules.specs.Reading.{arc_stage, arc_stages}
use Rattle.laws.specs.Rounding.{rnd_pos, rnd_size_under}
use Rattle.laws.specs.UpTo.{UpTo, up_to_pos, up_to_of_le, up_to_le}
use Rattle.laws.specs.Near.{Near, near_product, near_less}

-- what is worked for the stage (j, k): Rnd(2^30 / j) − Rnd(w p / (2^30 k))
unfoldable pub after_stages : ℤ → List Stage → ℤ → ℤ
after_stages w [] p = p
after_stages w (stage_of j k ∷ l) p = after_stages w l (rnd (pos unit) j -ℤ rnd (w *ℤ p) (unit * k))

-- how far Rnd(2^30 / j) is from 2^30 / j, in thousandths, rounded up
unfoldable pub first_error : ℕ → ℕ
first_error j = (1000 * nat_abs (pos (rnd_size unit j) *ℤ pos j -ℤ pos unit) + (j - 1)) / j

-- the error after the steps, rounded up at each: ζ bounds z / o in thousandths, g is the error of w
unfoldable pub error : ℕ → ℕ → List Stage → ℕ → ℕ
error ζ g [] e = e
error ζ g (stage_of j k ∷ l) e =
    error ζ g l (first_error j + (500000 * k + ζ * e + 1000 * g + (1000 * k - 1)) / (1000 * k))

-- no j or k is nought, and the numbers Rnd(2^30 / j) do not fall, from b on, nor pass 2^30
abbrev pub rises : List Stage → ℕ → Bool
rises [] b = leb b unit
rises (stage_of j k ∷ l) b = ltb 0 j && (ltb 0 k && (leb b (rnd_size unit j) && rises l (rnd_size unit j)))

pub record Rises (j k b : ℕ) (rest : Bool) : Type 0 where
  pub j_pos : 0 < j
  pub k_pos : 0 < k
  pub rise : b ≤ rnd_size unit j
  pub next : T rest

pub rises_first : (j k b : ℕ) (t : Bool) → T (ltb 0 j && (ltb 0 k && (leb b (rnd_size unit j) && t))) → Rises j k b t
rises_first j k b t h =
    let h0 = and_yes (ltb 0 j) (ltb 0 k && (leb b (rnd_size unit j) && t)) h in
    let h1 = and_yes (ltb 0 k) (leb b (rnd_size unit j) && t) h0.1 in
    let h2 = and_yes (leb b (rnd_size unit j)) t h1.1 in
    record {
      j_pos = ltb→lt 0 j h0.0;
      k_pos = ltb→lt 0 k h1.0;
      rise = leb→le b (rnd_size unit j) h2.0;
      next = h2.1;
    }

pub rises_le : (l : List Stage) (b : ℕ) → T (rises l b) → b ≤ unit
rises_le [] b h = leb→le b unit h
rises_le (stage_of j k ∷ l) b h =
    let t = rises_first j k b (rises l (rnd_size unit j)) h in
    omega (arith, t.rise, rises_le l (rnd_size unit j) t.next)

-- ---- one stage

-- its range: from 0 to Rnd(2^30 / j)
pub one_stage_range : (w p : ℤ) (b j k : ℕ) → UpTo w unit → UpTo p b → b ≤ rnd_size unit j → 0 < k
    → UpTo (rnd (pos unit) j -ℤ rnd (w *ℤ p) (unit * k)) (rnd_size unit j)
one_stage_range (negsuc w) p b j k hw hp h hk = absurd (omega (arith, hw.low))
one_stage_range (pos w) (negsuc p) b j k hw hp h hk = absurd (omega (arith, hp.low))
one_stage_range (pos w) (pos p) b j k hw hp h hk =
    let q = rnd_size unit j in
    let r = rnd_size_under (w * p) (unit * k) p (omega arith)
    (omega (arith, mul-le-mul_right p hw.high, mul-le-mul_right p hk)) in
    rw (rnd_pos unit j, rnd_pos (w * p) (unit * k), pos_sub q (rnd_size (w * p) (unit * k)) (omega (arith, hp.high)))
    (up_to_pos (q - rnd_size (w * p) (unit * k)) q (omega arith))

-- rounded up
ceiling : (x m : ℕ) → 0 < m → x ≤ m * ((x + (m - 1)) / m)
ceiling x m h = omega (arith, lt-div-mul-add {a = x + (m - 1)} {b = m} h)

first_near : (j : ℕ) → 0 < j → Near (rnd (pos unit) j) (pos 1) j (first_error j)
unfolding first_error
first_near j h =
    rw (rnd_pos unit j)
    (record {
      divisor_pos = h;
      near = omega (arith, ceiling (1000 * nat_abs (pos (rnd_size unit j) *ℤ pos j -ℤ pos unit)) j h);
    })

pub record Worked (p n : ℤ) (d e : ℕ) : Type 0 where
  pub near : Near p n d e
  pub range : UpTo p unit

-- ---- the steps of a row: w stands for z / o, p for n / d

module _ (w z : ℤ) (o g ζ : ℕ) (hw : Near w z o g) (iw : UpTo w unit) (hz : 1000 * nat_abs z ≤ ζ * o) where
  one_stage_near : (j k : ℕ) (p n : ℤ) (d e b : ℕ) → 0 < j → 0 < k → b ≤ unit → Near p n d e → UpTo p b
      → Near (rnd (pos unit) j -ℤ rnd (w *ℤ p) (unit * k)) (pos (k * (o * d)) -ℤ pos j *ℤ (z *ℤ n)) (j * (k * (o * d)))
      (first_error j + (500000 * k + ζ * e + 1000 * g + (1000 * k - 1)) / (1000 * k))
  one_stage_near j k p n d e b hj hk hb a i =
      let r = (500000 * k + ζ * e + 1000 * g + (1000 * k - 1)) / (1000 * k) in
      near_less (rnd (pos unit) j) (rnd (w *ℤ p) (unit * k)) (z *ℤ n) j (k * (o * d)) (first_error j) r (first_near j hj)
      (near_product w p z n o d k ζ 1000 g e r hw a hz (omega (arith, up_to_le p b i)) hk
      (omega (arith, ceiling (500000 * k + ζ * e + 1000 * g) (1000 * k) (omega arith))))

  pub chain : (l : List Stage) (p n : ℤ) (d e b : ℕ) → T (rises l b) → Near p n d e → UpTo p b
      → Worked (after_stages w l p) (numerator z o l n d) (denominator o l d) (error ζ g l e)
  unfolding after_stages numerator denominator error
  chain [] p n d e b a h i = record { near = h; range = up_to_of_le p b unit (rises_le [] b a) i }
  chain (stage_of j k ∷ l) p n d e b a h i =
      let t = rises_first j k b (rises l (rnd_size unit j)) a in
      chain l (rnd (pos unit) j -ℤ rnd (w *ℤ p) (unit * k)) (pos (k * (o * d)) -ℤ pos j *ℤ (z *ℤ n)) (j * (k * (o * d)))
      (first_error j + (500000 * k + ζ * e + 1000 * g + (1000 * k - 1)) / (1000 * k)) (rnd_size unit j) t.next
      (one_stage_near j k p n d e b t.j_pos t.k_pos (rises_le (stage_of j k ∷ l) b a) h i)
      (one_stage_range w p b j k iw i t.rise t.k_pos)

-- the range alone, which asks nothing of z
pub after_stages_range : (w : ℤ) (l : List Stage) (p : ℤ) (b : ℕ) → UpTo w unit → T (rises l b) → UpTo p b
    → UpTo (after_stages w l p) unit
unfolding after_stages
after_stages_range w [] p b hw a i = up_to_of_le p b unit (rises_le [] b a) i
after_stages_range w (stage_of j k ∷ l) p b hw a i =
    let t = rises_first j k b (rises l (rnd_size unit j)) a in
    after_stages_range w l (rnd (pos unit) j -ℤ rnd (w *ℤ p) (unit * k)) (rnd_size unit j) hw t.next
    (one_stage_range w p b j k hw i t.rise t.k_pos)

-- ---- the rows of document 01

-- sine and cosine: 1 − (z / k) p; the arc: 1 / j − z p
abbrev pub stages_of_circle : List ℕ → List Stage
stages_of_circle [] = []
stages_of_circle (k ∷ ks) = stage_of 1 k ∷ stages_of_circle ks

abbrev pub stages_of_arc : List ℕ → List Stage
stages_of_arc [] = []
stages_of_arc (j ∷ js) = stage_of j 1 ∷ stages_of_arc js

pub stages_worked : (w : ℤ) (ks : List ℕ) (p : ℤ) → stages w ks p ≡ after_stages w (stages_of_circle ks) p
unfolding stages stage after_stages rnd rnd_size
stages_worked w [] p = refl
stages_worked w (k ∷ ks) p = stages_worked w ks (stage w k p)

pub arc_stages_worked : (w : ℤ) (js : List ℕ) (p : ℤ) → arc_stages w js p ≡ after_stages w (stages_of_arc js) p
unfolding arc_stages arc_stage after_stages
arc_stages_worked w [] p = refl
arc_stages_worked w (j ∷ js) p = arc_stages_worked w js (arc_stage w j p)
