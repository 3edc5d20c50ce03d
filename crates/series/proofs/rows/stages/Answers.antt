-- `series::rows::stages` meets its contract: p is the row so far.
use Rattle.std.specs.Prelude.{◌≡◌, refl, ◌<◌, List, [], ◌∷◌, ℕ, zero, suc, map, take, length, get_or, ℤ, pos, nat_abs}
use Rattle.std.proofs.Common.{sym, ap, ◌∙◌, arith, w64, to_z, lit≤}
use native.Mathlib.Numerals.{add-one}
use Rattle.rules.specs.Units.{unit}
use Rattle.rules.specs.Circle as rule
use Rattle.laws.specs.UpTo.{UpTo, up_to_le}
use Rattle.laws.specs.Circle.{unit_up_to}
use Rattle.laws.specs.RoundedStages.{one_stage_range}
use Rattle.rules.specs.Rounding.{rnd, rnd_size}
use Rattle.words.specs.Holds.{got}
use Rattle.series.proofs.Stages.{fits_at, w_held, k_held}
use Rattle.series.proofs.rows.stages.Goals as goal

-- the row so far, with one stage more
one_more : (w : ℤ) (row : List ℤ) (i : ℕ) (p : ℤ) → i < length row
    → rule.stages w (take (suc i) (map nat_abs row)) p
    ≡ rule.stage w (nat_abs (get_or row i (pos 0))) (rule.stages w (take i (map nat_abs row)) p)
unfolding rule.stages
one_more w [] i p h = absurd (omega arith)
one_more w (k ∷ ks) zero p h = refl
one_more w (k ∷ ks) (suc i) p h = one_more w ks i (rule.stage w (nat_abs k) p) (omega arith)

all_of : (row : List ℤ) → take (length row) (map nat_abs row) ≡ map nat_abs row
all_of [] = refl
all_of (k ∷ ks) = ap (λ (l : List ℕ). nat_abs k ∷ l) (all_of ks)

-- a stage is from nought to a whole
stage_range : (w : ℤ) (k : ℕ) (p : ℤ) → UpTo w unit → 0 < k → UpTo p unit → UpTo (rule.stage w k p) unit
unfolding rule.stage rnd rnd_size
stage_range w k p i h j = one_stage_range w p unit 1 k i j (lit≤ tt) h

pub loop-k-init : goal.loop-k-init
unfolding rule.stages
loop-k-init g c = record { so_far = refl; range = unit_up_to }

pub stage-p-requires : goal.stage-p-requires
stage-p-requires g c =
    let k = fits_at c.args.row c.requires.each_fits c.loop-k.k-index (omega arith) in
    rw (w_held c.args.w c.requires.w_range, k_held _ k.1)
    (record { w_range = c.requires.w_range; p_range = c.loop-k.invariant.range; k_pos = k.0; k_range = k.1 })

pub loop-k-preserved : goal.loop-k-preserved
loop-k-preserved g c =
    let w = w_held c.args.w c.requires.w_range in
    let i = c.loop-k.k-index in
    let below : i < length c.args.row = omega arith in
    let k = fits_at c.args.row c.requires.each_fits i below in
    let is = rw (w, k_held _ k.1) at c.stage-p.ensures in
    let range = stage_range c.args.w (nat_abs (get_or c.args.row i (pos 0))) (to_z w64 c.loop-k.p-bits)
    c.requires.w_range k.0 c.loop-k.invariant.range in
    let held = (got is (up_to_le _ unit range) tt).value in
    rw w (record {
      so_far = held ∙ ap (rule.stage c.args.w (nat_abs (get_or c.args.row i (pos 0)))) (rw w at c.loop-k.invariant.so_far)
          ∙ sym (one_more c.args.w c.args.row i (pos unit) below)
          ∙ ap (λ (n : ℕ). rule.stages c.args.w (take n (map nat_abs c.args.row)) (pos unit)) (sym (add-one i));
      range = rw held range;
    })

pub returns : goal.returns
returns g c =
    let all : c.loop-k.k-index ≡ length c.args.row = omega arith in
    rw (w_held c.args.w c.requires.w_range) at c.loop-k.invariant.so_far
    ∙ ap (λ (i : ℕ). rule.stages c.args.w (take i (map nat_abs c.args.row)) (pos unit)) all
    ∙ ap (λ (l : List ℕ). rule.stages c.args.w l (pos unit)) (all_of c.args.row)
