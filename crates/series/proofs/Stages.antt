-- What a stage of a row is given, whatever the row and the stage: the rows of the sine, the cosine and the arc.
use Rattle.std.specs.Prelude.{◌≡◌, ◌<◌, List, [], ◌∷◌, ℕ, zero, suc, length, get_or, ℤ, pos, negsuc, nat_abs, ◌<ℤ◌}
use Rattle.std.proofs.Common.{arith, w64, to_z, of_z}
use lib.Dec.{lt→ltb}
use Rattle.rules.specs.Units.{unit}
use Rattle.laws.specs.UpTo.{UpTo, up_to_le}
use Rattle.words.specs.Holds.{Holds, bits, arg}
use Rattle.series.specs.Given.{StageGiven, EachFits}

-- ---- the numbers that a stage is given

above : (k : ℤ) → 0 < nat_abs k → UpTo k 132 → pos 0 <ℤ k
above (pos n) h i = record { lt = lt→ltb 0 n h }
above (negsuc n) h i = absurd (omega (arith, i.low))

module _ {w k p : ℤ} (g : StageGiven w k p) where
  pub w_holds : Holds (bits w) w unit
  w_holds = arg w (up_to_le w unit g.w_range) tt

  pub p_holds : Holds (bits p) p unit
  p_holds = arg p (up_to_le p unit g.p_range) tt

  pub k_holds : Holds (bits k) k 132
  k_holds = arg k (up_to_le k 132 g.k_range) tt

  pub k_above : pos 0 <ℤ k
  k_above = above k g.k_pos g.k_range

-- a k of a row
pub fits_at : (row : List ℤ) → EachFits row → (i : ℕ) → i < length row
    → (0 < nat_abs (get_or row i (pos 0))) × UpTo (get_or row i (pos 0)) 132
fits_at [] f i h = absurd (omega arith)
fits_at (k ∷ ks) f zero h = (f.0, f.1)
fits_at (k ∷ ks) f (suc i) h = fits_at ks f.2 i (omega arith)

pub w_held : (w : ℤ) → UpTo w unit → to_z w64 (of_z w64 w) ≡ w
w_held w h = (arg w (up_to_le w unit h) tt).value

pub k_held : (k : ℤ) → UpTo k 132 → to_z w64 (of_z w64 k) ≡ k
k_held k h = (arg k (up_to_le k 132 h) tt).value
