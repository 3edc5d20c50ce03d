-- Where there is no angle (02, C-12): a reading has none exactly where both numbers are nought, and a height always has
-- one.
use Rattle.std.specs.Prelude.{◌≡◌, refl, ◌↔◌, ℕ, zero, suc, ◌+◌, ◌-◌, ◌<◌, ℤ, pos, negsuc, nat_abs, Some, None}
use Rattle.std.proofs.Common.{sym, ◌∙◌, arith}
use Rattle.rules.specs.declared.Direction.{Direction}
use Rattle.rules.specs.Units.{circle}
use Rattle.rules.specs.Length.{root, square, squares}
use Rattle.rules.specs.Turning.{Accepted}
use Rattle.rules.specs.Reading.{angle_of, reading}
use Rattle.laws.specs.UpTo.{UpTo}
use Rattle.laws.specs.ReadingRange.{angle_of_range, reading_is}
use Rattle.laws.specs.Heights.{height_fits}

-- an angle is not no angle
pub some_is_not_none : {A : Type 0} (a : ℤ) → Some a ≡ None → A
some_is_not_none a e = let z : ◌≡◌ {A = ℕ} 0 1 = cc in absurd (omega arith)

pub same_angle : (a b : ℤ) → Some a ≡ Some b → a ≡ b
same_angle a b e = cc

-- ---- a reading

pub no_angle_iff : (h v : ℤ) → reading h v ≡ None ↔ (h ≡ pos 0) × (v ≡ pos 0)
unfolding reading
no_angle_iff h v = (only h v, there)
  where
    only : (h v : ℤ) → reading h v ≡ None → (h ≡ pos 0) × (v ≡ pos 0)
    only (pos zero) (pos zero) e = (refl, refl)
    only (pos zero) (pos (suc v)) e =
        some_is_not_none _ (sym (reading_is (pos zero) (pos (suc v)) (omega arith)) ∙ e)
    only (pos zero) (negsuc v) e = some_is_not_none _ (sym (reading_is (pos zero) (negsuc v) (omega arith)) ∙ e)
    only (pos (suc h)) v e = some_is_not_none _ (sym (reading_is (pos (suc h)) v (omega arith)) ∙ e)
    only (negsuc h) v e = some_is_not_none _ (sym (reading_is (negsuc h) v (omega arith)) ∙ e)

    there : (h ≡ pos 0) × (v ≡ pos 0) → reading h v ≡ None
    there e = rw (e.0, e.1)

-- what has an angle is not (0, 0), and the angle is its
pub record Angled (h v a : ℤ) : Type 0 where
  pub some : 0 < nat_abs h + nat_abs v
  pub is : a ≡ angle_of h v

angled_where : (h v a : ℤ) → 0 < nat_abs h + nat_abs v → reading h v ≡ Some a → Angled h v a
angled_where h v a k e = record { some = k; is = same_angle a (angle_of h v) (sym e ∙ reading_is h v k) }

pub angled : (h v a : ℤ) → reading h v ≡ Some a → Angled h v a
angled (pos zero) (pos zero) a e = some_is_not_none a (sym e ∙ (no_angle_iff (pos 0) (pos 0)).1 (refl, refl))
angled (pos zero) (pos (suc v)) a e = angled_where (pos zero) (pos (suc v)) a (omega arith) e
angled (pos zero) (negsuc v) a e = angled_where (pos zero) (negsuc v) a (omega arith) e
angled (pos (suc h)) v a e = angled_where (pos (suc h)) v a (omega arith) e
angled (negsuc h) v a e = angled_where (negsuc h) v a (omega arith) e

-- an angle lies from 0 to C − 1
pub reading_range : (h v a : ℤ) → reading h v ≡ Some a → UpTo a (circle - 1)
reading_range h v a e = rw (angled h v a e).is (angle_of_range h v)

-- ---- a height

-- an accepted direction is not nought, so neither is what a height reads
pub height_has_angle : (v : Direction) → Accepted (squares v)
    → let r = pos (root (square v.x + square v.y)) in reading r v.z ≡ Some (angle_of r v.z)
height_has_angle v h =
    reading_is (pos (root (square v.x + square v.y))) v.z (height_fits v h).some
