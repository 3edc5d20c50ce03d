-- An f32 times 2^30: the product is exact as an f64, and Rnd of ten times its whole part by 2^30 is that of the float
-- itself. A float of finer parts than 2^-30 is too near nought to have a tenth.
use Rattle.std.specs.Prelude.{◌≡◌, refl, Bool, true, false, ℤ, pos, negsuc, leb, Float}
use Rattle.std.proofs.Common.{sym, ◌∙◌, ap, subst, mul-one, mul_assoc, div-one, mul-div_cancel, mul-lt-mul_of_pos_right, lt_irrefl, lt_of_lt_of_le, lt_of_le_of_lt, le_trans, sub-le, mul-pos, mul-le-mul_left, sub-add_cancel, arith, lit<, lit≤, pow-add, pow_pos, pow_mono, leb-true, leb-false}
use Prim.Native.Nat.{ℕ, suc, ◌+◌, ◌-◌, ◌*◌, ◌/◌, ◌<◌, ◌≤◌, ◌^◌, min}
use Rattle.std.proofs.Math.Nat.{min-eq_left, mul-div-mul_right, div-eq_of_lt}
use Rattle.std.proofs.Math.Pow.{pow-lt}
use Rattle.std.specs.Float.Ieee.{nan, up, down, round, to_signed}
use Rattle.std.specs.Float.{inf, fin, binary64}
use Rattle.std.specs.Float.Ieee.Fits.{down_pos}
use Rattle.std.specs.Float.Ieee.Exact.{HasValue, round_exact}
use Rattle.std.specs.Float.Ieee.Nearest.{div_same, div_mono}
use Rattle.rules.specs.Units.{unit}
use Rattle.rules.specs.Rounding.{rnd_size}
use Rattle.rules.specs.Floats.{with_sign}

-- ---- powers of two

-- so many binary places as a small float may have
places : (k : ℕ) → 2 ^ suc k ≤ 2 ^ 149 → suc k ≤ 149
places k d = go (leb (suc k) 149) refl
  where
    go : (t : Bool) → leb (suc k) 149 ≡ t → suc k ≤ 149
    go true e = leb-true (suc k) 149 e
    go false e = absurd (lt_irrefl (2 ^ 149) (lt_of_lt_of_le (pow-lt (leb-false (suc k) 149 e)) d))

cut : (n j : ℕ) → j ≤ n → 2 ^ (n - j) * 2 ^ j ≡ 2 ^ n
cut n j l = sym (pow-add 2 (n - j) j) ∙ ap (λ i. 2 ^ i) (sub-add_cancel l)

-- ---- the product by 2^30 is exact

module _ (s : Bool) (m : ℕ) where
  pub exact : (e : ℤ) → m < 2 ^ 24 → down e ≤ 2 ^ 149 → m * up e < 2 ^ 11 * down e
      → HasValue (round binary64 s (m * up e * unit) (down e * 1)) s (m * up e * unit) (down e * 1)
  exact (pos k) f d l =
      let shifted : m * 2 ^ (k + 1104) ≡ m * 2 ^ k * 2 ^ 1104 =
      ap (λ x. m * x) (pow-add 2 k 1104) ∙ sym (mul_assoc m (2 ^ k) (2 ^ 1104)) in
      round_exact binary64 s (m * 2 ^ k * unit) 1 m (k + 1104) (lit< tt) (lt_of_lt_of_le f (lit≤ tt))
      (subst (λ x. x < 2 ^ 2098) (sym shifted) (lt_of_lt_of_le (mul-lt-mul_of_pos_right l (lit< tt)) (lit≤ tt)))
      (mul_assoc (m * 2 ^ k) unit (2 ^ 1074) ∙ sym shifted ∙ sym (mul-one (m * 2 ^ (k + 1104))))
  exact (negsuc k) f d l =
      let j = 1104 - suc k in
      let h : suc k ≤ 1104 = le_trans (places k d) (lit≤ tt) in
      let small : 2 ^ j ≤ 2 ^ 1104 = pow_mono (sub-le 1104 (suc k)) in
      round_exact binary64 s (m * 1 * unit) (2 ^ suc k * 1) m j (mul-pos (pow_pos (suc k)) (lit< tt))
      (lt_of_lt_of_le f (lit≤ tt))
      (lt_of_le_of_lt (mul-le-mul_left m small) (lt_of_lt_of_le (mul-lt-mul_of_pos_right f (lit< tt)) (lit≤ tt)))
      (mul_assoc (m * 1) unit (2 ^ 1074)
      ∙ ap (λ x. x * 2 ^ 1104) (mul-one m)
      ∙ ap (λ x. m * x) (sym (cut 1104 (suc k) h))
      ∙ sym (mul_assoc m (2 ^ j) (2 ^ suc k))
      ∙ ap (λ x. m * 2 ^ j * x) (sym (mul-one (2 ^ suc k))))

-- ---- what is known of a float by a fraction that it equals

module _ (a c : ℕ) (C : 0 < c) (s : Bool) where
  -- its whole part, with its sign
  pub whole_part : (x : Float) → HasValue x s a c → a / c < 2 ^ 63 → to_signed 63 x ≡ with_sign s (a / c)
  unfolding to_signed with_sign
  whole_part nan h l = absurd h
  whole_part (inf t) h l = absurd h
  whole_part (fin t m e) h l =
      let same : m * up e / down e ≡ a / c = div_same (m * up e) (down e) a c (down_pos e) C h.1 in
      let up_to : min (a / c) (2 ^ 63) ≡ a / c = min-eq_left (omega arith) in
      let below : min (a / c) (2 ^ 63 - 1) ≡ a / c = min-eq_left (omega arith) in
      rw (h.0, same, up_to, below)

-- ---- from the whole part to the whole tenths

pub rounded : (m : ℕ) (e : ℤ) → m < 2 ^ 24
    → rnd_size (10 * (m * up e * unit / (down e * 1))) unit ≡ rnd_size (10 * (m * up e)) (down e)
unfolding rnd_size
rounded m (pos k) f =
    let n = m * 2 ^ k in
    ap (λ y. (2 * (10 * y) + unit) / (2 * unit)) (div-one (n * unit))
    ∙ div_same (2 * (10 * (n * unit)) + unit) (2 * unit) (2 * (10 * n) + 1) 2 (lit< tt) (lit< tt) (omega arith)
rounded m (negsuc k) f = go (leb (suc k) 30) refl
  where
    fine : suc k ≤ 30
        → (2 * (10 * (m * 1 * unit / (2 ^ suc k * 1))) + unit) / (2 * unit)
        ≡ (2 * (10 * (m * 1)) + 2 ^ suc k) / (2 * 2 ^ suc k)
    fine l =
        let g = 2 ^ (30 - suc k) in
        let gd : g * 2 ^ suc k ≡ unit = cut 30 (suc k) l in
        let y : m * 1 * unit / (2 ^ suc k * 1) ≡ m * 1 * g =
        ap (λ x. m * 1 * unit / x) (mul-one (2 ^ suc k))
        ∙ ap (λ x. m * 1 * x / 2 ^ suc k) (sym gd)
        ∙ ap (λ x. x / 2 ^ suc k) (sym (mul_assoc (m * 1) g (2 ^ suc k)))
        ∙ mul-div_cancel (m * 1 * g) (pow_pos (suc k)) in
        let top : 2 * (10 * (m * 1 * g)) + unit ≡ (2 * (10 * (m * 1)) + 2 ^ suc k) * g = omega (arith, gd) in
        let bottom : 2 * unit ≡ 2 * 2 ^ suc k * g = omega (arith, gd) in
        ap (λ x. (2 * (10 * x) + unit) / (2 * unit)) y
        ∙ ap (λ x. x / (2 * unit)) top
        ∙ ap (λ x. (2 * (10 * (m * 1)) + 2 ^ suc k) * g / x) bottom
        ∙ mul-div-mul_right (2 * (10 * (m * 1)) + 2 ^ suc k) (2 * 2 ^ suc k) (pow_pos (30 - suc k))

    coarse : 30 < suc k
        → (2 * (10 * (m * 1 * unit / (2 ^ suc k * 1))) + unit) / (2 * unit)
        ≡ (2 * (10 * (m * 1)) + 2 ^ suc k) / (2 * 2 ^ suc k)
    coarse l =
        let big : 2 ^ 31 ≤ 2 ^ suc k = pow_mono l in
        let y : m * 1 * unit / (2 ^ suc k * 1) ≤ m * 1 * unit / 2 ^ 31 =
        div_mono (m * 1 * unit) (2 ^ suc k * 1) (m * 1 * unit) (2 ^ 31) (omega arith) (lit< tt)
        (mul-le-mul_left (m * 1 * unit) (omega arith)) in
        div-eq_of_lt (omega arith) ∙ sym (div-eq_of_lt (omega arith))

    go : (t : Bool) → leb (suc k) 30 ≡ t
        → (2 * (10 * (m * 1 * unit / (2 ^ suc k * 1))) + unit) / (2 * unit)
        ≡ (2 * (10 * (m * 1)) + 2 ^ suc k) / (2 * 2 ^ suc k)
    go true e = fine (leb-true (suc k) 30 e)
    go false e = coarse (leb-false (suc k) 30 e)
