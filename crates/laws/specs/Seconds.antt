-- Added seconds: TAI−UTC by the day numbers of the steps, and from a day to the next.
use Rattle.std.specs.Prelude.{◌≡◌, refl, Bool, true, false, cond, not, ◌&&◌, ◌||◌, ◌↔◌, ◌⊎◌, List, [], ◌∷◌, map, ℕ, ◌+◌, ◌≤◌, ◌<◌, T, eqb, leb, length, drop, get_or, ℤ, pos, nat_abs, ◌+ℤ◌}
use Rattle.std.proofs.Common.{sym, ◌∙◌, subst, inl, inr, ⊎_elim, arith, add-one, leb→le, drop-cons, eq-eqb, ne_eqb}
use Rattle.std.specs.Int.Signed.{le_z}
use Rattle.std.proofs.Math.Facts.{and_yes}
use Rattle.integers.specs.Difference.{pos_part, neg_part, add_is, eq_of_parts, parts_of_eq, le_z_true, le_z_false}
use Rattle.rules.specs.Units.{same, −◌, +◌}
use Rattle.rules.specs.Years.{leap, months, sum, up_from, years}
use Rattle.rules.specs.Calendar.{days_before2000, day_count, day_number}
use Rattle.rules.specs.Dates.{steps, tai_minus_utc, before_step}
use Rattle.laws.specs.Every.{every_at}
use Rattle.laws.specs.Ranges.{yes, true_not_false, le_of_sizes, same_iff}

-- ---- the steps as day numbers

abbrev pub step_numbers : List ℤ
step_numbers =
    − 10045 ∷ − 6758 ∷ − 6393 ∷ − 6028 ∷ − 5297 ∷ − 2740 ∷ − 2375 ∷ − 2010 ∷ − 914 ∷ + 4565 ∷ + 5660
    ∷ − 9861 ∷ − 9496 ∷ − 9131 ∷ − 8766 ∷ − 8400 ∷ − 8035 ∷ − 7670 ∷ − 7305
    ∷ − 4383 ∷ − 3652 ∷ − 3287 ∷ − 1461 ∷ − 365 ∷ + 2192 ∷ + 3288 ∷ + 6210 ∷ []

pub steps_are : map day_number steps ≡ step_numbers
unfolding day_number day_count days_before2000 years up_from months leap sum
steps_are = refl

-- how many of a list are at most n
unfoldable pub up_to : ℤ → List ℤ → ℕ
up_to n [] = 0
up_to n (s ∷ ss) = cond (le_z s n) 1 0 + up_to n ss

pub tai_is : (n : ℤ) → tai_minus_utc n ≡ 10 + up_to n step_numbers
unfolding tai_minus_utc up_to day_number day_count days_before2000 years up_from months leap sum
tai_is n = refl

one_or_none : (b : Bool) → cond b 1 0 ≤ 1
one_or_none true = omega arith
one_or_none false = omega arith

pub up_to_le_lem : (n : ℤ) (ss : List ℤ) → up_to n ss ≤ length ss
unfolding up_to
up_to_le_lem n [] = omega arith
up_to_le_lem n (s ∷ ss) = omega (arith, one_or_none (le_z s n), up_to_le_lem n ss)

pub tai_le : (n : ℤ) → tai_minus_utc n ≤ 37
tai_le n = omega (arith, tai_is n, up_to_le_lem n step_numbers)

-- a step is counted or not, and then those after it
pub up_to_drop : (n : ℤ) (k : ℕ) → k < 27
    → up_to n (drop k step_numbers) ≡ cond (le_z (get_or step_numbers k (pos 0)) n) 1 0 + up_to n (drop (k + 1) step_numbers)
unfolding up_to
up_to_drop n k h = rw (add-one, drop-cons step_numbers k (pos 0) h)

pub step_le : (k : ℕ) → k < 27 → nat_abs (get_or step_numbers k (pos 0)) ≤ 10045
step_le k h =
    leb→le (nat_abs (get_or step_numbers k (pos 0))) 10045
    (every_at (λ k. leb (nat_abs (get_or step_numbers k (pos 0))) 10045) 27 k tt h)

-- ---- from a day to the next

-- whether n is in a list
unfoldable pub is_in : ℤ → List ℤ → Bool
is_in n [] = false
is_in n (s ∷ ss) = same s n || is_in n ss

-- no number twice
apart : List ℤ → Bool
apart [] = true
apart (s ∷ ss) = not (is_in s ss) && apart ss

no : (b : Bool) → T (not b) → b ≡ false
no true t = absurd t
no false t = refl

pub le_yes : (x y : ℤ) → pos_part x + neg_part y ≤ pos_part y + neg_part x → le_z x y ≡ true
le_yes x y h = yes (le_z x y) (le_of_sizes x y h).le

pub le_no : (x y : ℤ) → pos_part y + neg_part x < pos_part x + neg_part y → le_z x y ≡ false
le_no x y h = go (le_z x y) refl
  where
    go : (b : Bool) → le_z x y ≡ b → le_z x y ≡ false
    go true e = absurd (omega (arith, le_z_true x y e))
    go false e = e

-- a number other than n + 1 is at most n + 1 exactly when it is at most n
same_side : (s n : ℤ) → (s ≡ n +ℤ pos 1 → ⊥) → le_z s (n +ℤ pos 1) ≡ le_z s n
same_side s n f = go (le_z s n) (le_z s (n +ℤ pos 1)) refl refl
  where
    go : (a b : Bool) → le_z s n ≡ a → le_z s (n +ℤ pos 1) ≡ b → b ≡ a
    go true true e g = refl
    go false false e g = refl
    go true false e g = absurd (omega (arith, le_z_true s n e, le_z_false s (n +ℤ pos 1) g, add_is n (pos 1)))
    go false true e g =
        absurd (f (eq_of_parts s (n +ℤ pos 1)
        (omega (arith, le_z_false s n e, le_z_true s (n +ℤ pos 1) g, add_is n (pos 1)))))

not_same : (s n : ℤ) → same s n ≡ false → s ≡ n → ⊥
not_same s n e q = true_not_false (sym ((same_iff s n).1 q) ∙ e)

up_to_suc : (n : ℤ) (ss : List ℤ) → T (apart ss)
    → up_to (n +ℤ pos 1) ss ≡ up_to n ss + cond (is_in (n +ℤ pos 1) ss) 1 0
unfolding up_to is_in apart
up_to_suc n [] t = refl
up_to_suc n (s ∷ ss) t = go (same s (n +ℤ pos 1)) refl (up_to_suc n ss (and_yes (not (is_in s ss)) (apart ss) t).1)
  where
    go : (b : Bool) → same s (n +ℤ pos 1) ≡ b
        → up_to (n +ℤ pos 1) ss ≡ up_to n ss + cond (is_in (n +ℤ pos 1) ss) 1 0
        → cond (le_z s (n +ℤ pos 1)) 1 0 + up_to (n +ℤ pos 1) ss
        ≡ (cond (le_z s n) 1 0 + up_to n ss) + cond (b || is_in (n +ℤ pos 1) ss) 1 0
    go true e h =
        let q : s ≡ n +ℤ pos 1 = (same_iff s (n +ℤ pos 1)).0 e in
        let p = parts_of_eq s (n +ℤ pos 1) q in
        let f : is_in (n +ℤ pos 1) ss ≡ false =
        subst (λ x. is_in x ss ≡ false) q (no (is_in s ss) (and_yes (not (is_in s ss)) (apart ss) t).0) in
        let g : up_to (n +ℤ pos 1) ss ≡ up_to n ss + 0 = rw f at h in
        rw (le_yes s (n +ℤ pos 1) (omega arith), le_no s n (omega (arith, add_is n (pos 1)))) (omega arith)
    go false e h = rw (same_side s n (not_same s (n +ℤ pos 1) e)) (omega arith)

-- one second more on a step, and on no other day
pub tai_suc : (n : ℤ) → tai_minus_utc (n +ℤ pos 1) ≡ tai_minus_utc n + cond (is_in (n +ℤ pos 1) step_numbers) 1 0
unfolding apart is_in same
tai_suc n = omega (arith, tai_is n, tai_is (n +ℤ pos 1), up_to_suc n step_numbers tt)

pub before_step_is : (n : ℤ) → before_step n ≡ is_in (n +ℤ pos 1) step_numbers
unfolding before_step
before_step_is n = go (is_in (n +ℤ pos 1) step_numbers) (tai_suc n)
  where
    go : (b : Bool) → tai_minus_utc (n +ℤ pos 1) ≡ tai_minus_utc n + cond b 1 0
        → not (eqb (tai_minus_utc n) (tai_minus_utc (n +ℤ pos 1))) ≡ b
    go true e = rw (ne_eqb (tai_minus_utc n) (tai_minus_utc (n +ℤ pos 1)) (λ q. omega arith))
    go false e = rw (eq-eqb (tai_minus_utc n) (tai_minus_utc (n +ℤ pos 1)) (omega arith))

-- n is one of a list
abbrev pub OneOf : ℤ → List ℤ → Type 0
OneOf n [] = ⊥
OneOf n (s ∷ ss) = (s ≡ n) ⊎ OneOf n ss

one_of_iff : (n : ℤ) (ss : List ℤ) → is_in n ss ≡ true ↔ OneOf n ss
unfolding is_in
one_of_iff n [] = (λ e. true_not_false (sym e), λ p. absurd p)
one_of_iff n (s ∷ ss) = go (same s n) (same_iff s n) (one_of_iff n ss)
  where
    go : (b : Bool) → (b ≡ true ↔ s ≡ n) → (is_in n ss ≡ true ↔ OneOf n ss)
        → (b || is_in n ss ≡ true ↔ (s ≡ n) ⊎ OneOf n ss)
    go true f g = (λ e. inl (f.0 refl), λ p. refl)
    go false f g = (λ e. inr (g.0 e), λ p. ⊎_elim (λ q. true_not_false (sym (f.1 q))) (λ q. g.1 q) p)

-- "the day before a step": the next day is one of those that 01 lists
pub before_step_iff : (n : ℤ) → before_step n ≡ true ↔ OneOf (n +ℤ pos 1) (map day_number steps)
before_step_iff n =
    subst (λ ss. before_step n ≡ true ↔ OneOf (n +ℤ pos 1) ss) (sym steps_are)
    (rw (before_step_is n) (one_of_iff (n +ℤ pos 1) step_numbers))
