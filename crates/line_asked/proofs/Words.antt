-- The first of some bytes that is one: the library's way of saying it, and whether it is there.
use Rattle.std.specs.Prelude.{◌≡◌, refl, Bool, true, false, cond, not, List, [], ◌∷◌, ℕ, suc, ◌+◌, ◌≤◌, ◌<◌, ◌==◌, eqb, nat_lt, length, Some, None}
use Rattle.std.proofs.Common.{sym, ◌∙◌, arith, ltb-true, ltb-false}
use Rattle.std.specs.List.{position, position_or_len}
use Rattle.std.specs.Option.{unwrap_or}
use Rattle.line_asked.specs.Asking.{length_before}
use Rattle.line_asked.specs.Words.{before_le}

before_is : (byte : ℕ) (bs : List ℕ) → position_or_len (λ b. b == byte) bs ≡ length_before byte bs
unfolding length_before
before_is byte [] = refl
before_is byte (b ∷ bs) = go (eqb b byte) (before_is byte bs)
  where
    go : (t : Bool) → position_or_len (λ b. b == byte) bs ≡ length_before byte bs
        → cond (not t) (1 + position_or_len (λ b. b == byte) bs) 0 ≡ cond t 0 (suc (length_before byte bs))
    go true e = refl
    go false e = omega arith

pub first_or_all : (byte : ℕ) (bs : List ℕ) → unwrap_or (position (λ b. b == byte) bs) (length bs) ≡ length_before byte bs
first_or_all byte bs = go (nat_lt p (length bs)) refl ∙ before_is byte bs
  where
    p : ℕ
    p = position_or_len (λ b. b == byte) bs

    go : (t : Bool) → nat_lt p (length bs) ≡ t → unwrap_or (cond t (Some p) None) (length bs) ≡ p
    go true e = refl
    go false e = omega (arith, ltb-false p (length bs) e, before_is byte bs, before_le byte bs)

-- ---- whether it is there

pub place_some : (byte : ℕ) (bs : List ℕ) (n : ℕ) → position (λ b. b == byte) bs ≡ Some n
    → (n ≡ length_before byte bs) × (length_before byte bs < length bs)
place_some byte bs n e = go (nat_lt p (length bs)) refl e
  where
    p : ℕ
    p = position_or_len (λ b. b == byte) bs

    go : (t : Bool) → nat_lt p (length bs) ≡ t → cond t (Some p) None ≡ Some n
        → (n ≡ length_before byte bs) × (length_before byte bs < length bs)
    go true f g =
        let q : p ≡ n = cc in
        (sym q ∙ before_is byte bs, omega (arith, before_is byte bs, ltb-true p (length bs) f))
    go false f g = absurd cc

pub place_none : (byte : ℕ) (bs : List ℕ) → position (λ b. b == byte) bs ≡ None → length bs ≤ length_before byte bs
place_none byte bs e = go (nat_lt p (length bs)) refl e
  where
    p : ℕ
    p = position_or_len (λ b. b == byte) bs

    go : (t : Bool) → nat_lt p (length bs) ≡ t → cond t (Some p) None ≡ None → length bs ≤ length_before byte bs
    go true f g = absurd cc
    go false f g = omega (arith, before_is byte bs, ltb-false p (length bs) f)
