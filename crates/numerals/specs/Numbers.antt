-- The number that a row of bytes is, where it is one: the definition, and what it says of `of_number` and `signed`.
use Rattle.std.specs.Prelude.{◌≡◌, refl, Bool, true, false, ℕ, cond, List, ℤ, Option, Some, None}
use Rattle.rules.specs.Numerals.{of_number, signed}

-- an optional minus, then 1 to `most` digits
unfoldable pub number_in : ℕ → List ℕ → Option ℤ
number_in most bs = cond (of_number most bs) (Some (signed bs)) None

-- ---- laws

pub number_some : (most : ℕ) (bs : List ℕ) (z : ℤ) → number_in most bs ≡ Some z → (of_number most bs ≡ true) × (signed bs ≡ z)
unfolding number_in
number_some most bs z e = go (of_number most bs) refl e
  where
    go : (b : Bool) → of_number most bs ≡ b → cond b (Some (signed bs)) None ≡ Some z → (of_number most bs ≡ true) × (signed bs ≡ z)
    go true f e = (f, cc)
    go false f e = absurd cc

pub number_none : (most : ℕ) (bs : List ℕ) → number_in most bs ≡ None → of_number most bs ≡ false
unfolding number_in
number_none most bs e = go (of_number most bs) refl e
  where
    go : (b : Bool) → of_number most bs ≡ b → cond b (Some (signed bs)) None ≡ None → of_number most bs ≡ false
    go true f e = absurd cc
    go false f e = f
