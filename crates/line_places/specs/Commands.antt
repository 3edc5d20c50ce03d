-- The words of a command: two rows of bytes that are found the same, and what a command is by its words.
use Rattle.std.specs.Prelude.{◌≡◌, Bool, ◌&&◌, List, [], ◌∷◌, ℕ, eqb, Some, None}
use Rattle.std.proofs.Math.Path.{refl}
use Rattle.std.proofs.Common.{sym, ap, ◌∙◌}
use Rattle.std.proofs.Math.Bool.{true, false, cond}
use borrow.Author.Tests.{eq-eqb, ne_eqb}
use Rattle.rules.specs.Bytes.{same_bytes}
use Rattle.laws.specs.FileTests.{same_bytes_lem}
use Rattle.laws.specs.Ranges.{true_not_false}
use Rattle.line_places.specs.Program.{people_word, with_air, command_of}
use Rattle.line_places.specs.Air.{command_for}

-- ---- rows of bytes

same_self : (xs : List ℕ) → same_bytes xs xs ≡ true
unfolding same_bytes
same_self [] = refl
same_self (x ∷ xs) = rw (eq-eqb x x refl) (same_self xs)

pub same_is : (xs ys : List ℕ) (r : Bool) → (r ≡ true → xs ≡ ys) → (xs ≡ ys → r ≡ true) → r ≡ same_bytes xs ys
same_is xs ys true found told = sym (ap (λ zs. same_bytes zs ys) (found refl) ∙ same_self ys)
same_is xs ys false found told = sym (go (same_bytes xs ys) refl)
  where
    go : (t : Bool) → same_bytes xs ys ≡ t → same_bytes xs ys ≡ false
    go true e = true_not_false (sym (told (same_bytes_lem xs ys e)))
    go false e = e

-- ---- a command, by how many words it has

module _ (words : ℕ) (third fourth fifth : List ℕ) where
  pub command_of_2 : words ≡ 2 → command_of words third fourth fifth ≡ Some (command_for false None)
  unfolding command_of
  command_of_2 e = rw e

  pub command_of_3 : words ≡ 3 → same_bytes third people_word ≡ true
      → command_of words third fourth fifth ≡ Some (command_for true None)
  unfolding command_of
  command_of_3 e s = rw (e, s)

  pub command_of_4 : words ≡ 4 → command_of words third fourth fifth ≡ with_air false third fourth
  unfolding command_of
  command_of_4 e = rw e

  pub command_of_5 : words ≡ 5 → same_bytes third people_word ≡ true
      → command_of words third fourth fifth ≡ with_air true fourth fifth
  unfolding command_of
  command_of_5 e s = rw (e, s)

  -- another third word
  pub command_of_another : (words ≡ 2 → ⊥) → (words ≡ 4 → ⊥) → same_bytes third people_word ≡ false
      → command_of words third fourth fifth ≡ None
  unfolding command_of
  command_of_another h k s = rw (ne_eqb words 2 h, ne_eqb words 4 k, s) (go (eqb words 3) (eqb words 5))
    where
      go : (a b : Bool) → cond (a && false) (Some (command_for true None))
          (cond (b && false) (with_air true fourth fifth) None) ≡ None
      go true true = refl
      go true false = refl
      go false true = refl
      go false false = refl

  -- another number of words
  pub command_else : (words ≡ 2 → ⊥) → (words ≡ 4 → ⊥) → (words ≡ 3 → ⊥) → (words ≡ 5 → ⊥)
      → command_of words third fourth fifth ≡ None
  unfolding command_of
  command_else h k l m = rw (ne_eqb words 2 h, ne_eqb words 3 l, ne_eqb words 4 k, ne_eqb words 5 m)
