-- A command that ends in pressure and temperature, by what each of them is.
use Rattle.std.specs.Prelude.{◌≡◌, Bool, true, false, cond, ◌&&◌, List, [], ◌∷◌, ℕ, ℤ, Option, Some, None, refl, eqb}
use Rattle.std.proofs.Common.{sym, ap, ◌∙◌}
use lib.Pointwise.{pointwise}
use Rattle.rules.specs.Bytes.{same_bytes}
use Rattle.numerals.specs.Tenths.{of_tenths, tenths_of, tenths_in}
use Rattle.line_places.specs.declared.command.Command.{Command}
use Rattle.line_places.specs.Air.{air_of, command_for}
use Rattle.line_places.specs.Program.{people_word, with_air}

-- what a command is by its pressure and its temperature
abbrev with_both : Bool → Option ℤ → Option ℤ → Option Command
with_both people None t = None
with_both people (Some p) None = None
with_both people (Some p) (Some t) = Some (command_for people (Some (air_of p t)))

by_both : (people : Bool) (pressure temperature : List ℕ)
    → with_air people pressure temperature ≡ with_both people (tenths_in pressure) (tenths_in temperature)
unfolding with_air tenths_in
by_both people pressure temperature = go (of_tenths pressure) (of_tenths temperature)
  where
    p : ℤ
    p = tenths_of pressure

    t : ℤ
    t = tenths_of temperature

    go : (a b : Bool) → cond {A = Option Command} (a && b) (Some (command_for people (Some (air_of p t)))) None
        ≡ with_both people (cond a (Some p) None) (cond b (Some t) None)
    go true true = refl
    go true false = refl
    go false true = refl
    go false false = refl

module _ (people : Bool) (pressure temperature : List ℕ) where
  pub without_pressure : tenths_in pressure ≡ None → with_air people pressure temperature ≡ None
  without_pressure e = rw (by_both people pressure temperature, e)

  pub without_temperature : (p : ℤ) → tenths_in pressure ≡ Some p → tenths_in temperature ≡ None
      → with_air people pressure temperature ≡ None
  without_temperature p e f = rw (by_both people pressure temperature, e, f)

  pub with_air_is : (p t : ℤ) → tenths_in pressure ≡ Some p → tenths_in temperature ≡ Some t
      → with_air people pressure temperature ≡ Some (command_for people (Some (air_of p t)))
  with_air_is p t e f = rw (by_both people pressure temperature, e, f)

-- ---- the third word

pub same_pointwise : (xs ys : List ℕ) → pointwise eqb xs ys ≡ same_bytes xs ys
unfolding same_bytes
same_pointwise [] [] = refl
same_pointwise [] (y ∷ ys) = refl
same_pointwise (x ∷ xs) [] = refl
same_pointwise (x ∷ xs) (y ∷ ys) = rw (same_pointwise xs ys)

-- whether it is `sexagesimal`
pub people_is : (third word : List ℕ) (r : Bool) → r ≡ pointwise eqb third word → word ≡ people_word
    → same_bytes third people_word ≡ r
people_is third word r e f = sym (e ∙ same_pointwise third word ∙ ap (same_bytes third) f)
