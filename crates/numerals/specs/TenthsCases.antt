-- Words of a pressure or a temperature worked out: their tenths, and forms that are none, as one list under one claim.
use Rattle.std.specs.Prelude.{◌≡◌, refl, true, false, List, [], ◌∷◌, ℕ, ℤ}
use Rattle.rules.specs.Units.{+◌, −◌}
use Rattle.rules.specs.Numerals.{is_digit, alike, of_form, negative, unsigned, of_digits, spelled}
use Rattle.numerals.specs.Tenths.{has_point, before_point, after_point, of_size, size_of, of_tenths, tenths_of}

-- a word of the form, and its tenths
abbrev pub Spells : List ℕ → ℤ → Type 0
Spells word n = (of_tenths word ≡ true) × (tenths_of word ≡ n)

pub record TenthsCases : Type 0 where
  -- `1013`
  pub of_1013 : Spells (49 ∷ 48 ∷ 49 ∷ 51 ∷ []) (+ 10130)
  -- `1013.2`
  pub of_1013_and_2 : Spells (49 ∷ 48 ∷ 49 ∷ 51 ∷ 46 ∷ 50 ∷ []) (+ 10132)
  -- `-10.5`
  pub of_minus_10_and_5 : Spells (45 ∷ 49 ∷ 48 ∷ 46 ∷ 53 ∷ []) (− 105)
  -- `-0.5`
  pub of_minus_0_and_5 : Spells (45 ∷ 48 ∷ 46 ∷ 53 ∷ []) (− 5)
  -- `0.5`
  pub of_0_and_5 : Spells (48 ∷ 46 ∷ 53 ∷ []) (+ 5)
  -- `-0`
  pub of_minus_0 : Spells (45 ∷ 48 ∷ []) (+ 0)
  -- `9999.9`
  pub of_9999_and_9 : Spells (57 ∷ 57 ∷ 57 ∷ 57 ∷ 46 ∷ 57 ∷ []) (+ 99999)
  -- `0050`
  pub of_0050 : Spells (48 ∷ 48 ∷ 53 ∷ 48 ∷ []) (+ 500)
  -- no bytes
  pub none : of_tenths [] ≡ false
  -- `-`
  pub minus_alone : of_tenths (45 ∷ []) ≡ false
  -- `.`
  pub point_alone : of_tenths (46 ∷ []) ≡ false
  -- `.5`
  pub nothing_before_the_point : of_tenths (46 ∷ 53 ∷ []) ≡ false
  -- `-.5`
  pub nothing_between_minus_and_point : of_tenths (45 ∷ 46 ∷ 53 ∷ []) ≡ false
  -- `5.`
  pub nothing_after_the_point : of_tenths (53 ∷ 46 ∷ []) ≡ false
  -- `1013.25`
  pub two_digits_after_the_point : of_tenths (49 ∷ 48 ∷ 49 ∷ 51 ∷ 46 ∷ 50 ∷ 53 ∷ []) ≡ false
  -- `10132.5`
  pub five_digits_before_the_point : of_tenths (49 ∷ 48 ∷ 49 ∷ 51 ∷ 50 ∷ 46 ∷ 53 ∷ []) ≡ false
  -- `10000`
  pub five_digits : of_tenths (49 ∷ 48 ∷ 48 ∷ 48 ∷ 48 ∷ []) ≡ false
  -- `+5`
  pub plus : of_tenths (43 ∷ 53 ∷ []) ≡ false
  -- `--5`
  pub two_minuses : of_tenths (45 ∷ 45 ∷ 53 ∷ []) ≡ false
  -- `1,5`
  pub comma : of_tenths (49 ∷ 44 ∷ 53 ∷ []) ≡ false
  -- `1.a`
  pub letter_after_the_point : of_tenths (49 ∷ 46 ∷ 97 ∷ []) ≡ false
  -- `1..5`
  pub two_points : of_tenths (49 ∷ 46 ∷ 46 ∷ 53 ∷ []) ≡ false
  -- ` 5`
  pub space : of_tenths (32 ∷ 53 ∷ []) ≡ false
  -- `5e1`
  pub exponent : of_tenths (53 ∷ 101 ∷ 49 ∷ []) ≡ false

pub tenths_cases : TenthsCases
unfolding is_digit alike of_form negative unsigned of_digits spelled has_point before_point after_point of_size size_of of_tenths
    tenths_of
tenths_cases = record {
  of_1013 = (refl, refl);
  of_1013_and_2 = (refl, refl);
  of_minus_10_and_5 = (refl, refl);
  of_minus_0_and_5 = (refl, refl);
  of_0_and_5 = (refl, refl);
  of_minus_0 = (refl, refl);
  of_9999_and_9 = (refl, refl);
  of_0050 = (refl, refl);
  none = refl;
  minus_alone = refl;
  point_alone = refl;
  nothing_before_the_point = refl;
  nothing_between_minus_and_point = refl;
  nothing_after_the_point = refl;
  two_digits_after_the_point = refl;
  five_digits_before_the_point = refl;
  five_digits = refl;
  plus = refl;
  two_minuses = refl;
  comma = refl;
  letter_after_the_point = refl;
  two_points = refl;
  space = refl;
  exponent = refl;
}
