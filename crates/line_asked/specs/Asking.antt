-- Our own program `places`, not document 01: the line that it reads, in bytes. Definitions only.
-- The line is one of `times`, a space, the latitude, a space, the longitude:
-- `YYYY-MM-DD hh:mm:ss.mmm d latitude longitude`, both in µas, each an optional minus and then 1 to 12 digits.
use Rattle.std.specs.Prelude.{ℕ, suc, ◌+◌, Bool, cond, ◌&&◌, List, [], ◌∷◌, ◌++◌, length, take, drop, eqb, Option, Some, None}
use Rattle.rules.specs.declared.Moment.{Moment}
use Rattle.rules.specs.declared.Site.{Site}
use Rattle.rules.specs.Refusals.{Answer, given, other_form}
use Rattle.rules.specs.Answers.{moment_numbers}
use Rattle.rules.specs.Numerals.{space, of_number, signed}
use Rattle.rules.specs.Lines.{form, line_of}
use Rattle.line_asked.specs.declared.Asked.{Asked}

-- ---- words

-- how many bytes come before the first that is `byte`; all where none is
unfoldable pub length_before : ℕ → List ℕ → ℕ
length_before byte [] = 0
length_before byte (b ∷ bs) = cond (eqb b byte) 0 (suc (length_before byte bs))

-- before the first space
abbrev pub word_length : List ℕ → ℕ
word_length bs = length_before space bs

-- the bytes before the first space
unfoldable pub first_word : List ℕ → List ℕ
first_word bs = take (word_length bs) bs

-- and after it; none where there is no space
unfoldable pub after_word : List ℕ → List ℕ
after_word bs = drop (word_length bs + 1) bs

-- ---- what is asked

abbrev pub asked_for : Moment → Site → Asked
asked_for m site = record { moment = m; site = site }

-- ---- the site

-- the most digits of an angle: of half a circle, in µas
abbrev pub angle_digits : ℕ
angle_digits = 12

-- `latitude longitude`
unfoldable pub of_site : List ℕ → Bool
of_site bs = of_number angle_digits (first_word bs) && of_number angle_digits (after_word bs)

unfoldable pub site_in : List ℕ → Site
site_in bs = record { latitude = signed (first_word bs); longitude = signed (after_word bs) }

-- ---- the line

-- a moment, and what follows its line and a space
unfoldable pub with_site : Moment → List ℕ → Option Asked
with_site m bs = cond (of_site bs) (Some (asked_for m (site_in bs))) None

unfoldable pub asked_in : Option Moment → List ℕ → Option Asked
asked_in (Some m) bs = with_site m bs
asked_in None bs = None

-- where the line of `times` ends: at the first space after its form, or where all ends
unfoldable pub moment_end : List ℕ → ℕ
moment_end line = length form + word_length (drop (length form) line)

-- a line without its end
unfoldable pub asked_of : List ℕ → Option Asked
asked_of line = asked_in (line_of (take (moment_end line) line)) (drop (moment_end line + 1) line)

-- ---- number and values: the eight numbers of the moment, latitude, longitude

unfoldable pub asked_answer : Option Asked → Answer
asked_answer (Some a) = given (moment_numbers a.moment ++ a.site.latitude ∷ a.site.longitude ∷ [])
asked_answer None = other_form
