-- docs/RULES.md, "Dates": years and months, and their days. Definitions only.
use Rattle.std.specs.Prelude.{ℕ, zero, suc, ◌+◌, ◌-◌, ◌%◌, cond, get_or, eqb, ltb}
use mathlib.Core.List.{List, [], ◌∷◌, map, foldr}

-- "Days per month come from two rows, common and leap": January to December
abbrev pub days_per_month : List (List ℕ)
days_per_month =
    (31 ∷ 28 ∷ 31 ∷ 30 ∷ 31 ∷ 30 ∷ 31 ∷ 31 ∷ 30 ∷ 31 ∷ 30 ∷ 31 ∷ [])
    ∷ (31 ∷ 29 ∷ 31 ∷ 30 ∷ 31 ∷ 30 ∷ 31 ∷ 31 ∷ 30 ∷ 31 ∷ 30 ∷ 31 ∷ [])
    ∷ []

-- "Gregorian calendar": 1 in a leap year, 0 in a common one
unfoldable pub leap : ℕ → ℕ
leap y = cond (eqb (y % 4) 0) (cond (eqb (y % 100) 0) (cond (eqb (y % 400) 0) 1 0) 1) 0

-- the year's row
unfoldable pub months : ℕ → List ℕ
months y = get_or days_per_month (leap y) []

-- the span of years
abbrev pub first_year : ℕ
first_year = 1972

abbrev pub last_year : ℕ
last_year = 2099

unfoldable pub sum : List ℕ → ℕ
sum ns = foldr ◌+◌ 0 ns

-- `count` numbers from n up
unfoldable pub up_from : ℕ → ℕ → List ℕ
up_from n zero = []
up_from n (suc count) = n ∷ up_from (suc n) count

-- the days of each year of the span
unfoldable pub years : List ℕ
years = map (λ y. sum (months y)) (up_from first_year (last_year - first_year + 1))

-- where day n falls in a row of spans: the index of its span, and of the day in the span, both from 0
pub record Fall : Type 0 where
  pub span : ℕ
  pub day : ℕ

unfoldable pub fall : List ℕ → ℕ → Fall
fall [] n = record { span = 0; day = n }
fall (days ∷ rest) n =
    let later = fall rest (n - days) in
    cond (ltb n days) (record { span = 0; day = n }) (record { span = suc later.span; day = later.day })
