-- docs/RULES.md, "Refusal numbers": "Checks run in rising number where several apply". Definitions only.
use Rattle.std.specs.Prelude.{Bool, cond, List, [], ◌∷◌}
use Rattle.rules.specs.Data.{Refusal}

-- a refusal, and whether what it is given for is so
pub record Check : Type 0 where
  pub given : Bool
  pub refusal : Refusal

infix 80 ◌if◌
abbrev pub ◌if◌ : Refusal → Bool → Check
r if b = record { given = b; refusal = r }

-- the first refusal of the checks that is given, else the answer
unfoldable pub first : {A : Type 0} → List Check → (Refusal → A) → A → A
first [] refuse answer = answer
first (c ∷ cs) refuse answer = cond c.given (refuse c.refusal) (first cs refuse answer)
