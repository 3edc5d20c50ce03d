-- One number that may be refused, as C gets it: the refusal's number and a nought, or 0 and the number. Definitions only.
use Rattle.std.specs.Prelude.{ℤ, pos, Result, Ok, Err}
use Rattle.rules.specs.declared.Refusal.{Refusal}
use Rattle.rules.specs.Refusals.{number}

unfoldable pub numbered : {T : Type 0} → Result T Refusal → T → ℤ × T
numbered (Ok x) nought = (pos 0, x)
numbered (Err r) nought = (pos (number r), nought)
