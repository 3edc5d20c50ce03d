-- The line of a refusal by its number. Definitions only.
use Rattle.std.specs.Prelude.{ℕ, List, ◌++◌, ℤ}
use Rattle.rules.specs.Times.{decimal}
use Rattle.laws.specs.Times.{refused_text}

abbrev pub refused_to : ℤ → List ℕ
refused_to number = refused_text ++ decimal number
