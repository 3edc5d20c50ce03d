-- What the tests' exports of the angles of an instant are given: plain numbers. Definitions only.
use Rattle.std.specs.Prelude.{ℤ}
use Rattle.rules.specs.declared.Tt.{Tt}
use Rattle.rules.specs.declared.Ut.{Ut}

-- a plain number as a TT instant, as a UT instant
abbrev pub in_tt : ℤ → Tt
in_tt t = record { 0 = t }

abbrev pub in_ut : ℤ → Ut
in_ut t = record { 0 = t }
