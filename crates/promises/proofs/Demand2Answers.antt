-- Demand 2 of UT and of TT alone.
use Rattle.std.specs.Prelude.{pos}
use Rattle.std.proofs.Common.{lit≤}
use Rattle.rules.specs.declared.Ut.{Ut}
use Rattle.rules.specs.declared.Tt.{Tt}
use Rattle.laws.specs.Instant.{InRange}
use Rattle.promises.specs.Demand2.{PolynomialsWithin2, each_polynomial_within_2}

pub of_tt : (t : Tt) → InRange t.0 → PolynomialsWithin2 t (record { 0 = pos 0 })
of_tt t h = each_polynomial_within_2 t (record { 0 = pos 0 }) h (lit≤ tt)

pub of_ut : (u : Ut) → InRange u.0 → PolynomialsWithin2 (record { 0 = pos 0 }) u
of_ut u h = each_polynomial_within_2 (record { 0 = pos 0 }) u (lit≤ tt) h
