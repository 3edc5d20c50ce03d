-- The sums are those of the products of the terms passed.
use Rattle.std.proofs.Common.{◌≡◌}
use Rattle.rules.specs.Nutation.{longitude_product, obliquity_product}
use Rattle.nutation.proofs.Sums.{sum_to}
use Rattle.nutation.proofs.nutation_of.Given as goal

abbrev pub invariant-loop-term : goal.invariant-loop-term
invariant-loop-term l = record {
  longitude_is : l.longitude ≡ sum_to (longitude_product l.t) l.term-index;
  obliquity_is : l.obliquity ≡ sum_to (obliquity_product l.t) l.term-index;
}
