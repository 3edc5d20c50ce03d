-- A term's two products.
use Rattle.rules.specs.declared.Tt.{Tt}
use Rattle.rules.specs.declared.Term.{Term}
use Rattle.rules.specs.declared.Nutation.{Nutation}
use Rattle.rules.specs.Nutation.{longitude_product, obliquity_product}

-- before they are summed
abbrev pub products_of : Tt → Term → Nutation
products_of t m = record { longitude = longitude_product t m; obliquity = obliquity_product t m }
