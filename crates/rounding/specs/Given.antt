-- The size of a dividend that leaves room in the word, so that half of the divisor can be added. Definitions only.
use Rattle.std.specs.Prelude.{ℕ, ◌^◌}

abbrev pub most_dividend : ℕ
most_dividend = 2 ^ 62
