-- The terms of nutation by their place in the table.
use Rattle.std.specs.Prelude.{ℕ, length, get_or}
use Rattle.rules.specs.declared.Term.{Term}
use Rattle.rules.specs.Units.{+◌}
use Rattle.rules.specs.Nutation.{row, terms}

-- what stands past the table's end
abbrev pub no_term : Term
no_term = row (+ 0, + 0, + 0, + 0, + 0, + 0, + 0, + 0, + 0)

-- as many as the table has
abbrev pub term_count : ℕ
term_count = length terms

abbrev pub term_at : ℕ → Term
term_at k = get_or terms k no_term
