-- The invariant of the loop of `numerals::spelled`.
use Rattle.std.proofs.Common.{◌≡◌, ◌≤◌, pos, nat_abs, drop}
use Rattle.rules.specs.Numerals as rule
use Rattle.laws.specs.Lines as law
use Rattle.numerals.proofs.spelled.Given as goal

abbrev pub invariant-loop-b : goal.invariant-loop-b
invariant-loop-b l = record {
  positive : l.n ≡ pos (nat_abs l.n);
  small : nat_abs l.n ≤ law.most l.b-index;
  whole : rule.spelled (nat_abs l.n) (drop l.b-index l.s) ≡ rule.spelled 0 l.s;
}
