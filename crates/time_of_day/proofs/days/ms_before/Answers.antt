-- `time_of_day::days::ms_before` meets its contract.
use Prim.Native.Nat.{ℕ, ◌+◌, ◌-◌}
use lib.IntN.{pos, nat_abs}
use Rattle.words.specs.Holds.{Holds, bits, ◌-ʷ◌, lit, got, add, add_ok, sub, sub_nat, mul, mul_ok}
use Rattle.laws.specs.Seconds.{tai_le}
use Rattle.laws.specs.Days.{day_on, tai_on, tai_ge, ms_before}
use Rattle.time_of_day.proofs.days.ms_before.Goals as goal
use Rattle.time_of_day.proofs.days.ms_before.Goals.{After-tai_minus_utc, Start}

module _ (c : Start) where
  abbrev n : ℕ
  n = nat_abs c.args.days

  days : Holds (bits c.args.days) (pos n) 46752
  days = got c.requires.is c.requires.at_most tt

  number : Holds (bits c.args.days -ʷ 10227) (day_on n) (46752 + 10227)
  number = sub days (lit 10227 tt) tt

module _ (c : After-tai_minus_utc) where
  tai : Holds (bits c.tai_minus_utc.result) (pos (tai_on (n c.before))) 37
  tai = got (rw (number c.before).value at c.tai_minus_utc.ensures) (tai_le (day_on (n c.before))) tt

  added : Holds (bits c.tai_minus_utc.result -ʷ 10) (pos (tai_on (n c.before) - 10)) 37
  added = sub_nat tai (lit 10 tt) (tai_ge (n c.before)) tt

pub returns : goal.returns
unfolding ms_before
returns c = (add (mul (days c.before) (lit 86400000 tt) tt) (mul (lit 1000 tt) (added c) tt) tt).value

pub overflow_mul-result-2 : goal.overflow_mul-result-2
overflow_mul-result-2 c = mul_ok (lit 1000 tt) (added c) tt

pub overflow_add-result : goal.overflow_add-result
overflow_add-result c = add_ok (mul (days c.before) (lit 86400000 tt) tt) (mul (lit 1000 tt) (added c) tt) tt
