-- `time_of_day::instants_at` meets its contract.
use Prim.Native.Nat.{ℕ, ◌+◌, ◌*◌}
use lib.IntN.{ℤ, pos, ◌+ℤ◌, ◌*ℤ◌}
use Rattle.words.specs.Holds.{Holds, bits, ◌+ʷ◌, ◌-ʷ◌, ◌*ʷ◌, lit, got, arg, add, add_ok, mul, mul_ok, sub}
use Rattle.rules.specs.Dates.{tai_minus_utc}
use Rattle.laws.specs.Seconds.{tai_le}
use Rattle.laws.specs.OfNumbers.{utc_at}
use Rattle.time_of_day.proofs.instants_at.Goals as goal
use Rattle.time_of_day.proofs.instants_at.Goals.{After-tai_minus_utc, After-utc_ms-utc, Start}

abbrev most : ℕ
most = 36524 * 86400000 + 86400999 + 43200000

module _ (c : Start) where
  day : Holds (bits c.args.day) c.args.day 36524
  day = arg c.args.day c.requires.day_le tt

  ms : Holds (bits c.args.ms) c.args.ms 86400999
  ms = arg c.args.ms c.requires.ms_le tt

  ut1_minus_utc : Holds (bits c.args.ut1_minus_utc) c.args.ut1_minus_utc 900
  ut1_minus_utc = arg c.args.ut1_minus_utc c.requires.ut1_minus_utc_le tt

  sum : Holds (bits c.args.day *ʷ 86400000 +ʷ bits c.args.ms -ʷ 43200000) (utc_at c.args.day c.args.ms)
      most
  sum = sub (add (mul day (lit 86400000 tt) tt) ms tt) (lit 43200000 tt) tt

utc : (c : After-utc_ms-utc) → Holds (bits c.utc_ms-utc.result) (utc_at c.before.args.day c.before.args.ms)
    most
utc c =
    let s = c.before in
    got (rw ((day s).value, (ms s).value) at c.utc_ms-utc.ensures) (sum s).size tt

module _ (c : After-tai_minus_utc) where
  abbrev n : ℤ
  n = c.before.before.args.day

  tai : Holds (bits c.tai_minus_utc.result) (pos (tai_minus_utc n)) 37
  tai = got (rw (day c.before.before).value at c.tai_minus_utc.ensures) (tai_le n) tt

  tai_ms : Holds (1000 *ʷ bits c.tai_minus_utc.result) (pos 1000 *ℤ pos (tai_minus_utc n)) (1000 * 37)
  tai_ms = mul (lit 1000 tt) tai tt

  added : Holds (32184 +ʷ 1000 *ʷ bits c.tai_minus_utc.result) (pos 32184 +ℤ pos 1000 *ℤ pos (tai_minus_utc n))
      (32184 + 1000 * 37)
  added = add (lit 32184 tt) tai_ms tt

pub returns : goal.returns
returns c = rw (
  (add (utc c.before) (ut1_minus_utc c.before.before) tt).value,
  (add (utc c.before) (added c) tt
      ).value,
)

pub overflow_mul-tt : goal.overflow_mul-tt
overflow_mul-tt c = mul_ok (lit 1000 tt) (tai c) tt

pub overflow_add-tt : goal.overflow_add-tt
overflow_add-tt c = add_ok (lit 32184 tt) (tai_ms c) tt

pub overflow_add-tt-2 : goal.overflow_add-tt-2
overflow_add-tt-2 c = add_ok (utc c.before) (added c) tt
