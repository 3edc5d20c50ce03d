-- `utc::clock::time_of_ms` meets its contract.
use mathlib.Core.Path.{◌≡◌, ◌∙◌}
use Prim.Native.Nat.{ℕ, ◌-◌, ◌*◌, ◌/◌, ◌%◌, ◌≤◌, ◌^◌}
use native.Mathlib.Omega.{arith}
use lib.Dec.{T, ltb, ltb→lt}
use lib.IntN.{pos, nat_abs}
use lib.Signed.{lt_z_yes}
use mir.Syntax.{w32, w64}
use mir.Val.{SFits, to_z, of_z}
use mir.Facts.{to_z-of_z}
use Rattle.words.specs.Holds.{Holds, bits, ◌-ʷ◌, ◌*ʷ◌, ◌/ʷ◌, ◌%ʷ◌, lit, got, sub_nat, sub_ok, mul, mul_ok}
use Rattle.words.specs.Holds.{div_lit, div_ok, rem}
use Rattle.words.specs.Fits.{fits32}
use Rattle.rules.specs.Utc.{minutes_of_day, time_of_ms}
use Rattle.utc.proofs.clock.time_of_ms.Goals as goal
use Rattle.utc.proofs.clock.time_of_ms.Goals.{After-minutes_of_day-minutes}

-- a small number in 32 bits
small : {n k b : ℕ} → Holds n (pos k) b → T (ltb b (2 ^ 31)) → SFits w32 (to_z w64 n)
small {n} {k} {b} h t = rw h.value (fits32 (pos k) (omega (arith, h.size, ltb→lt b (2 ^ 31) t)))

narrowed : {n k b : ℕ} → Holds n (pos k) b → T (ltb b (2 ^ 31)) → to_z w32 (of_z w32 (to_z w64 n)) ≡ pos k
narrowed h t = to_z-of_z (small h t) ∙ h.value

minutes_le : (n : ℕ) → minutes_of_day n ≤ 1439
unfolding minutes_of_day
minutes_le n = omega arith

minutes_within : (n : ℕ) → minutes_of_day n * 60000 ≤ n
unfolding minutes_of_day
minutes_within n = omega arith

module _ (c : After-minutes_of_day-minutes) where
  abbrev n : ℕ
  n = nat_abs c.before.args.ms

  abbrev ms : ℕ
  ms = bits c.before.args.ms

  abbrev minutes : ℕ
  minutes = bits c.minutes_of_day-minutes.result

  ms_is : Holds ms (pos n) 86400999
  ms_is = got c.before.requires.is c.before.requires.at_most tt

  minutes_is : Holds minutes (pos (minutes_of_day n)) 1439
  minutes_is = got (rw ms_is.value at c.minutes_of_day-minutes.ensures) (minutes_le n) tt

  hour : Holds (minutes /ʷ 60) (pos (minutes_of_day n / 60)) (1439 / 60)
  hour = div_lit 60 minutes_is tt tt tt

  minute : Holds (minutes %ʷ 60) (pos (minutes_of_day n % 60)) 59
  minute = rem minutes_is (lit 60 tt) (lt_z_yes tt) tt

  whole : Holds (minutes *ʷ 60000) (pos (minutes_of_day n * 60000)) (1439 * 60000)
  whole = mul minutes_is (lit 60000 tt) tt

  rest : Holds (ms -ʷ minutes *ʷ 60000) (pos (n - minutes_of_day n * 60000)) 86400999
  rest = sub_nat ms_is whole (minutes_within n) tt

  second : Holds ((ms -ʷ minutes *ʷ 60000) /ʷ 1000) (pos ((n - minutes_of_day n * 60000) / 1000)) (86400999 / 1000)
  second = div_lit 1000 rest tt tt tt

  part : Holds (ms %ʷ 1000) (pos (n % 1000)) 999
  part = rem ms_is (lit 1000 tt) (lt_z_yes tt) tt

pub returns : goal.returns
unfolding time_of_ms
returns c = rw (narrowed (hour c) tt, narrowed (minute c) tt, narrowed (second c) tt, narrowed (part c) tt)

pub nonzero_div-result : goal.nonzero_div-result
nonzero_div-result c = div_ok (minutes_is c) (lit 60 tt) (lt_z_yes tt) tt

pub overflow_cast-result : goal.overflow_cast-result
overflow_cast-result c = small (hour c) tt

pub nonzero_rem-result : goal.nonzero_rem-result
nonzero_rem-result c = div_ok (minutes_is c) (lit 60 tt) (lt_z_yes tt) tt

pub overflow_cast-result-2 : goal.overflow_cast-result-2
overflow_cast-result-2 c = small (minute c) tt

pub overflow_mul-result : goal.overflow_mul-result
overflow_mul-result c = mul_ok (minutes_is c) (lit 60000 tt) tt

pub overflow_sub-result : goal.overflow_sub-result
overflow_sub-result c = sub_ok (ms_is c) (whole c) tt

pub nonzero_div-result-2 : goal.nonzero_div-result-2
nonzero_div-result-2 c = div_ok (rest c) (lit 1000 tt) (lt_z_yes tt) tt

pub overflow_cast-result-3 : goal.overflow_cast-result-3
overflow_cast-result-3 c = small (second c) tt

pub nonzero_rem-result-2 : goal.nonzero_rem-result-2
nonzero_rem-result-2 c = div_ok (ms_is c) (lit 1000 tt) (lt_z_yes tt) tt

pub overflow_cast-result-4 : goal.overflow_cast-result-4
overflow_cast-result-4 c = small (part c) tt
