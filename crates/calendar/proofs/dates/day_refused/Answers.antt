-- `calendar::dates::day_refused` meets its contract.
use Rattle.std.specs.Prelude.{◌≡◌, Bool, ℤ, pos}
use Rattle.std.proofs.Common.{sym, ◌∙◌, SFits, of_z, to_z, to_z-of_z}
use Rattle.std.specs.Int.{w64}
use Rattle.words.specs.Fits.{held64}
use Rattle.rules.specs.Units.{between}
use Rattle.rules.specs.Calendar.{month_days, day_refused}
use Rattle.laws.specs.Ranges.{in_range_lem}
use Rattle.calendar.proofs.dates.day_refused.Goals as goal

month_told : (m : ℤ) (b : Bool) → SFits w64 m → b ≡ between (pos 1) (pos 12) (to_z w64 (of_z w64 m))
    → between (pos 1) (pos 12) m ≡ b
month_told m b f e = sym (rw (to_z-of_z f) at e)

pub month_days-requires : goal.month_days-requires
month_days-requires c = rw (to_z-of_z c.ranges.month) (
    in_range_lem 1 12 c.args.month
    (month_told c.args.month _ c.ranges.month c.is_between.ensures ∙ c.if-not-is_between.false))

pub returns-then-not-is_between : goal.returns-then-not-is_between
unfolding day_refused
returns-then-not-is_between c =
    rw (
      c.if-not-is_between.true,
      month_told c.args.month _ c.ranges.month c.is_between.ensures ∙ c.if-not-is_between.true,
    )

pub returns-else-not-is_between : goal.returns-else-not-is_between
unfolding day_refused month_days
returns-else-not-is_between c =
    let is = rw (to_z-of_z c.ranges.year, to_z-of_z c.ranges.month) at c.month_days.ensures in
    let days = held64 c.month_days.result c.month_days.type_inv ∙ is in
    rw (
      month_told c.args.month _ c.ranges.month c.is_between.ensures ∙ c.if-not-is_between.false,
      rw (days, to_z-of_z c.ranges.day) at c.is_between-else-not-is_between.ensures,
    )
