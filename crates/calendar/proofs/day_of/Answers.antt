-- `calendar::day_of` meets its contract.
use Rattle.std.specs.Prelude.{◌≡◌, Bool, not, ℤ, pos, Ok}
use Rattle.std.proofs.Common.{sym, ap, ◌∙◌, rules, SFits, of_z, to_z}
use Rattle.std.specs.Int.{w32, w64}
use Rattle.words.specs.Fits.{held64}
use Rattle.words.specs.Holds.{from_i32}
use Rattle.rules.specs.declared.Date.{Date}
use Rattle.rules.specs.Units.{between}
use Rattle.rules.specs.Calendar.{year_refused, day_refused, day_of}
use Rattle.laws.specs.DayNumbers.{real_date}
use Rattle.laws.specs.OfNumbers.{date_of_parts}
use Rattle.calendar.proofs.day_of.Goals as goal

-- an i32 that `from` made an i64
abbrev Told : ℤ → ℤ → Type 0
Told r z = SFits w32 z × (r ≡ to_z w32 (of_z w32 z))

part : (r z : ℤ) → Told r z → to_z w64 (of_z w64 r) ≡ z
part r z t = (from_i32 z r t.0 t.1).value

year_told : (d : Date) (y : ℤ) (b : Bool) → Told y d.year
    → b ≡ between (pos 1972) (pos 2099) (to_z w64 (of_z w64 y)) → year_refused d ≡ not b
unfolding year_refused
year_told d y b f t = ap not (sym (rw (part y _ f) at t))

day_told : (d : Date) (y m n : ℤ) (b : Bool) → Told y d.year → Told m d.month → Told n d.day
    → b ≡ day_refused (date_of_parts (to_z w64 (of_z w64 y)) (to_z w64 (of_z w64 m)) (to_z w64 (of_z w64 n)))
    → day_refused d ≡ b
day_told d y m n b f g h t = sym (rw (part y _ f, part m _ g, part n _ h) at t)

pub returns-then-not-is_between : goal.returns-then-not-is_between
unfolding day_of
returns-then-not-is_between c =
    rw (year_told c.args.date _ _ (search rules, c.from-year.ensures) c.is_between.ensures
    ∙ ap not c.if-not-is_between.true)

pub returns-then-day_refused : goal.returns-then-day_refused
unfolding day_of
returns-then-day_refused c =
    rw (
      year_told c.args.date _ _ (search rules, c.from-year.ensures) c.is_between.ensures ∙ ap not c.if-not-is_between.false,
      day_told c.args.date _ _ _ _ (search rules, c.from-year.ensures) (search rules, c.from-month.ensures)
          (search rules, c.from-day.ensures) c.day_refused.ensures ∙ c.if-day_refused.true,
    )

pub day_number-requires : goal.day_number-requires
day_number-requires c =
    real_date c.args.date
    (year_told c.args.date _ _ (search rules, c.from-year.ensures) c.is_between.ensures ∙ ap not c.if-not-is_between.false)
    (day_told c.args.date _ _ _ _ (search rules, c.from-year.ensures) (search rules, c.from-month.ensures)
    (search rules, c.from-day.ensures) c.day_refused.ensures ∙ c.if-day_refused.false)

pub returns : goal.returns
unfolding day_of
returns c =
    rw (
      year_told c.args.date _ _ (search rules, c.from-year.ensures) c.is_between.ensures ∙ ap not c.if-not-is_between.false,
      day_told c.args.date _ _ _ _ (search rules, c.from-year.ensures) (search rules, c.from-month.ensures)
          (search rules, c.from-day.ensures) c.day_refused.ensures ∙ c.if-day_refused.false,
    )
    (ap Ok (held64 c.day_number.result c.day_number.type_inv ∙ c.day_number.ensures))
