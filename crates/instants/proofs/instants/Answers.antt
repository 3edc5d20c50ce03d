-- `instants::instants` meets its contract: `day_of` has the first two refusals, and its number is of the span.
use Rattle.std.specs.Prelude.{◌≡◌, Bool, true, false, not, cond, ◌^◌, ℤ, pos, neg_ℤ, Result, Ok, Err}
use Rattle.std.proofs.Common.{sym, ap, ◌∙◌, rules, SFits, of_z, to_z}
use Rattle.std.specs.Int.{w32, w64}
use Rattle.words.specs.Holds.{Holds, bits, from_i32, got}
use Rattle.rules.specs.declared.Refusal.{Refusal}
use Rattle.rules.specs.declared.Moment.{Moment}
use Rattle.rules.specs.declared.Instants.{Instants}
use Rattle.rules.specs.Units.{between, within}
use Rattle.rules.specs.Calendar.{day_of, year_refused, day_refused, day_number}
use Rattle.rules.specs.Dates.{time_refused, ut1_minus_utc_refused, ms_of_day, utc, ut_of, tt_of, instants}
use Rattle.laws.specs.PassedUp.{passed_up}
use Rattle.laws.specs.DayNumbers.{real_date, real_number_le}
use Rattle.laws.specs.DayAndDate.{Given, day_of_given}
use Rattle.laws.specs.Instants.{RealMoment, real_moment, ms_of_day_le}
use Rattle.laws.specs.OfNumbers.{time_of_parts}
use Rattle.instants.proofs.instants.Goals as goal

-- ---- refusals 1 and 2

-- a refused date is refused as a moment
refused_date : (m : Moment) (r : Refusal) → day_of m.date ≡ Err r → instants m ≡ Err r
unfolding day_of instants
refused_date m r = go (year_refused m.date) (day_refused m.date) _ _
  where
    go : (a b : Bool) (n : ℤ) (i : Result Instants Refusal)
        → cond a (Err Refusal.Year) (cond b (Err Refusal.Day) (Ok n)) ≡ Err r
        → cond a (Err Refusal.Year) (cond b (Err Refusal.Day) i) ≡ Err r
    go true b n i e = let same : Refusal.Year ≡ r = cc in ap Err same
    go false true n i e = let same : Refusal.Day ≡ r = cc in ap Err same
    go false false n i e = absurd (cc)

pub returns-in_err-day : goal.returns-in_err-day
returns-in_err-day c =
    passed_up c.from_residual.result c.in_err-day.field-0.0 c.from_residual.ensures.1
    ∙ sym (refused_date c.args.moment c.in_err-day.field-0.0 (sym c.day_of.ensures ∙ c.in_err-day.was))

-- ---- the day number

number : (m : Moment) (n : ℤ) (r : Result ℤ Refusal) → r ≡ day_of m.date → r ≡ Ok n → Given m.date n
number m n r e w = day_of_given m.date n (sym e ∙ w)

held : (m : Moment) (n : ℤ) → Given m.date n → Holds (bits n) (day_number m.date) 36524
held m n g = got (sym g.number) (real_number_le m.date (real_date m.date g.year g.day)) tt

pub time_refused-requires : goal.time_refused-requires
time_refused-requires c =
    let day = held c.args.moment c.in_ok-day.day (number c.args.moment _ _ c.day_of.ensures c.in_ok-day.was) in
    rw day.value day.size

-- ---- refusals 3 and 4

-- an i32 that `from` made an i64
abbrev Told : ℤ → ℤ → Type 0
Told r z = SFits w32 z × (r ≡ to_z w32 (of_z w32 z))

part : (r z : ℤ) → Told r z → Holds (bits r) z (2 ^ 31)
part r z t = from_i32 z r t.0 t.1

time_told : (m : Moment) (n h k s l : ℤ) (b : Bool) → Given m.date n
    → Told h m.time.hour → Told k m.time.minute → Told s m.time.second → Told l m.time.ms
    → b ≡ time_refused (to_z w64 (bits n))
    (time_of_parts (to_z w64 (bits h)) (to_z w64 (bits k)) (to_z w64 (bits s)) (to_z w64 (bits l)))
    → time_refused (day_number m.date) m.time ≡ b
time_told m n h k s l b g i j p q e =
    sym (rw ((held m n g).value, (part h _ i).value, (part k _ j).value, (part s _ p).value, (part l _ q).value) at e)

difference_told : (m : Moment) (r : ℤ) (b : Bool) → Told r m.ut1_minus_utc
    → b ≡ between (neg_ℤ (pos 900)) (pos 900) (to_z w64 (bits r))
    → ut1_minus_utc_refused m ≡ not b
unfolding ut1_minus_utc_refused within
difference_told m r b t e = ap not (sym (rw (part r _ t).value at e))

pub returns-then-time_refused : goal.returns-then-time_refused
unfolding instants
returns-then-time_refused c =
    let m = c.args.moment in
    let date = number m _ _ c.day_of.ensures c.in_ok-day.was in
    let time =
    time_told m _ _ _ _ _ _ date (search rules, c.from.ensures) (search rules, c.from-2.ensures)
    (search rules, c.from-3.ensures) (search rules, c.from-4.ensures) c.time_refused.ensures in
    rw (date.year, date.day, time ∙ c.if-time_refused.true)

pub returns-then-not-is_between : goal.returns-then-not-is_between
unfolding instants
returns-then-not-is_between c =
    let m = c.args.moment in
    let date = number m _ _ c.day_of.ensures c.in_ok-day.was in
    let time =
    time_told m _ _ _ _ _ _ date (search rules, c.from.ensures) (search rules, c.from-2.ensures)
    (search rules, c.from-3.ensures) (search rules, c.from-4.ensures) c.time_refused.ensures in
    let difference =
    difference_told m _ _ (search rules, c.from-ut1_minus_utc.ensures) c.is_between.ensures in
    rw (date.year, date.day, time ∙ c.if-time_refused.false, difference ∙ ap not c.if-not-is_between.true)

-- ---- the instants

pub ms_of_day-requires : goal.ms_of_day-requires
ms_of_day-requires c =
    let m = c.args.moment in
    let date = number m _ _ c.day_of.ensures c.in_ok-day.was in
    let time =
    time_told m _ _ _ _ _ _ date (search rules, c.from.ensures) (search rules, c.from-2.ensures)
    (search rules, c.from-3.ensures) (search rules, c.from-4.ensures) c.time_refused.ensures in
    let difference =
    difference_told m _ _ (search rules, c.from-ut1_minus_utc.ensures) c.is_between.ensures in
    (real_moment m date.year date.day
    (time ∙ c.if-time_refused.false) (difference ∙ ap not c.if-not-is_between.false)).time

accepted : (c : goal.After-ms_of_day) → RealMoment c.args.moment
accepted c =
    let m = c.args.moment in
    let date = number m _ _ c.day_of.ensures c.in_ok-day.was in
    let time =
    time_told m _ _ _ _ _ _ date (search rules, c.from.ensures) (search rules, c.from-2.ensures)
    (search rules, c.from-3.ensures) (search rules, c.from-4.ensures) c.time_refused.ensures in
    let difference =
    difference_told m _ _ (search rules, c.from-ut1_minus_utc.ensures) c.is_between.ensures in
    real_moment m date.year date.day
    (time ∙ c.if-time_refused.false) (difference ∙ ap not c.if-not-is_between.false)

ms_is : (c : goal.After-ms_of_day) → Holds (bits c.ms_of_day.result) (ms_of_day c.args.moment.time) 86400999
ms_is c = got c.ms_of_day.ensures (ms_of_day_le _ (accepted c).time) tt

difference_is : (c : goal.After-ms_of_day)
    → Holds (bits c.from-ut1_minus_utc.result) c.args.moment.ut1_minus_utc (2 ^ 31)
difference_is c = part _ c.args.moment.ut1_minus_utc (search rules, c.from-ut1_minus_utc.ensures)

pub instants_at-requires : goal.instants_at-requires
instants_at-requires c =
    let day = held c.args.moment c.in_ok-day.day (number c.args.moment _ _ c.day_of.ensures c.in_ok-day.was) in
    rw (day.value, (ms_is c).value, (difference_is c).value)
    (record { day_le = day.size; ms_le = (ms_is c).size; ut1_minus_utc_le = (accepted c).ut1_minus_utc })

pub returns : goal.returns
unfolding instants ut_of tt_of utc
returns c =
    let m = c.args.moment in
    let date = number m _ _ c.day_of.ensures c.in_ok-day.was in
    let time =
    time_told m _ _ _ _ _ _ date (search rules, c.from.ensures) (search rules, c.from-2.ensures)
    (search rules, c.from-3.ensures) (search rules, c.from-4.ensures) c.time_refused.ensures in
    let difference =
    difference_told m _ _ (search rules, c.from-ut1_minus_utc.ensures) c.is_between.ensures in
    let day = held m c.in_ok-day.day date in
    rw (date.year, date.day, time ∙ c.if-time_refused.false, difference ∙ ap not c.if-not-is_between.false)
    (ap Ok (rw (day.value, (ms_is c.before).value, (difference_is c.before).value) at c.instants_at.ensures))
