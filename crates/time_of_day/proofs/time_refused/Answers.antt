-- `time_of_day::time_refused` meets its contract: each test is one more that the rule joins by `&&`.
use Rattle.std.specs.Prelude.{◌≡◌, refl, Bool, true, false, not, ◌&&◌, ℤ, pos}
use Rattle.std.proofs.Common.{sym, ap, ◌∙◌, SFits, of_z, to_z, to_z-of_z}
use Rattle.std.specs.Int.{w64}
use Rattle.words.specs.Fits.{held64}
use Rattle.rules.specs.Units.{between}
use Rattle.rules.specs.declared.Time.{Time}
use Rattle.rules.specs.Dates.{last_second, time_refused}
use Rattle.laws.specs.Ranges.{true_not_false}
use Rattle.laws.specs.OfNumbers.{time_of_parts}
use Rattle.time_of_day.proofs.time_refused.Goals as goal
use Rattle.time_of_day.proofs.time_refused.Goals.{Joined-not-is_between, Joined-not-is_between-2}
use Rattle.time_of_day.proofs.time_refused.Goals.{then-not-is_between, else-not-is_between}
use Rattle.time_of_day.proofs.time_refused.Goals.{then-not-is_between-2, else-not-is_between-2}

-- ---- one test more

refused : (a b : Bool) → not a ≡ true → not (a && b) ≡ true
refused true b e = true_not_false (sym e)
refused false b e = refl

passed : (a b : Bool) → not a ≡ false → not (a && b) ≡ not b
passed true b e = refl
passed false b e = true_not_false e

-- what a test tells of the number that it was given
told : (low high z : ℤ) (b : Bool) → SFits w64 z → b ≡ between low high (to_z w64 (of_z w64 z)) → between low high z ≡ b
told low high z b f e = sym (rw (to_z-of_z f) at e)

-- ---- hour and minute, and second

abbrev of_clock : Time → Bool
of_clock t = between (pos 0) (pos 23) t.hour && between (pos 0) (pos 59) t.minute

abbrev of_second : ℤ → Time → Bool
of_second n t = between (pos 0) (pos (last_second n t)) t.second

clock : (c : Joined-not-is_between)
    → c.if-not-is_between.value ≡ not (of_clock (time_of_parts c.args.hour c.args.minute c.args.second c.args.ms))
clock c = elim c.if-not-is_between.branch [
  | then-not-is_between w ↦
      w.value-is
      ∙ rw (w.if-not-is_between.true, told _ _ _ _ c.ranges.hour c.is_between.ensures ∙ w.if-not-is_between.true)
  | else-not-is_between w ↦
      w.value-is
      ∙ rw (
        told _ _ _ _ c.ranges.hour c.is_between.ensures ∙ w.if-not-is_between.false,
        told _ _ _ _ c.ranges.minute w.is_between-else-not-is_between.ensures,
      )
]

second : (c : Joined-not-is_between-2)
    → let t = time_of_parts c.args.hour c.args.minute c.args.second c.args.ms in
    c.if-not-is_between-2.value ≡ not (of_clock t && of_second c.args.day t)
unfolding last_second
second c =
    let t = time_of_parts c.args.hour c.args.minute c.args.second c.args.ms in
    let before = clock c.before in
    elim c.if-not-is_between-2.branch [
      | then-not-is_between-2 w ↦
          w.value-is ∙ w.if-not-is_between-2.true
          ∙ sym (refused (of_clock t) (of_second c.args.day t) (sym before ∙ w.if-not-is_between-2.true))
      | else-not-is_between-2 w ↦
          let last = rw (to_z-of_z c.ranges.day, to_z-of_z c.ranges.hour, to_z-of_z c.ranges.minute) at
          w.last_second.ensures in
          let test = rw (held64 w.last_second.result w.last_second.type_inv ∙ last) at
          w.is_between-else-not-is_between-2.ensures in
          w.value-is
          ∙ ap not (sym (told _ _ _ _ c.ranges.second test))
          ∙ sym (passed (of_clock t) (of_second c.args.day t) (sym before ∙ w.if-not-is_between-2.false))
    ]

pub returns-then-not-is_between-3 : goal.returns-then-not-is_between-3
unfolding time_refused
returns-then-not-is_between-3 c =
    c.if-not-is_between-3.true ∙ sym (refused _ _ (sym (second c.before) ∙ c.if-not-is_between-3.true))

pub returns-else-not-is_between-3 : goal.returns-else-not-is_between-3
unfolding time_refused
returns-else-not-is_between-3 c =
    ap not (sym (told _ _ _ _ c.ranges.ms c.is_between-else-not-is_between-3.ensures))
    ∙ sym (passed _ _ (sym (second c.before.before) ∙ c.if-not-is_between-3.false))
