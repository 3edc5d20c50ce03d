-- `time_of_day::added_seconds::tai_minus_utc` meets its contract.
use Rattle.std.specs.Prelude.{◌≡◌, Bool, true, false, cond, ℕ, ◌+◌, ◌-◌, ◌<◌, get_or, ℤ, pos}
use Rattle.std.proofs.Common.{arith, sym, ap, ◌∙◌, to_z, to_z-of_z}
use lib.ListN.{drop}
use Rattle.std.specs.Int.{w64}
use Rattle.std.specs.Int.Signed.{le_z}
use Rattle.words.specs.Fits.{fits64}
use Rattle.words.specs.Holds.{Holds, bits, lit, add, add_ok}
use Rattle.laws.specs.Seconds.{step_numbers, up_to, up_to_le_lem, up_to_drop, step_le, tai_is}
use Rattle.time_of_day.proofs.added_seconds.tai_minus_utc.Goals as goal
use Rattle.time_of_day.proofs.added_seconds.tai_minus_utc.Goals.{then-step-day, else-step-day}

-- the seconds while the steps from the k-th on are still to come
abbrev so_far : ℤ → ℕ → ℕ
so_far day k = 10 + up_to day step_numbers - up_to day (drop k step_numbers)

seconds : (n : ℕ) (day : ℤ) (k : ℕ) → to_z w64 n ≡ pos (so_far day k) → Holds n (pos (so_far day k)) 37
seconds n day k e = record { value = e; size = omega (arith, up_to_le_lem day step_numbers) }

-- what the test of a step tells
step_is : (k : ℕ) → k < 27 → to_z w64 (bits (get_or step_numbers k (pos 0))) ≡ get_or step_numbers k (pos 0)
step_is k h = to_z-of_z (fits64 _ (omega (arith, step_le k h)))

test : (day : ℤ) (k : ℕ) (b : Bool) → k < 27 → le_z (to_z w64 (bits (get_or step_numbers k (pos 0)))) day ≡ b
    → up_to day (drop k step_numbers) ≡ cond b 1 0 + up_to day (drop (k + 1) step_numbers)
test day k b h e =
    let f : le_z (get_or step_numbers k (pos 0)) day ≡ b = rw (step_is k h) at e in
    rw f at (up_to_drop day k h)

pub overflow_add-seconds : goal.overflow_add-seconds
overflow_add-seconds c =
    add_ok (seconds c.loop-step.seconds-bits (to_z w64 (bits c.args.day)) c.loop-step.step-index c.loop-step.invariant.seconds)
    (lit 1 tt) tt

pub loop-step-preserved : goal.loop-step-preserved
loop-step-preserved c =
    let day = to_z w64 (bits c.args.day) in
    let k = c.loop-step.step-index in
    let known = seconds c.loop-step.seconds-bits day k c.loop-step.invariant.seconds in
    elim c.if-step-day.branch [
      | then-step-day w ↦
          let t = test day k true (omega arith) w.if-step-day.true in
          record {
            counted = omega (arith, c.loop-step.invariant.counted);
            seconds = w.seconds-is ∙ (add known (lit 1 tt) tt).value
                ∙ ap pos (omega (arith, c.loop-step.invariant.counted));
          }
      | else-step-day w ↦
          let t = test day k false (omega arith) w.if-step-day.false in
          record {
            counted = omega (arith, c.loop-step.invariant.counted);
            seconds = w.seconds-is ∙ known.value ∙ ap pos (omega arith);
          }
    ]

at_end : (k : ℕ) (day : ℤ) → k ≡ 27 → up_to day (drop k step_numbers) ≡ 0
unfolding up_to
at_end k day e = rw e

pub returns : goal.returns
returns c =
    let day = to_z w64 (bits c.args.day) in
    let none = at_end c.loop-step.step-index day (omega arith) in
    let all : so_far day c.loop-step.step-index ≡ 10 + up_to day step_numbers = omega arith in
    c.loop-step.invariant.seconds ∙ ap pos (all ∙ rw (to_z-of_z c.ranges.day) (sym (tai_is c.args.day)))
