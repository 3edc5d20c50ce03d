-- `time_of_day::added_seconds::before_step` meets its contract.
use mathlib.Core.Path.{◌≡◌, ap, ◌∙◌}
use Prim.Native.Nat.{◌+◌}
use lib.IntN.{pos, ◌+ℤ◌}
use Rattle.words.specs.Holds.{Holds, bits, ◌+ʷ◌, arg, lit, add}
use Rattle.rules.specs.Dates.{tai_minus_utc, before_step}
use Rattle.time_of_day.proofs.added_seconds.before_step.Goals as goal
use Rattle.time_of_day.proofs.added_seconds.before_step.Goals.{Start}

day : (c : Start) → Holds (bits c.args.day) c.args.day 36524
day c = arg c.args.day c.requires tt

next : (c : Start) → Holds (bits c.args.day +ʷ 1) (c.args.day +ℤ pos 1) (36524 + 1)
next c = add (day c) (lit 1 tt) tt

pub returns : goal.returns
unfolding before_step
returns c =
    let s = c.before.before in
    let p : c.before.tai_minus_utc.result ≡ pos (tai_minus_utc s.args.day) =
    rw (day s).value at c.before.tai_minus_utc.ensures in
    let q : c.tai_minus_utc-2.result ≡ pos (tai_minus_utc (s.args.day +ℤ pos 1)) =
    c.tai_minus_utc-2.ensures ∙ ap (λ z. pos (tai_minus_utc z)) (next s).value in
    rw (p, q)
