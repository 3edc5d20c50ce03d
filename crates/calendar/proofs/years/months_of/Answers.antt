-- `calendar::years::months_of` meets its contract.
use Rattle.std.specs.Prelude.{◌≡◌, Bool, true, false, cond, ℕ, nat_abs}
use Rattle.std.proofs.Common.{ap, to_z-of_z}
use mir.Val.{bool_byte}
use Rattle.rules.specs.Years.{leap, months}
use Rattle.laws.specs.Calendar.{row}
use Rattle.calendar.proofs.years.months_of.Goals as goal

index_is : (b : Bool) (l : ℕ) → cond b 1 0 ≡ l → bool_byte b ≡ l
index_is true l e = e
index_is false l e = e

pub returns : goal.returns
unfolding months
returns c =
    let kind : cond c.is_leap.result 1 0 ≡ leap (nat_abs c.args.year) =
    simp (to_z-of_z c.ranges.year) at c.is_leap.ensures in
    rw c.from.ensures (ap row (index_is _ _ kind))
