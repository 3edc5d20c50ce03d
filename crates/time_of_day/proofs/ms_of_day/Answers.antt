-- `time_of_day::ms_of_day` meets its contract.
use Rattle.std.specs.Prelude.{◌≡◌, ◌≤◌, ℕ, ℤ, nat_abs}
use Rattle.std.proofs.Common.{rules, SFits, of_z, to_z}
use Rattle.std.specs.Int.{w32}
use Rattle.words.specs.Holds.{Holds, bits, from_i32, bounded, lit, add, mul}
use Rattle.rules.specs.Dates.{ms_of_day}
use Rattle.time_of_day.proofs.ms_of_day.Goals as goal

-- a part, of a known size
part : (z r : ℤ) (b : ℕ) → SFits w32 z → r ≡ to_z w32 (of_z w32 z) → nat_abs z ≤ b → Holds (bits r) z b
part z r b f e h = bounded b (from_i32 z r f e) h

pub returns : goal.returns
unfolding ms_of_day
returns c =
    let t = c.args.time in
    let hour = part t.hour _ 23 (search rules) c.from.ensures c.requires.hour.at_most in
    let minute = part t.minute _ 59 (search rules) c.from-2.ensures c.requires.minute.at_most in
    let second = part t.second _ 60 (search rules) c.from-3.ensures c.requires.second.at_most in
    let ms = part t.ms _ 999 (search rules) c.from-4.ensures c.requires.ms.at_most in
    let minutes = add (mul hour (lit 60 tt) tt) minute tt in
    let seconds = add (mul minutes (lit 60 tt) tt) second tt in
    (add (mul seconds (lit 1000 tt) tt) ms tt).value
