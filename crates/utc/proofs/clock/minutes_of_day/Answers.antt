-- `utc::clock::minutes_of_day` meets its contract.
use Rattle.std.specs.Prelude.{◌≡◌, ℕ, ◌/◌, pos, nat_abs}
use Rattle.std.proofs.Common.{arith, ◌∙◌}
use Rattle.std.specs.Int.{int_min}
use Rattle.words.specs.Fits.{held64}
use Rattle.words.specs.Holds.{Holds, bits, got, div_lit}
use Rattle.rules.specs.Utc.{minutes_of_day}
use Rattle.utc.proofs.clock.minutes_of_day.Goals as goal

least : (n : ℕ) → int_min (pos (n / 60000)) (pos 1439) ≡ pos (minutes_of_day n)
unfolding minutes_of_day
least n = grind arith

pub returns : goal.returns
returns c =
    let n = nat_abs c.args.ms in
    let ms : Holds (bits c.args.ms) (pos n) 86400999 = got c.requires.is c.requires.at_most tt in
    let minutes = div_lit 60000 ms tt tt tt in
    held64 c.min.result c.min.type_inv ∙ (rw minutes.value at c.min.ensures.value) ∙ least n
