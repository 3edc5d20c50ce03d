-- `reading::octants::by_signs` meets its contract.
use mathlib.Core.Path.{◌≡◌}
use mathlib.Core.Bool.{true, false}
use lib.IntN.{pos}
use lib.Signed.{lt_z}
use mir.Syntax.{w64}
use mir.Val.{to_z, of_z}
use mir.Facts.{to_z-of_z}
use Rattle.rules.specs.Units.{circle, half, quarter}
use Rattle.rules.specs.Reading.{by_signs}
use Rattle.laws.specs.UpTo.{up_to_le}
use Rattle.words.specs.Holds.{Holds, bits, arg, lit, add, add_ok, sub, sub_ok}
use Rattle.reading.proofs.octants.by_signs.Goals as goal
use Rattle.reading.proofs.octants.by_signs.Lts as lts
use Rattle.reading.proofs.octants.by_signs.Reads as reads

a_holds : (c : lts.Start reads.Pre reads.Post) → Holds (bits c.args.a) c.args.a quarter
a_holds c = arg c.args.a (up_to_le c.args.a quarter c.requires) tt

h_held : (c : lts.Start reads.Pre reads.Post) → to_z w64 (of_z w64 c.args.h) ≡ c.args.h
h_held c = to_z-of_z c.ranges.h

v_held : (c : lts.Start reads.Pre reads.Post) → to_z w64 (of_z w64 c.args.v) ≡ c.args.v
v_held c = to_z-of_z c.ranges.v

v_below : (c : lts.Then1 reads.Pre reads.Post) → lt_z c.args.v (pos 0) ≡ true
v_below c = rw (v_held c.before) at c.if-v-lt0.true

v_not_below : (c : lts.Else1 reads.Pre reads.Post) → lt_z c.args.v (pos 0) ≡ false
v_not_below c = rw (v_held c.before) at c.if-v-lt0.false

pub returns-then-h-lt0 : goal.returns-then-h-lt0
unfolding by_signs
returns-then-h-lt0 c =
    let b = c.before.before in
    let t : lt_z b.args.h (pos 0) ≡ true = rw (h_held b) at c.if-h-lt0.true in
    rw (v_below c.before, t) (add (lit half tt) (a_holds b) tt).value

pub returns-then-v-lt0 : goal.returns-then-v-lt0
unfolding by_signs
returns-then-v-lt0 c =
    let b = c.before.before in
    let t : lt_z b.args.h (pos 0) ≡ false = rw (h_held b) at c.if-h-lt0.false in
    rw (v_below c.before, t) (sub (lit circle tt) (a_holds b) tt).value

pub returns-then-h-lt0-2 : goal.returns-then-h-lt0-2
unfolding by_signs
returns-then-h-lt0-2 c =
    let b = c.before.before in
    let t : lt_z b.args.h (pos 0) ≡ true = rw (h_held b) at c.if-h-lt0-2.true in
    rw (v_not_below c.before, t) (sub (lit half tt) (a_holds b) tt).value

pub returns : goal.returns
unfolding by_signs
returns c =
    let b = c.before.before in
    let t : lt_z b.args.h (pos 0) ≡ false = rw (h_held b) at c.if-h-lt0-2.false in
    rw (v_not_below c.before, t) (a_holds b).value

pub overflow_add-result : goal.overflow_add-result
overflow_add-result c = add_ok (lit half tt) (a_holds c.before.before) tt

pub overflow_sub-result : goal.overflow_sub-result
overflow_sub-result c = sub_ok (lit circle tt) (a_holds c.before.before) tt

pub overflow_sub-result-then-h-lt0-2 : goal.overflow_sub-result-then-h-lt0-2
overflow_sub-result-then-h-lt0-2 c = sub_ok (lit half tt) (a_holds c.before.before) tt
