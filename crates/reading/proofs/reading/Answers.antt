-- `reading::reading` meets its contract: two numbers of 32 bits, made 64; (0, 0) has no angle.
use Prim.Native.Nat.{zero, suc, ◌+◌, ◌<◌}
use mathlib.Core.Path.{◌≡◌, sym, ap, ◌∙◌}
use mathlib.Core.Logic.{⊎_elim}
use native.Mathlib.Omega.{arith}
use mir.Syntax.{w32, w64}
use mir.Val.{to_z, of_z}
use lib.IntN.{ℤ, pos, negsuc, nat_abs}
use Rattle.rules.specs.Reading.{reading}
use Rattle.laws.specs.ReadingRange.{reading_is}
use Rattle.words.specs.Fits.{held64}
use Rattle.words.specs.Holds.{bits, from_i32}
use Rattle.reading.proofs.reading.Goals as goal
use Rattle.std.specs.Prelude.{Some}

-- ---- both nought

pub returns-then-second-eq0 : goal.returns-then-second-eq0
unfolding reading
returns-then-second-eq0 c =
    let h : c.args.h ≡ pos 0 =
    sym (from_i32 _ _ c.ranges.h c.from-first.ensures).value ∙ ap (to_z w64) c.if-first-eq0.true in
    let v : c.args.v ≡ pos 0 =
    sym (from_i32 _ _ c.ranges.v c.from-second.ensures).value ∙ ap (to_z w64) c.if-second-eq0.true in
    rw (h, v)

-- ---- not both

not_nought : (z r : ℤ) → r ≡ to_z w32 (of_z w32 z) → (bits r ≡ 0 → ⊥) → 0 < nat_abs z
not_nought (pos zero) r e f = absurd (f (ap bits e))
not_nought (pos (suc n)) r e f = omega arith
not_nought (negsuc n) r e f = omega arith

some : (c : goal.Joined-else-first-eq0) → 0 < nat_abs c.args.h + nat_abs c.args.v
some c =
    ⊎_elim
    (λ k. omega (arith, not_nought c.args.v _ c.from-second.ensures k.1))
    (λ k. omega (arith, not_nought c.args.h _ c.from-first.ensures k))
    c.else-first-eq0.either

pub returns : goal.returns
returns c =
    let h = from_i32 _ _ c.ranges.h c.from-first.ensures in
    let v = from_i32 _ _ c.ranges.v c.from-second.ensures in
    ap Some (held64 c.angle_of.result c.angle_of.type_inv ∙ rw (h.value, v.value) at c.angle_of.ensures)
    ∙ sym (reading_is c.args.h c.args.v (some c.before))

pub angle_of-requires : goal.angle_of-requires
angle_of-requires c =
    let h = from_i32 _ _ c.ranges.h c.from-first.ensures in
    let v = from_i32 _ _ c.ranges.v c.from-second.ensures in
    rw (h.value, v.value) (record { h_le = h.size; v_le = v.size; some = some c })
