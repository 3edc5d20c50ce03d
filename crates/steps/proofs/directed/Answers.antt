-- `steps::directed` meets its contract.
use mathlib.Core.Path.{◌≡◌, ap, ◌∙◌}
use Prim.Native.Nat.{◌+◌, ◌^◌}
use lib.IntN.{pos, neg_ℤ, ◌+ℤ◌, +ℤ_idl}
use lib.Signed.{rem_z, lt_z_yes}
use Rattle.words.specs.Holds.{Holds, bits, ◌-ʷ◌, arg, lit, sub, sub_ok, div_ok, rem}
use Rattle.rules.specs.declared.Direction.{Direction}
use Rattle.rules.specs.Units.{circle, +◌}
use Rattle.rules.specs.Rounding.{remainder}
use Rattle.rules.specs.Length.{squares}
use Rattle.rules.specs.Circle.{pair}
use Rattle.rules.specs.Turning.{Accepted, turn_by}
use Rattle.rules.specs.Place.{directed}
use Rattle.laws.specs.Angles.{pair_length}
use Rattle.laws.proofs.Turning.{turn_by_accepted}
use Rattle.laws.specs.Place.{ahead, ahead_accepted}
use Rattle.steps.proofs.directed.Goals as goal
use Rattle.steps.proofs.directed.Goals.{After-pair, After-pair-2, After-turn_by-raised, Start}

-- ---- the two angles

ra_holds : (c : Start) → Holds (bits c.args.ra) c.args.ra (2 ^ 60)
ra_holds c = arg c.args.ra c.requires.ra_le tt

declination_holds : (c : Start) → Holds (bits c.args.declination) c.args.declination (2 ^ 60)
declination_holds c = arg c.args.declination c.requires.declination_le tt

negative_holds : (c : Start)
    → Holds (0 -ʷ bits c.args.declination) (pos 0 +ℤ neg_ℤ c.args.declination) (2 ^ 60)
negative_holds c = sub (lit 0 tt) (declination_holds c) tt

-- ---- their pairs

first_pair : (c : After-pair) → c.pair.result ≡ pair (remainder (neg_ℤ c.args.declination))
unfolding remainder
first_pair c =
    rw (rem (negative_holds c.before) (lit circle tt) (lt_z_yes tt) tt).value at c.pair.ensures
    ∙ ap (λ z. pair (rem_z z (pos circle))) (+ℤ_idl (neg_ℤ c.args.declination))

abbrev raised : Start → Direction
raised c = turn_by (+ 2) (pair (remainder (neg_ℤ c.args.declination))) ahead

raised_accepted : (c : Start) → Accepted (squares (raised c))
raised_accepted c =
    turn_by_accepted (+ 2) (pair (remainder (neg_ℤ c.args.declination))) ahead (pair_length _) ahead_accepted

raised_is : (c : After-turn_by-raised) → c.turn_by-raised.result ≡ raised c.before.before
raised_is c = c.turn_by-raised.ensures ∙ ap (λ p. turn_by (+ 2) p ahead) (first_pair c.before)

second_pair : (c : After-pair-2) → c.pair-2.result ≡ pair (remainder c.args.ra)
unfolding remainder
second_pair c =
    rw (rem (ra_holds c.before.before.before) (lit circle tt) (lt_z_yes tt) tt).value at c.pair-2.ensures

pub returns : goal.returns
unfolding directed
returns c =
    c.turn_by.ensures
    ∙ ap (λ v. turn_by (+ 3) c.pair-2.result v) (raised_is c.before.before)
    ∙ ap (λ p. turn_by (+ 3) p (raised c.before.before.before.before)) (second_pair c.before)

-- ---- what each operation and call asks

pub overflow_sub-declination : goal.overflow_sub-declination
overflow_sub-declination c = sub_ok (lit 0 tt) (declination_holds c) tt

pub nonzero_rem-declination : goal.nonzero_rem-declination
nonzero_rem-declination c = div_ok (negative_holds c) (lit circle tt) (lt_z_yes tt) tt

pub nonzero_rem-ra : goal.nonzero_rem-ra
nonzero_rem-ra c = div_ok (ra_holds c.before.before) (lit circle tt) (lt_z_yes tt) tt

pub turn_by-raised-requires : goal.turn_by-raised-requires
turn_by-raised-requires c =
    let opposite = neg_ℤ c.args.declination in
    record { direction = ahead_accepted; pair = rw (first_pair c) (pair_length (remainder opposite)) }

pub turn_by-requires : goal.turn_by-requires
turn_by-requires c =
    let start = c.before.before.before in
    record {
      direction = rw (raised_is c.before) (raised_accepted start);
      pair = rw (second_pair c) (pair_length (remainder start.args.ra));
    }
