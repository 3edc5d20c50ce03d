-- `utc::utc_of_tt` meets its contract.
use mathlib.Core.Path.{◌≡◌, sym, ap, ◌∙◌}
use lib.IntN.{pos, neg_ℤ}
use mir.Syntax.{w64}
use mir.Val.{SFits}
use mir.Facts.{to_z-of_z}
use borrow.Author.Rules.{sfits_of}
use Rattle.rules.specs.Units.{between}
use Rattle.rules.specs.Utc.{utc_of_tt}
use Rattle.laws.specs.Ranges.{between_iff}
use Rattle.laws.specs.Stretch.{InStretch, stretch_refused_is, stretch_accepted_iff}
use Rattle.utc.proofs.utc_of_tt.Goals as goal
use Rattle.utc.proofs.utc_of_tt.Lts as lts
use Rattle.utc.proofs.utc_of_tt.Reads as reads
use Rattle.utc.proofs.utc_of_tt.Tie as tie
use Rattle.std.specs.Prelude.{Ok}

fits : (c : lts.After-struct_told tie.the-claims reads.Pre reads.Post) → SFits w64 c.before.args.tt.0
fits c = sfits_of c.struct_told-1.given.0.1

-- whether TT is in the stretch
tested : (c : lts.After-is_between tie.the-claims reads.Pre reads.Post)
    → c.is_between.result
    ≡ between (neg_ℤ (pos 883655957816)) (pos 3155716869183) c.before.before.args.tt.0
tested c = rw (to_z-of_z (fits c.before)) at c.is_between.ensures

pub returns-then-not-is_between : goal.returns-then-not-is_between
unfolding utc_of_tt
returns-then-not-is_between c =
    rw (
      stretch_refused_is c.before.before.before.args.tt,
      sym (tested c.before) ∙ c.if-not-is_between.true,
    )

passed : (c : lts.Else1 tie.the-claims reads.Pre reads.Post) → InStretch c.before.before.before.args.tt.0
passed c = (between_iff _ _ _).0 (sym (tested c.before) ∙ c.if-not-is_between.false)

pub returns : goal.returns
unfolding utc_of_tt
returns c =
    let past = c.before.before in
    rw ((stretch_accepted_iff past.before.before.before.args.tt).1 (passed past))
    (ap Ok (rw (to_z-of_z (fits past.before.before)) at c.utc_at.ensures))

pub utc_at-requires : goal.utc_at-requires
utc_at-requires c = rw (to_z-of_z (fits c.before.before.before.before)) (passed c.before.before)
