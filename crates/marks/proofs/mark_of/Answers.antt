-- `marks::mark_of` meets its contract.
use mathlib.Core.Path.{sym, ◌∙◌}
use Rattle.rules.specs.NightList.{mark_of}
use Rattle.marks.proofs.mark_of.Goals as goal
use Rattle.marks.proofs.mark_of.Goals.{else-has_angle-via-then-has_angle+else-has_angle-2, else-has_angle-via-else-has_angle}

pub returns-then-has_angle-2 : goal.returns-then-has_angle-2
unfolding mark_of
returns-then-has_angle-2 c =
    rw (sym c.has_angle.ensures ∙ c.if-has_angle.true, sym c.has_angle-then-has_angle.ensures ∙ c.if-has_angle-2.true)

pub returns-else-has_angle : goal.returns-else-has_angle
unfolding mark_of
returns-else-has_angle c =
    elim c.else-has_angle.branch [
      | else-has_angle-via-then-has_angle+else-has_angle-2 w ↦ rw (
        sym c.has_angle.ensures ∙ w.if-has_angle.true,
        sym w.has_angle-then-has_angle.ensures ∙ w.if-has_angle-2.false,
      )
      | else-has_angle-via-else-has_angle w ↦ rw (sym c.has_angle.ensures ∙ w.if-has_angle.false)
    ]
