-- `line_program::read_some` meets its contract: what it hands out is the answers of a read.
use Rattle.std.proofs.Common.{sym, subst}
use Rattle.line_program.specs.Turns.{Handed, answers}
use Rattle.line_program.proofs.read_some.Goals as goal

pub hand_out-requires : goal.hand_out-requires
hand_out-requires g c =
    subst (Handed c.args.program) (sym c.answer_text-next.ensures.printed) (answers c.args.start _)
