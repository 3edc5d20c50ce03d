-- `line_program::answer_all` is safe and ends: what it hands out before the first read is the header.
use Rattle.std.proofs.Common.{sym, subst}
use Rattle.line_program.specs.Turns.{Handed, header}
use Rattle.line_program.proofs.answer_all.Goals as goal

pub hand_out-requires : goal.hand_out-requires
hand_out-requires g c = subst (Handed c.args.program) (sym c.begin_text-start.ensures.printed) header
