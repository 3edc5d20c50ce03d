-- `line_times::print_line` meets its contract.
use Rattle.std.specs.Prelude.{◌≡◌, refl, ◌++◌, drop, length, ℕ, List}
use Rattle.std.proofs.Common.{rules, sym, ap, ◌∙◌, lt-ltb, le-ltb}
use Rattle.rules.specs.Times.{overlaid}
use Rattle.line_times.specs.Printed.{printed_in, printed_for}
use Rattle.line_times.proofs.print_line.Goals as goal

pub returns-then-out-lt64-clause-kept : goal.returns-then-out-lt64-clause-kept
unfolding printed_in overlaid
returns-then-out-lt64-clause-kept c = rw (lt-ltb (length c.args.out.now) 64 c.if-out-lt64.true) refl

pub returns-clause-kept : goal.returns-clause-kept
unfolding printed_in overlaid
returns-clause-kept c =
    let text : c.swap_with_slice.new.self ≡ printed_for c.args.line.now =
    c.swap_with_slice.ensures.after ∙ c.as_mut_slice.ensures.value ∙ c.printed_for-text.ensures in
    let n : c.len-n.result ≡ length (printed_for c.args.line.now) =
    c.len-n.ensures.value ∙ ap length c.printed_for-text.ensures in
    rw (text, n, le-ltb (length c.args.out.now) 64 c.if-out-lt64.false) refl
