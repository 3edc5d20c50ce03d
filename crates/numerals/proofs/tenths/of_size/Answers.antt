-- `numerals::tenths::of_size` meets its contract.
use Rattle.std.proofs.Common.{sym, ap, ◌∙◌}
use Rattle.rules.specs.Numerals.{is_digit, of_digits}
use Rattle.numerals.proofs.Bytes.{digit_is}
use Rattle.numerals.specs.TenthsParts.{of_size_other, of_size_pointed}
use Rattle.numerals.proofs.tenths.of_size.Goals as goal

pub returns-then-of_digits : goal.returns-then-of_digits
returns-then-of_digits c =
    let p = c.parts-tenth.ensures in
    let e = sym (c.of_digits.ensures ∙ ap (of_digits 4) p.before) ∙ c.if-of_digits.true in
    c.is_ascii_digit.ensures.value ∙ digit_is c.parts-tenth.result.1 ∙ ap is_digit p.after ∙ of_size_pointed c.args.s.now e

pub returns-else-of_digits : goal.returns-else-of_digits
returns-else-of_digits c =
    let p = c.parts-tenth.ensures in
    let e = sym (c.of_digits.ensures ∙ ap (of_digits 4) p.before) ∙ c.if-of_digits.false in
    c.if-of_digits.false ∙ of_size_other c.args.s.now e
