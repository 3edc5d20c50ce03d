-- `numerals::fields::line_of` meets its contract.
use Rattle.std.specs.Prelude.{drop}
use Rattle.std.proofs.Common.{sym, ap, ◌∙◌, arith, to_z-of_z, SFits, rules}
use Rattle.std.specs.Int.{w32, w64}
use Rattle.words.specs.Fits.{held32, fits32}
use Rattle.rules.specs.Numerals.{of_form, field}
use Rattle.rules.specs.Lines.{form, moment}
use Rattle.numerals.specs.Numbers.{number_some, number_none}
use Rattle.numerals.proofs.Lines.{line_short, line_other_form, line_other_number, line_told}
use Rattle.numerals.proofs.fields.line_of.Goals as goal

pub returns-in_err-head : goal.returns-in_err-head
returns-in_err-head c = c.from_residual.ensures ∙ sym (line_short c.args.line.now c.in_err-head.ensures.cases)

pub returns-then-not-of_form : goal.returns-then-not-of_form
returns-then-not-of_form c =
    let head = c.in_ok-head.ensures.cases.1 in
    sym (line_other_form c.args.line.now (sym (c.of_form.ensures ∙ ap (of_form form) head) ∙ c.if-not-of_form.true))

pub returns-in_err-ut1_minus_utc : goal.returns-in_err-ut1_minus_utc
returns-in_err-ut1_minus_utc c =
    let line = c.args.line.now in
    let rest = c.in_ok-head.ensures.cases.2 in
    let e = sym (rw rest at c.in_err-ut1_minus_utc.ensures.value) in
    c.from_residual-in_err-ut1_minus_utc.ensures ∙ sym (line_other_number line (number_none 4 (drop 24 line) e))

pub returns : goal.returns
unfolding moment field
returns c =
    let line = c.args.line.now in
    let head = c.in_ok-head.ensures.cases.1 in
    let rest = c.in_ok-head.ensures.cases.2 in
    let formed = sym (c.of_form.ensures ∙ ap (of_form form) head) ∙ c.if-not-of_form.false in
    let d = c.in_ok-ut1_minus_utc.field-0 in
    let told = number_some 4 (drop 24 line) d (sym (rw rest at c.in_ok-ut1_minus_utc.ensures.value)) in
    let f : SFits w32 d = fits32 d (omega (arith, c.in_ok-ut1_minus_utc.ensures.small)) in
    let g : SFits w64 d = search rules in
    rw (
      line_told line formed told.0,
      held32 c.field.result c.field.type_inv,
      held32 c.field-2.result c.field-2.type_inv,
      held32 c.field-3.result c.field-3.type_inv,
      held32 c.field-4.result c.field-4.type_inv,
      held32 c.field-5.result c.field-5.type_inv,
      held32 c.field-6.result c.field-6.type_inv,
      held32 c.field-7.result c.field-7.type_inv,
      c.field.ensures,
      c.field-2.ensures,
      c.field-3.ensures,
      c.field-4.ensures,
      c.field-5.ensures,
      c.field-6.ensures,
      c.field-7.ensures,
      to_z-of_z g,
      to_z-of_z f,
      told.1,
    )
