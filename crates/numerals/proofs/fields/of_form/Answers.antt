-- `numerals::fields::of_form` meets its contract.
use Rattle.std.proofs.Common.{sym, ◌∙◌}
use Rattle.rules.specs.Lines.{form}
use Rattle.numerals.proofs.Bytes.{form_all}
use Rattle.numerals.proofs.fields.of_form.Goals as goal

pub returns : goal.returns
returns c = c.all_alike.ensures ∙ sym (form_all form c.args.s.now (sym c.requires))
