-- `numerals::parse` meets its contract.
use Rattle.std.proofs.Common.{sym, ◌∙◌, rules}
use Rattle.words.specs.Fits.{held64}
use Rattle.numerals.specs.Numbers.{number_in}
use Rattle.numerals.proofs.Numbers.{number_spellable, number_lt}
use Rattle.numerals.proofs.parse.Goals as goal

pub signed-requires : goal.signed-requires
signed-requires c =
    number_spellable c.args.most c.args.s.now c.requires (sym c.of_number.ensures ∙ c.if-of_number.true)

pub returns-then-of_number : goal.returns-then-of_number
unfolding number_in
returns-then-of_number c =
    let e = sym c.of_number.ensures ∙ c.if-of_number.true in
    let z = held64 c.signed.result c.signed.type_inv ∙ c.signed.ensures.0 in
    record { value = rw (e, z); small = rw z (number_lt c.args.most c.args.s.now e) }

pub returns-else-of_number : goal.returns-else-of_number
unfolding number_in
returns-else-of_number c =
    let e = sym c.of_number.ensures ∙ c.if-of_number.false in
    record { value = rw e; small = search rules }
