-- No second answer fits: the functions of crate `numerals`. Written by tools/only_one.py.
use seplogic.Ra.Ura.{Ura}
use base.Logic.{SProp}
use prog.Memory.{Memory}
use prog.Routine.{Routine}
use types.Logic.{Logic}
use contract.Monad.{Fun}
use Rattle.promises.specs.OfContracts.{OneAnswer, one, one_and, one_of_two}
use Rattle.numerals.specs.contracts.of_number as of_number
use Rattle.numerals.specs.contracts.signed as signed
use Rattle.numerals.specs.contracts.parse as parse
use Rattle.numerals.specs.contracts.fields.line_of as line_of
use Rattle.numerals.specs.contracts.tenths.of_tenths as of_tenths
use Rattle.numerals.specs.contracts.tenths.tenths_of as tenths_of
use Rattle.numerals.specs.contracts.tenths.parse as tenths_parse

module _ {M : Type 1} {𝓤 : Ura M} (𝓛 : Logic 𝓤) (mem : Memory → SProp 𝓤) (run : Routine → Fun 𝓤) where
  pub of_number_one : OneAnswer 𝓤 of_number.ended (of_number.clauses 𝓛 mem run)
  of_number_one κs passed g r s x y = one 𝓤 r s _

  pub signed_one : OneAnswer 𝓤 signed.ended (signed.clauses 𝓛 mem run)
  signed_one κs passed g r s x y = one_and 𝓤 r s _ _ _

  pub parse_one : OneAnswer 𝓤 parse.ended (parse.clauses 𝓛 mem run)
  parse_one κs passed g r s x y = one_of_two 𝓤 r s _

  pub line_of_one : OneAnswer 𝓤 line_of.ended (line_of.clauses 𝓛 mem run)
  line_of_one κs passed g r s x y = one 𝓤 r s _

  pub of_tenths_one : OneAnswer 𝓤 of_tenths.ended (of_tenths.clauses 𝓛 mem run)
  of_tenths_one κs passed g r s x y = one 𝓤 r s _

  pub tenths_of_one : OneAnswer 𝓤 tenths_of.ended (tenths_of.clauses 𝓛 mem run)
  tenths_of_one κs passed g r s x y = one 𝓤 r s _

  pub tenths_parse_one : OneAnswer 𝓤 tenths_parse.ended (tenths_parse.clauses 𝓛 mem run)
  tenths_parse_one κs passed g r s x y = one_of_two 𝓤 r s _
