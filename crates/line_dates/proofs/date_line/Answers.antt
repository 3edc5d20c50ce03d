-- `line_dates::date_line` meets its contract.
use Rattle.std.specs.Prelude.{◌≡◌, refl, List, ℕ, ℤ, pos, ◌++◌, Some, None}
use Rattle.std.proofs.Common.{sym, ◌∙◌, SFits, to_z-of_z, rules}
use Rattle.std.specs.Int.{w64}
use Rattle.rules.specs.Times.{decimal}
use Rattle.rules.specs.Utc.{utc_of_tt}
use Rattle.laws.specs.Times.{refused_text}
use Rattle.numerals.specs.Numbers.{number_in, number_some, number_none}
use Rattle.line_dates.specs.DateLines.{clocked_text, date_line}
use Rattle.line_dates.specs.DateLaws.{line_of_number, line_other}
use Rattle.line_dates.proofs.date_line.Goals as goal

-- by whether the line is a number
date_line_some : (line : List ℕ) (z : ℤ) → number_in 18 line ≡ Some z → date_line line ≡ clocked_text (utc_of_tt (record { 0 = z }))
date_line_some line z e = let n = number_some 18 line z e in line_of_number line n.0 ∙ rw n.1 refl

date_line_none : (line : List ℕ) → number_in 18 line ≡ None → date_line line ≡ refused_text ++ decimal (pos 0)
date_line_none line e = line_other line (number_none 18 line e)

pub returns-in-Some : goal.returns-in-Some
returns-in-Some c =
    let f : SFits w64 c.in-Some.tt = search rules in
    let e = date_line_some c.args.line.now c.in-Some.tt (sym c.parse.ensures.value ∙ c.in-Some.is) in
    rw e (rw (c.utc_of_tt.ensures, to_z-of_z f) at c.clocked_text.ensures)

pub returns-in-None : goal.returns-in-None
returns-in-None c =
    rw (date_line_none c.args.line.now (sym c.parse.ensures.value ∙ c.in-None.is)) c.refused.ensures
