-- `line_places::print_answer` meets its contract: all that is printed stands at the front of the room.
use Rattle.std.proofs.Common.{◌≡◌, ap, ◌∙◌, Bool, Option, List, ℕ, ◌+◌, ◌≤◌, arith, length, rules}
use Rattle.laws.specs.PuttingBytes.{overlaid_is}
use Rattle.line_entries.specs.declared.air.Air.{Air}
use Rattle.line_places.specs.Program.{places}
use Rattle.line_places.specs.Printed.{places_le}
use Rattle.line_places.proofs.print_answer.Goals as goal

fits : (people : Bool) (air : Option Air) (file input text room : List ℕ) → text ≡ places people air file input
    → length room ≡ 9472 → 0 + length text ≤ length room
fits people air file input text room e long = omega (arith, ap length e, places_le people air file input, long)

pub put_at-requires : goal.put_at-requires
put_at-requires c = fits _ _ _ _ _ _ (c.as_slice.ensures.value ∙ c.answer_text.ensures) (search rules)

pub returns-clause-kept : goal.returns-clause-kept
returns-clause-kept c =
    let a = c.args in
    let long : length a.out.now ≡ 9472 = search rules in
    (rw (c.as_slice.ensures.value, c.answer_text.ensures) at c.put_at.ensures.out_after)
    ∙ overlaid_is _ a.out.now (omega (arith, places_le a.people a.air a.file.now a.input.now, long))
