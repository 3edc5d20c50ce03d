-- `line_places::answer_text` meets its contract.
use Rattle.std.proofs.Common.{◌≡◌, refl, sym, ap, ◌∙◌, Bool, List, ℕ, take, length-take-le, Option}
use Rattle.rules.specs.Times.{newline, ended}
use Rattle.rules.specs.ListReading.{list_count}
use Rattle.line_asked.specs.declared.Asked.{Asked}
use Rattle.line_asked.specs.Asking.{asked_of, length_before}
use Rattle.line_asked.specs.Words.{before_le}
use Rattle.entries_listing.specs.declared.Listing.{Listing}
use Rattle.entries_listing.specs.Listing.{listing_read}
use Rattle.line_entries.specs.declared.air.Air.{Air}
use Rattle.line_places.specs.Answers.{begun_of, in_air, begun}
use Rattle.line_places.specs.Program.{answer_lines, first_line, places}
use Rattle.line_places.specs.Listed.{read_lines}
use Rattle.line_places.specs.ListedLines.{read_few}
use Rattle.line_places.specs.Printed.{answer_put}
use Rattle.line_places.proofs.ListedLines.{lists_print}
use Rattle.line_places.proofs.answer_text.Goals as goal

pub slice_bounds-line-end : goal.slice_bounds-line-end
slice_bounds-line-end c =
    sym (length-take-le c.length_before-n.result c.args.input.now (rw c.length_before-n.ensures (before_le _ c.args.input.now)))

pub print_asked-requires-clause-few : goal.print_asked-requires-clause-few
print_asked-requires-clause-few c = λ count e. read_few c.args.file.now c.read.result count c.read.ensures e

-- the lines of the list that was read are those of the program
printed : (people : Bool) (air : Option Air) (file input : List ℕ) (n : ℕ) (asked : Option Asked) (listing : Listing)
    (lines : List (List ℕ)) (room : List ℕ) → n ≡ length_before newline input → asked ≡ asked_of (take n input)
    → listing ≡ listing_read file → read_lines people air asked listing ≡ lines → room ≡ ended lines
    → room ≡ places people air file input
unfolding begun first_line
printed people air file input n asked listing lines room e f g h put =
    let asks : asked ≡ asked_of (first_line input) = f ∙ ap (λ k. asked_of (take k input)) e in
    answer_put people air file input lines room
    (ap (λ asked. answer_lines people air file (in_air air (begun_of (list_count file) asked))) (sym asks)
    ∙ lists_print people air file asked ∙ ap (read_lines people air asked) (sym g) ∙ h)
    put

pub returns : goal.returns
returns c =
    printed _ _ _ _ _ _ _ _ _ c.length_before-n.ensures c.asked_of-asked.ensures c.read.ensures refl c.print_asked.ensures
