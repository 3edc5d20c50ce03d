-- Where no pressure and temperature are given, the program prints the same as without them, to the byte.
use Rattle.std.specs.Prelude.{◌≡◌, Bool, List, ℕ, None}
use Rattle.std.proofs.Common.{ap, ◌∙◌}
use Rattle.rules.specs.Times.{ended}
use Rattle.rules.specs.ListReading.{list_count}
use Rattle.line_asked.specs.Asking.{asked_of}
use Rattle.line_places.specs.Answers.{begun_of, begun}
use Rattle.line_places.specs.Program.{answer_lines, first_line, places}
use Rattle.line_places.specs.WithoutWeather.{places_without, begun_same, answer_lines_same}

pub without_weather : (people : Bool) (file input : List ℕ)
    → places people None file input ≡ places_without people file input
unfolding places places_without begun
without_weather people file input =
    let b = begun_of (list_count file) (asked_of (first_line input)) in
    ap ended (ap (answer_lines people None file) (begun_same b) ∙ answer_lines_same people file b)
