-- What the functions print, brought to the lines that their contracts name: a refusal alone in its room, the entries of a
-- list that are its first ones, and a command whose air is accepted.
use Rattle.std.specs.Prelude.{◌≡◌, ℕ, ◌≤◌, Bool, true, false, cond, List, [], ◌∷◌, ◌++◌, ℤ, pos, length, take, Option, Some, None, Result, Ok, Err, refl}
use Rattle.std.proofs.Common.{ap, ◌∙◌, length-take-le, get_or-take}
use Rattle.rules.specs.declared.Entry.{Entry}
use Rattle.rules.specs.Times.{refused_line, ended}
use Rattle.decimals.specs.Refused.{refused_to}
use Rattle.rules.specs.declared.Refusal.{Refusal}
use Rattle.entries_listing.specs.declared.Listing.{Listing}
use Rattle.entries_listing.specs.Listing.{blank}
use Rattle.line_entries.specs.declared.air.Air.{Air}
use Rattle.line_places.specs.declared.command.Command.{Command}
use Rattle.line_places.specs.Answers.{line_in}
use Rattle.line_places.specs.Air.{air_accepted}
use Rattle.line_places.specs.Listed.{listed_line, counted, accepted_lines, worked_lines}
use Rattle.line_places.specs.Lines.{lines_same}
use Rattle.line_places.specs.Printed.{ended_refused}

pub refused_alone : (before after : List ℕ) (z : ℤ) (n : ℕ) → before ≡ [] → z ≡ pos n
    → after ≡ before ++ ended (refused_to z ∷ []) → after ≡ ended (refused_line n ∷ [])
refused_alone before after z n empty is put =
    put ∙ ap (λ l. l ++ ended (refused_to z ∷ [])) empty ∙ ap (λ z. ended (refused_to z ∷ [])) is ∙ ended_refused n

pub first_lines : (people : Bool) (air : Option Air) (entries : List Entry) (count : ℕ) → count ≤ length entries
    → accepted_lines people air (take count entries) (length (take count entries)) ≡ accepted_lines people air entries count
unfolding accepted_lines listed_line
first_lines people air entries count h =
    let front = take count entries in
    rw (
      length-take-le count entries h,
      lines_same (listed_line people air front) (listed_line people air entries) count
          (λ i k. ap (line_in people air i) (get_or-take count entries i blank k)),
    )

-- of a list that was worked
pub first_worked : (people : Bool) (air : Option Air) (worked : Listing) (count : ℕ) → count ≤ length worked.entries
    → counted worked.answer
    (λ marked. accepted_lines people air (take count worked.entries) (length (take count worked.entries)))
    ≡ worked_lines people air count worked
unfolding worked_lines counted
first_worked people air worked count h = go worked.answer
  where
    go : (a : Result ℕ Refusal) → counted a (λ marked. accepted_lines people air (take count worked.entries) (length (take count worked.entries)))
        ≡ counted a (λ marked. accepted_lines people air worked.entries count)
    go (Ok k) = first_lines people air worked.entries count h
    go (Err r) = refl

-- ---- a command whose air is accepted

abbrev accepted : Command → Bool → Option Command
accepted command b = cond b (Some command) None

some_by : (command known : Command) (b : Bool) → accepted command b ≡ Some known → (b ≡ true) × (command ≡ known)
some_by command known true e = (refl, cc)
some_by command known false e = absurd cc

none_by : (command : Command) (b : Bool) → accepted command b ≡ None → b ≡ false
none_by command true e = absurd cc
none_by command false e = refl

pub accepted_some : (command known : Command) → accepted command (air_accepted command.air) ≡ Some known
    → (air_accepted command.air ≡ true) × (command ≡ known)
accepted_some command known e = some_by command known (air_accepted command.air) e

pub accepted_none : (command : Command) → accepted command (air_accepted command.air) ≡ None
    → air_accepted command.air ≡ false
accepted_none command e = none_by command (air_accepted command.air) e
