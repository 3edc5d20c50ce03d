-- The numbers of the refusals: no two have the same, and none has the number of an answer.
use Rattle.std.specs.Prelude.{◌≡◌, refl, List, [], ◌∷◌, ℕ, ◌-◌, ◌<◌, get_or}
use Rattle.std.proofs.Common.{sym, ap, ◌∙◌, lit<}
use Rattle.rules.specs.declared.Refusal.{Refusal}
use Rattle.rules.specs.Refusals.{number}

-- those of 1 to 14, in the order of their numbers
abbrev pub refusals : List Refusal
refusals =
    Refusal.Year ∷ Refusal.Day ∷ Refusal.Time ∷ Refusal.Ut1MinusUtc ∷ Refusal.Star ∷ Refusal.Site ∷ Refusal.Direction
    ∷ Refusal.Turn ∷ Refusal.Mark ∷ Refusal.Count ∷ Refusal.Room ∷ Refusal.Instant ∷ Refusal.Length
    ∷ Refusal.Reading ∷ []

abbrev refusal_of : ℕ → Refusal
refusal_of n = get_or refusals (n - 1) Refusal.Stretch

refusal_of_number : (r : Refusal) → refusal_of (number r) ≡ r
unfolding number
refusal_of_number Refusal.Year = refl
refusal_of_number Refusal.Day = refl
refusal_of_number Refusal.Time = refl
refusal_of_number Refusal.Ut1MinusUtc = refl
refusal_of_number Refusal.Star = refl
refusal_of_number Refusal.Site = refl
refusal_of_number Refusal.Direction = refl
refusal_of_number Refusal.Turn = refl
refusal_of_number Refusal.Mark = refl
refusal_of_number Refusal.Count = refl
refusal_of_number Refusal.Room = refl
refusal_of_number Refusal.Instant = refl
refusal_of_number Refusal.Length = refl
refusal_of_number Refusal.Reading = refl
refusal_of_number Refusal.Stretch = refl

pub number_one : (r s : Refusal) → number r ≡ number s → r ≡ s
number_one r s e = sym (refusal_of_number r) ∙ ap refusal_of e ∙ refusal_of_number s

pub number_pos : (r : Refusal) → 0 < number r
unfolding number
number_pos Refusal.Year = lit< tt
number_pos Refusal.Day = lit< tt
number_pos Refusal.Time = lit< tt
number_pos Refusal.Ut1MinusUtc = lit< tt
number_pos Refusal.Star = lit< tt
number_pos Refusal.Site = lit< tt
number_pos Refusal.Direction = lit< tt
number_pos Refusal.Turn = lit< tt
number_pos Refusal.Mark = lit< tt
number_pos Refusal.Count = lit< tt
number_pos Refusal.Room = lit< tt
number_pos Refusal.Instant = lit< tt
number_pos Refusal.Length = lit< tt
number_pos Refusal.Reading = lit< tt
number_pos Refusal.Stretch = lit< tt
