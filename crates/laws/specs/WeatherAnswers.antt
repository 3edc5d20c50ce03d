-- Number and values of the answers of change C-11 are one-to-one, as those of document 01's answers are.
use Rattle.std.specs.Prelude.{◌≡◌, [], ◌∷◌, Result, Ok, Err}
use Rattle.std.proofs.Common.{sym, ap, ◌∙◌, arith}
use Rattle.rules.specs.declared.Observed.{Observed}
use Rattle.rules.specs.Refusals.{number}
use Rattle.rules.specs.Answers.{place_numbers, observed_answer, weathered_number, weathered_record}
use Rattle.laws.specs.Refusals.{never, same_refusal, same_values, at}
use Rattle.laws.specs.PlaceAnswers.{place_one}
use Rattle.rules.specs.declared.Refusal.{Refusal}
use Rattle.rules.specs.declared.Weather.{Weather}
use Rattle.rules.specs.Refraction.{observed_with}

pub observed_one : (a b : Result Observed Refusal) → observed_answer a ≡ observed_answer b → a ≡ b
unfolding observed_answer place_numbers
observed_one (Ok o) (Ok q) e =
    let same = same_values _ _ e in
    ap (λ a. Ok (observed_with a o.altitude)) (place_one o.place q.place (o.altitude ∷ []) (q.altitude ∷ []) same)
    ∙ ap (λ zs. Ok (observed_with q.place (at zs 6))) same
observed_one (Ok o) (Err s) e = never s 7 _ e
observed_one (Err r) (Ok o) e = never r 7 _ (sym e)
observed_one (Err r) (Err s) e = ap Err (same_refusal r s 7 e)

-- by its number and its record
pub weathered_one : (a b : Result Weather Weather) → weathered_number a ≡ weathered_number b → weathered_record a ≡ weathered_record b
    → a ≡ b
unfolding weathered_number weathered_record number
weathered_one (Ok w) (Ok v) n e = ap Ok e
weathered_one (Ok w) (Err v) n e = absurd (omega arith)
weathered_one (Err w) (Ok v) n e = absurd (omega arith)
weathered_one (Err w) (Err v) n e = ap Err e
