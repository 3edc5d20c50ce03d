-- `refraction::observed::observed_altitude` meets its contract: what `recorded` lets through is in range.
use Rattle.std.specs.Prelude.{◌≡◌, ℤ, Result, Ok, Err}
use Rattle.std.specs.Result.{MatchResult, IsErrAnd}
use Rattle.std.proofs.Common.{sym, ap, ◌∙◌, rules, to_z-of_z}
use Rattle.std.proofs.lemmas.Result.{err_from_is_err_and}
use Rattle.rules.specs.declared.Weather.{Weather}
use Rattle.rules.specs.declared.Refusal.{Refusal}
use Rattle.rules.specs.Weather.{recorded}
use Rattle.rules.specs.Refraction.{observed, observed_in, observed_altitude}
use Rattle.laws.specs.PassedUp.{passed_up}
use Rattle.laws.specs.WeatherOfC.{recorded_keeps}
use Rattle.words.specs.Fits.{held64}
use Rattle.refraction.proofs.observed.observed_altitude.Goals as goal

-- what `map_err` answers where its closure gives refusal 14
abbrev named : Result Weather Weather → Result Weather Refusal
named (Ok v) = Ok v
named (Err w) = Err Refusal.Reading

mapped : (a : Result Weather Weather) (r : Result Weather Refusal) (post : Weather → Refusal → Type 0)
    → ((e : Weather) (y : Refusal) → post e y → y ≡ Refusal.Reading)
    → MatchResult a (λ x. r ≡ Ok x) (λ e. IsErrAnd r (post e)) → r ≡ named a
mapped (Ok v) r post f h = h
mapped (Err e) r post f h = let p = err_from_is_err_and r h in p.1 ∙ ap Err (f e p.0 p.2)

-- and what follows of the record
refused_as : (a : Result Weather Weather) (h : ℤ) {r : Refusal} → Err r ≡ named a → Err r ≡ observed_in a h
unfolding observed_in
refused_as (Ok v) h e = absurd cc
refused_as (Err w) h e = ap (λ (x : Result Weather Refusal). of x) e
  where
    of : Result Weather Refusal → Result ℤ Refusal
    of (Ok v) = Err Refusal.Reading
    of (Err r) = Err r

given : (a : Result Weather Weather) {v : Weather} → Ok v ≡ named a → a ≡ Ok v
given (Ok x) {v} e = ap of (sym e)
  where
    of : Result Weather Refusal → Result Weather Weather
    of (Ok y) = Ok y
    of (Err r) = Ok v
given (Err w) e = absurd cc

pub returns-in_err-kept : goal.returns-in_err-kept
unfolding observed_altitude observed_in
returns-in_err-kept c =
    let m = mapped _ c.map_err.result _ (λ e y h. search rules) c.map_err.ensures.cases in
    passed_up c.from_residual.result c.in_err-kept.field-0.0 c.from_residual.ensures.1
    ∙ refused_as (recorded c.args.w) c.args.h (sym c.in_err-kept.was ∙ m ∙ ap named c.recorded.ensures)

pub lifted-requires : goal.lifted-requires
lifted-requires c =
    let m = mapped _ c.map_err.result _ (λ e y h. search rules) c.map_err.ensures.cases in
    (recorded_keeps c.args.w c.in_ok-kept.kept (given _ (sym c.in_ok-kept.was ∙ m ∙ ap named c.recorded.ensures))).fields

pub returns : goal.returns
unfolding observed_altitude observed_in
returns c =
    let m = mapped _ c.map_err.result _ (λ e y h. search rules) c.map_err.ensures.cases in
    ap Ok (held64 c.lifted.result c.lifted.type_inv
    ∙ c.lifted.ensures
    ∙ ap (observed c.in_ok-kept.kept) (to_z-of_z c.ranges.h))
    ∙ sym (ap (λ a. observed_in a c.args.h) (given _ (sym c.in_ok-kept.was ∙ m ∙ ap named c.recorded.ensures)))
