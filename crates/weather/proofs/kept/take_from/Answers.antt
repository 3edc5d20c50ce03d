-- `weather::kept::take_from` meets its contract.
use Rattle.std.specs.Prelude.{Result, Ok, Err}
use Rattle.std.specs.Result.{MatchResult, IsErrAnd}
use Rattle.std.proofs.Common.{◌≡◌, Bool, true, false, cond, ap, ◌∙◌, rules}
use Rattle.std.proofs.lemmas.Result.{err_from_is_err_and}
use Rattle.rules.specs.declared.Weather.{Weather}
use Rattle.rules.specs.Weather.{recorded, stays, taken_in, taken_from, in_range, mended}
use Rattle.weather.proofs.kept.take_from.Goals as goal

-- a record that is refused is given back as it was
as_it_was : (w e : Weather) → Err e ≡ recorded w → e ≡ w
unfolding recorded
as_it_was w e = by (in_range (mended w))
  where
    in_err : Result Weather Weather → Weather
    in_err (Ok v) = w
    in_err (Err v) = v

    by : (b : Bool) → Err e ≡ cond b (Ok (mended w)) (Err w) → e ≡ w
    by true h = ap in_err h
    by false h = ap in_err h

pub returns-in_err-v : goal.returns-in_err-v
unfolding taken_from taken_in
returns-in_err-v c =
    let w = c.args.w in
    let p = err_from_is_err_and c.from_residual.result c.from_residual.ensures.1 in
    p.1 ∙ ap Err (p.2 ∙ as_it_was w c.in_err-v.field-0.0 c.in_err-v.ensures) ∙ ap (λ a. taken_in w a c.args.r) c.in_err-v.ensures

-- what `map_err` answers where its closure gives w
mapped : (w : Weather) (a r : Result Weather Weather) (post : Weather → Weather → Type 0) → ((e y : Weather) → post e y → y ≡ w)
    → MatchResult a (λ x. r ≡ Ok x) (λ e. IsErrAnd r (post e)) → r ≡ stays w a
unfolding stays
mapped w (Ok v) r post f h = h
mapped w (Err e) r post f h = let p = err_from_is_err_and r h in p.1 ∙ ap Err (f e p.0 p.2)

pub returns : goal.returns
unfolding taken_from taken_in
returns c =
    let w = c.args.w in
    mapped w _ c.map_err.result _ (λ e y h. search rules) c.map_err.ensures.cases
    ∙ ap (stays w) c.take.ensures
    ∙ ap (λ a. taken_in w a c.args.r) c.in_ok-v.ensures
