-- The record that C keeps: its fields are in range after any reading, whatever C handed in.
use Rattle.std.specs.Prelude.{◌≡◌, refl, Bool, true, false, cond, Result, Ok, Err}
use Rattle.std.proofs.Common.{ap, subst, arith}
use Rattle.rules.specs.declared.Reading.{Reading}
use Rattle.rules.specs.declared.Weather.{Weather}
use Rattle.rules.specs.Refusals.{number}
use Rattle.rules.specs.Answers.{weathered_number, weathered_record}
use Rattle.rules.specs.Weather.{is_accepted}
use Rattle.rules.specs.Weather.{with_reading, taken, recorded, stays, taken_in, taken_from}
use Rattle.laws.specs.Weather.{Kept, with_kept}
use Rattle.laws.specs.WeatherOfC.{recorded_keeps}

pub taken_from_keeps : (w v : Weather) (r : Reading) → taken_from w r ≡ Ok v → Kept v
unfolding taken_from taken_in stays taken weathered_number weathered_record number
taken_from_keeps w v r e = by (recorded w) (recorded_keeps w) e
  where
    no : {A : Type 0} (u : Weather) → Err u ≡ Ok v → A
    no u q = absurd (omega (arith, ap weathered_number q))

    of : (u : Weather) (b : Bool) → is_accepted r ≡ b → Kept u
        → stays w (cond b (Ok (with_reading u r)) (Err u)) ≡ Ok v → Kept v
    of u true k f q = subst Kept (ap weathered_record q) (with_kept u r f k)
    of u false k f q = no w q

    by : (a : Result Weather Weather) → ((u : Weather) → a ≡ Ok u → Kept u) → taken_in w a r ≡ Ok v → Kept v
    by (Ok u) f q = of u (is_accepted r) refl (f u refl) q
    by (Err u) f q = no w q
