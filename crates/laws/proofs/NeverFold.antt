-- Of answers: two accepted UTC times have the same TT only if they are the same, and each TT of the stretch comes from
-- exactly one, which is the one that is answered.
use Rattle.std.specs.Prelude.{◌≡◌, Ok}
use Rattle.std.proofs.Common.{sym, ap, ◌∙◌, arith}
use Rattle.integers.specs.Difference.{parts_of_eq}
use Rattle.rules.specs.declared.Ut.{Ut}
use Rattle.rules.specs.declared.Tt.{Tt}
use Rattle.rules.specs.declared.Utc.{Utc}
use Rattle.rules.specs.declared.Moment.{Moment}
use Rattle.rules.specs.declared.Instants.{Instants}
use Rattle.rules.specs.Dates.{instants}
use Rattle.rules.specs.Utc.{utc_of, utc_at, utc_of_tt}
use Rattle.laws.specs.Clocks.{of_instants}
use Rattle.laws.specs.ClockOrder.{same_ms}
use Rattle.laws.specs.NeverFold.{tt_counts, accepted_in_stretch, utc_at_lem, answered_same, utc_answered}
use Rattle.rules.specs.Dates.{ut_and_tt}

module _ (m m' : Moment) (v v' : Ut) (t t' : Tt) (e : instants m ≡ Ok (ut_and_tt v t))
    (e' : instants m' ≡ Ok (ut_and_tt v' t')) where
  -- "two accepted UTC times have the same TT only if they are the same"
  pub same_tt : t ≡ t' → utc_of m ≡ utc_of m'
  same_tt s =
      same_ms (utc_of m) (utc_of m') (of_instants m v t e) (of_instants m' v' t' e')
      (omega (arith, tt_counts m v t e, tt_counts m' v' t' e', parts_of_eq t.0 t'.0 (ap (λ (x : Tt). x.0) s)))

module _ (t : Tt) where
  -- UTC to TT and back
  pub tt_then_utc : (m : Moment) (v : Ut) → instants m ≡ Ok (ut_and_tt v t) → utc_of_tt t ≡ Ok (utc_of m)
  tt_then_utc m v e =
      let h = accepted_in_stretch m v t e in
      let w = utc_at_lem t.0 h in
      utc_answered t h
      ∙ ap Ok (same_ms (utc_at t.0) (utc_of m) w.0 (of_instants m v t e)
      (omega (arith, w.1, tt_counts m v t e)))

  -- and from no other: what is answered is the only one
  pub only_answered : (u : Utc) → utc_of_tt t ≡ Ok u → (m : Moment) (v : Ut) → instants m ≡ Ok (ut_and_tt v t)
      → utc_of m ≡ u
  only_answered u e m v f = answered_same (utc_of m) u (sym (tt_then_utc m v f) ∙ e)
