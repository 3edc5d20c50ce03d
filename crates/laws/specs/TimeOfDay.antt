-- Times of day that exist, and that all others are refused: second 60 exists only before a step.
use Rattle.std.specs.Prelude.{◌≡◌, refl, Bool, true, false, cond, ◌&&◌, ◌↔◌, ◌⊎◌, map, ◌≤◌, ltb, ℤ, pos, nat_abs, ◌+ℤ◌}
use Rattle.std.proofs.Common.{sym, ap, ◌∙◌, inl, inr, ⊎_elim, arith, ltb-true, ltb-false}
use Rattle.rules.specs.declared.Time.{Time}
use Rattle.rules.specs.Units.{same, between}
use Rattle.rules.specs.Calendar.{day_number}
use Rattle.rules.specs.Dates.{steps, before_step, last_second, time_refused}
use Rattle.laws.specs.Ranges.{true_not_false, both_iff, refused_iff, accepted_iff, Between, between_iff, InRange}
use Rattle.laws.specs.Ranges.{in_range_lem, of_range, same_iff}
use Rattle.laws.specs.Seconds.{OneOf, before_step_iff}

-- "Second 60 exists only at 23:59:60 of the day before a step"
pub record AddedSecond (n : ℤ) (t : Time) : Type 0 where
  pub hour : t.hour ≡ pos 23
  pub minute : t.minute ≡ pos 59
  pub second : t.second ≡ pos 60
  pub step : OneOf (n +ℤ pos 1) (map day_number steps)

-- a time of day n
pub record TimeExists (n : ℤ) (t : Time) : Type 0 where
  pub hour : Between (pos 0) (pos 23) t.hour
  pub minute : Between (pos 0) (pos 59) t.minute
  pub second : Between (pos 0) (pos 59) t.second ⊎ AddedSecond n t
  pub ms : Between (pos 0) (pos 999) t.ms

-- the last second of a minute is 60
abbrev Last : ℤ → Time → Type 0
Last n t = ((t.hour ≡ pos 23) × (t.minute ≡ pos 59)) × OneOf (n +ℤ pos 1) (map day_number steps)

last_iff : (n : ℤ) (t : Time)
    → same t.hour (pos 23) && same t.minute (pos 59) && before_step n ≡ true ↔ Last n t
last_iff n t =
    both_iff (same t.hour (pos 23) && same t.minute (pos 59)) (before_step n)
    (both_iff (same t.hour (pos 23)) (same t.minute (pos 59)) (same_iff t.hour (pos 23))
    (same_iff t.minute (pos 59)))
    (before_step_iff n)

pub last_second_le : (n : ℤ) (t : Time) → last_second n t ≤ 60
unfolding last_second
last_second_le n t = go (same t.hour (pos 23) && same t.minute (pos 59) && before_step n)
  where
    go : (b : Bool) → cond b 60 59 ≤ 60
    go true = omega arith
    go false = omega arith

-- 0 to 60 is 0 to 59, or 60
to_sixty : (z : ℤ) → InRange 0 60 z → Between (pos 0) (pos 59) z ⊎ (z ≡ pos 60)
to_sixty z r = go (ltb (nat_abs z) 60) refl
  where
    go : (b : Bool) → ltb (nat_abs z) 60 ≡ b → Between (pos 0) (pos 59) z ⊎ (z ≡ pos 60)
    go true e =
        let h = ltb-true (nat_abs z) 60 e in
        inl ((between_iff (pos 0) (pos 59) z).0 (rw r.is (of_range 0 59 (nat_abs z) (omega arith) (omega arith))))
    go false e = inr (r.is ∙ ap pos (omega (arith, ltb-false (nat_abs z) 60 e, r.at_most)))

of_sixty : (z : ℤ) → Between (pos 0) (pos 59) z → between (pos 0) (pos 60) z ≡ true
of_sixty z p =
    let r = in_range_lem 0 59 z ((between_iff (pos 0) (pos 59) z).1 p) in
    rw r.is (of_range 0 60 (nat_abs z) (omega arith) (omega (arith, r.at_most)))

second_iff : (n : ℤ) (t : Time)
    → between (pos 0) (pos (last_second n t)) t.second ≡ true ↔ Between (pos 0) (pos 59) t.second ⊎ AddedSecond n t
unfolding last_second
second_iff n t = go (same t.hour (pos 23) && same t.minute (pos 59) && before_step n) (last_iff n t)
  where
    go : (b : Bool) → (b ≡ true ↔ Last n t)
        → (between (pos 0) (pos (cond b 60 59)) t.second ≡ true
        ↔ Between (pos 0) (pos 59) t.second ⊎ AddedSecond n t)
    go true f = (
      λ e.
          ⊎_elim (λ p. inl p)
          (λ q. let l = f.0 refl in inr (record { hour = l.0.0; minute = l.0.1; second = q; step = l.1 }))
          (to_sixty t.second (in_range_lem 0 60 t.second e)),
      λ p. ⊎_elim (λ q. of_sixty t.second q) (λ a. rw a.second (of_range 0 60 60 (omega arith) (omega arith))) p,
    )
    go false f = (
      λ e. inl ((between_iff (pos 0) (pos 59) t.second).0 e),
      λ p.
          ⊎_elim (λ q. (between_iff (pos 0) (pos 59) t.second).1 q)
          (λ a. true_not_false (sym (f.1 ((a.hour, a.minute), a.step)))) p,
    )

time_iff : (n : ℤ) (t : Time)
    → between (pos 0) (pos 23) t.hour && between (pos 0) (pos 59) t.minute
    && between (pos 0) (pos (last_second n t)) t.second && between (pos 0) (pos 999) t.ms ≡ true
    ↔ TimeExists n t
time_iff n t =
    let h = between (pos 0) (pos 23) t.hour in
    let m = between (pos 0) (pos 59) t.minute in
    let s = between (pos 0) (pos (last_second n t)) t.second in
    let f = between (pos 0) (pos 999) t.ms in
    let i =
    both_iff (h && m && s) f
    (both_iff (h && m) s (both_iff h m (between_iff _ _ t.hour) (between_iff _ _ t.minute)) (second_iff n t))
    (between_iff _ _ t.ms) in (
      λ e. let u = i.0 e in record { hour = u.0.0.0; minute = u.0.0.1; second = u.0.1; ms = u.1 },
      λ p. i.1 (((p.hour, p.minute), p.second), p.ms),
    )

pub time_refused_iff : (n : ℤ) (t : Time) → time_refused n t ≡ true ↔ ¬ (TimeExists n t)
unfolding time_refused
time_refused_iff n t = refused_iff _ (time_iff n t)

pub time_accepted_iff : (n : ℤ) (t : Time) → time_refused n t ≡ false ↔ TimeExists n t
unfolding time_refused
time_accepted_iff n t = accepted_iff _ (time_iff n t)
