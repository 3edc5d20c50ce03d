-- The order of altitudes is kept: of two that are at least 119 µas apart the higher is seen higher, in any weather.
use Rattle.std.specs.Prelude.{◌≡◌, Bool, cond, ◌&&◌, ℕ, ◌+◌, ◌*◌, ◌-◌, ◌≤◌, ◌<◌, ℤ, pos, ◌+ℤ◌, ◌≤ℤ◌, ◌<ℤ◌, Option}
use Rattle.std.proofs.Math.Path.{refl}
use Rattle.std.proofs.Common.{sym, ◌∙◌, lit<, lit≤}
use Rattle.std.proofs.Math.Bool.{true, false}
use Rattle.std.proofs.Math.Decide.{dec_le}
use native.Mathlib.Omega.{arith}
use Rattle.std.proofs.Math.IntN.{nat_abs}
use Rattle.rules.specs.declared.Weather.{Weather}
use Rattle.integers.specs.Difference.{pos_part, neg_part, parts_of_eq, add_is, le_z_true}
use Rattle.integers.specs.Size.{abs_is, parts_apart}
use Rattle.rules.specs.Units.{quarter, +◌, −◌}
use Rattle.laws.specs.Ranges.{yes as passed, between_iff, le_of_sizes, lt_of_sizes, true_not_false}
use Rattle.laws.specs.Rounding.{rnd_size_high}
use Rattle.rules.specs.Refraction.{argument, standard_lift, in_weather, is_lifted, lift_at, lift, observed}
use Rattle.rules.specs.Floats.{tenths}
use Rattle.laws.specs.Weather.{FieldsInRange}
use Rattle.laws.specs.RefractionArgument.{most, falls_slowly, lifted_range, lifted_size}
use Rattle.laws.specs.Refraction.{standard_lift_range, Air, record_air, lift_range}
use Rattle.laws.specs.ObservedAltitude.{lifted_by, past_zenith, room}
use Rattle.laws.specs.PairSteps.{parts_of, parts_of_slow}
use Rattle.laws.specs.LiftSteps.{divisor_of, argument_parts, argument_least, quotient_falls}
use Rattle.laws.specs.LiftSteps.{quotient_falls_faster}
use Rattle.laws.specs.StandardSteps.{low_falls, higher_falls, upper_falls}

-- ---- both lifted

module _ (p t : ℤ) (air : Air p t) (h k : ℤ) (e : is_lifted h ≡ true) (i : is_lifted k ≡ true)
    (a : divisor_of h + 119 ≤ divisor_of k) where
  -- the lift in this air
  abbrev lift_in : ℤ → ℤ
  lift_in z = in_weather (standard_lift z) p t

  abbrev n : ℕ
  n = nat_abs (argument h)

  abbrev m : ℕ
  m = nat_abs (argument k)

  -- g grows, by no more than the altitude
  record Grown : Type 0 where
    least : 14796000000 ≤ divisor_of h
    from : 5421897810 ≤ n
    grows : n ≤ m
    slow : m + divisor_of h ≤ n + divisor_of k

  grown : Grown
  grown =
      let r = (lifted_range h e).at_least in
      let o = argument_parts h e in
      let q = argument_parts k i in
      let s = rnd_size_high most 14796000000 (lit< tt) in
      record {
        least = r;
        from = omega (arith, argument_least h 14796000000 9021897810 e (lit≤ tt) r (omega arith));
        grows = omega (arith, o, q, falls_slowly (divisor_of h) (divisor_of k) r (omega arith));
        slow = omega (arith, o, q, quotient_falls (divisor_of h) (divisor_of k) r (omega arith));
      }

  -- up to 22,000,000,000 by no more than three quarters
  slower : divisor_of k ≤ 22000000000 → 4 * m + 3 * divisor_of h ≤ 4 * n + 3 * divisor_of k + 4
  slower c = omega (
    arith,
    argument_parts h e,
    argument_parts k i,
    quotient_falls_faster (divisor_of h) (divisor_of k) grown.least (omega arith) c,
  )

  abbrev Kept : Type 0
  Kept = nat_abs (lift_in h) + divisor_of h < nat_abs (lift_in k) + divisor_of k

  -- one part of x lowers the lift by at most 118; two or more are far enough apart
  floor_kept : divisor_of k ≤ 22000000000 → m ≤ 50000000000 → Kept
  floor_kept c v =
      by (dec_le (parts_of m) (parts_of n + 1)) (parts_of_slow n m grown.grows) (slower c) grown.grows
    where
      of : (d : ℕ) → 1 ≤ d → parts_of m ≤ parts_of n + d → 118 * d + divisor_of h < divisor_of k → Kept
      of d o g l = omega (arith, low_falls p t air h k e i grown.grows grown.from v d o g)

      by : Dec (parts_of m ≤ parts_of n + 1) → 192 * (parts_of m - parts_of n) ≤ (m - n) + 192
          → 4 * m + 3 * divisor_of h ≤ 4 * n + 3 * divisor_of k + 4 → n ≤ m → Kept
      by (yes g) s x u = of 1 (lit≤ tt) g (omega arith)
      by (no g) s x u = of (parts_of m - parts_of n) (omega arith) (omega arith) (omega arith)

  higher_kept : 22000000000 ≤ divisor_of k → m ≤ 50000000000 → Kept
  higher_kept c v =
      by (dec_le (parts_of m) (parts_of n + 1)) (parts_of_slow n m grown.grows) grown.slow grown.grows
    where
      from : 9671636364 ≤ m
      from = omega (
        arith,
        argument_least k 22000000000 6067636364 i (lit≤ tt) c
            (omega (arith, rnd_size_high most 22000000000 (lit< tt))),
      )

      of : (d : ℕ) → 1 ≤ d → parts_of m ≤ parts_of n + d → 81 * d + divisor_of h < divisor_of k → Kept
      of d o g l = omega (arith, higher_falls p t air h k e i grown.grows grown.from v d o g from)

      by : Dec (parts_of m ≤ parts_of n + 1) → 192 * (parts_of m - parts_of n) ≤ (m - n) + 192
          → m + divisor_of h ≤ n + divisor_of k → n ≤ m → Kept
      by (yes g) s x u = of 1 (lit≤ tt) g (omega arith)
      by (no g) s x u = of (parts_of m - parts_of n) (omega arith) (omega arith) (omega arith)

  -- no lift is larger than 4,600,000,000
  upper_kept : 50000000000 ≤ m → n ≤ quarter → Kept
  upper_kept c v = by (dec_le (divisor_of k) (divisor_of h + 4600000000)) grown.slow grown.grows
    where
      by : Dec (divisor_of k ≤ divisor_of h + 4600000000) → m + divisor_of h ≤ n + divisor_of k → n ≤ m → Kept
      by (yes g) x u = omega (arith, upper_falls p t air h k e i grown.grows (omega arith) v)
      by (no g) x u = omega (arith, lifted_by p t h air 3300000000 4600000000 (standard_lift_range h e) (lit≤ tt))

  lifted_kept : Kept
  lifted_kept = by (dec_le quarter n) (dec_le m 50000000000) (dec_le (divisor_of k) 22000000000)
    where
      by : Dec (quarter ≤ n) → Dec (m ≤ 50000000000) → Dec (divisor_of k ≤ 22000000000) → Kept
      by (yes u) q r = omega (arith, lifted_by p t h air 0 0 (past_zenith h e u) (lit≤ tt))
      by (no u) (yes q) (yes r) = floor_kept r q
      by (no u) (yes q) (no r) = higher_kept (omega arith) q
      by (no u) (no q) r = upper_kept (omega arith) (omega arith)

-- ---- any two

-- what is not lifted, and is above what is, is above a quarter
above_lifted : (h k : ℤ) → is_lifted h ≡ true → is_lifted k ≡ false
    → pos_part h + neg_part k ≤ pos_part k + neg_part h → quarter < pos_part k
unfolding is_lifted
above_lifted h k e i l = by (dec_le (pos_part k) quarter)
  where
    by : Dec (pos_part k ≤ quarter) → quarter < pos_part k
    by (no p) = omega arith
    by (yes p) =
        let b = (between_iff (− 3600000000) (pos quarter) h).0 e in
        let c = le_z_true (− 3600000000) h (passed _ b.above.le) in
        true_not_false (sym ((between_iff (− 3600000000) (pos quarter) k).1 (record {
          above = le_of_sizes (− 3600000000) k (omega (arith, abs_is k));
          below = le_of_sizes k (pos quarter) (omega arith);
        })) ∙ i)

module _ (h k : ℤ) (l : pos_part h + neg_part k + 119 ≤ pos_part k + neg_part h) where
  divisors_apart : is_lifted h ≡ true → is_lifted k ≡ true
      → pos_part h + neg_part k + divisor_of k ≡ pos_part k + neg_part h + divisor_of h
  divisors_apart e i = omega (
    arith,
    add_is h (+ 18396000000),
    add_is k (+ 18396000000),
    parts_of_eq (h +ℤ + 18396000000) (pos (divisor_of h)) (lifted_range h e).is,
    parts_of_eq (k +ℤ + 18396000000) (pos (divisor_of k)) (lifted_range k i).is,
  )

  -- what the lift comes down by is less than what k is above h
  lifts_at_kept : (p t : ℤ) → Air p t
      → pos_part h + neg_part k + nat_abs (lift_at p t h) < pos_part k + neg_part h + nat_abs (lift_at p t k)
  unfolding lift_at
  lifts_at_kept p t air = of (is_lifted h) (is_lifted k) refl refl
    where
      of : (c d : Bool) → is_lifted h ≡ c → is_lifted k ≡ d
          → pos_part h + neg_part k + nat_abs (cond c (in_weather (standard_lift h) p t) (+ 0))
          < pos_part k + neg_part h + nat_abs (cond d (in_weather (standard_lift k) p t) (+ 0))
      of false d e i = omega arith
      of true true e i =
          let s = divisors_apart e i in
          omega (arith, lifted_kept p t air h k e i (omega arith))
      of true false e i =
          omega (arith, room p t h air (lifted_size h e) e, above_lifted h k e i (omega arith), parts_apart k)

  lifts_kept : (w : Weather) → FieldsInRange w
      → pos_part h + neg_part k + nat_abs (lift w h) < pos_part k + neg_part h + nat_abs (lift w k)
  unfolding lift
  lifts_kept w f = of (w.has_pressure && w.has_temperature)
    where
      of : (b : Bool)
          → pos_part h + neg_part k + nat_abs (cond b (lift_at (tenths w.pressure) (tenths w.temperature) h) (+ 0))
          < pos_part k + neg_part h + nat_abs (cond b (lift_at (tenths w.pressure) (tenths w.temperature) k) (+ 0))
      of true = lifts_at_kept (tenths w.pressure) (tenths w.temperature) (record_air w f)
      of false = omega arith

-- of two altitudes at least 119 µas apart the higher is seen higher
pub order_kept : (w : Weather) (h k : ℤ) → FieldsInRange w → (h +ℤ + 119) ≤ℤ k → observed w h <ℤ observed w k
unfolding observed
order_kept w h k f l =
    let a = le_z_true (h +ℤ + 119) k (passed _ l.le) in
    let b : pos_part h + neg_part k + 119 ≤ pos_part k + neg_part h = omega (arith, add_is h (+ 119)) in
    let x = lift w h in
    let y = lift w k in
    lt_of_sizes (h +ℤ x) (k +ℤ y) (omega (
      arith,
      lifts_kept h k b w f,
      add_is h x,
      add_is k y,
      abs_is x,
      abs_is y,
      (lift_range w h f).low,
      (lift_range w k f).low,
    ))
