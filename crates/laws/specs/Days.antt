-- The days of the span laid end to end, in ms: each has 86,400,000, and 1,000 more where it is the day before a step;
-- and on which of them a ms of the span falls.
use Rattle.std.specs.Prelude.{◌≡◌, refl, Bool, true, false, cond, ℕ, zero, suc, ◌+◌, ◌-◌, ◌*◌, ◌/◌, ◌≤◌, ◌<◌, ltb, ℤ, pos, ◌+ℤ◌, ◌-ℤ◌}
use Rattle.std.proofs.Common.{ap, arith, ltb-true, ltb-false}
use Rattle.integers.specs.Difference.{eq_of_parts, add_is, sub_is}
use Rattle.rules.specs.Dates.{tai_minus_utc, before_step}
use Rattle.laws.specs.Rows.{grows}
use Rattle.laws.specs.Seconds.{up_to, tai_is, tai_le, tai_suc, before_step_is}

-- ---- TAI−UTC by the days before

-- the day that has n days of the span before it
abbrev pub day_on : ℕ → ℤ
day_on n = pos n -ℤ pos 10227

abbrev pub tai_on : ℕ → ℕ
tai_on n = tai_minus_utc (day_on n)

pub day_after : (n : ℕ) → day_on (suc n) ≡ day_on n +ℤ pos 1
day_after n =
    eq_of_parts (day_on (suc n)) (day_on n +ℤ pos 1)
    (omega (arith, sub_is (pos (suc n)) (pos 10227), sub_is (pos n) (pos 10227), add_is (day_on n) (pos 1)))

-- 1 where an added second ends the day, else 0
abbrev pub added : ℕ → ℕ
added n = cond (before_step (day_on n)) 1 0

tai_after : (n : ℕ) → tai_on (suc n) ≡ tai_on n + added n
tai_after n = rw (day_after n, before_step_is (day_on n)) (tai_suc (day_on n))

pub tai_ge : (n : ℕ) → 10 ≤ tai_on n
tai_ge n = omega (arith, tai_is (day_on n))

pub tai_first : tai_on 0 ≡ 10
unfolding up_to
tai_first = tai_is (day_on 0)

pub tai_end : tai_on 46752 ≡ 37
unfolding up_to
tai_end = tai_is (day_on 46752)

-- ---- the ms of days

-- of the first n
unfoldable pub ms_before : ℕ → ℕ
ms_before n = n * 86400000 + 1000 * (tai_on n - 10)

pub ms_before_is : (n : ℕ) → ms_before n + 10000 ≡ n * 86400000 + 1000 * tai_on n
unfolding ms_before
ms_before_is n = omega (arith, tai_ge n)

-- of the one after them
abbrev pub ms_on : ℕ → ℕ
ms_on n = 86400000 + 1000 * added n

added_le : (n : ℕ) → added n ≤ 1
added_le n = go (before_step (day_on n))
  where
    go : (b : Bool) → cond b 1 0 ≤ 1
    go true = omega arith
    go false = omega arith

pub ms_on_le : (n : ℕ) → ms_on n ≤ 86401000
ms_on_le n = omega (arith, added_le n)

pub ms_before_after : (n : ℕ) → ms_before (suc n) ≡ ms_before n + ms_on n
ms_before_after n = omega (arith, ms_before_is n, ms_before_is (suc n), tai_after n)

pub ms_before_first : ms_before 0 ≡ 0
ms_before_first = omega (arith, ms_before_is 0, tai_first)

-- of all
pub ms_before_end : ms_before 46752 ≡ 4039372827000
ms_before_end = omega (arith, ms_before_is 46752, tai_end)

pub ms_before_grows : (n k : ℕ) → n ≤ k → ms_before n ≤ ms_before k
ms_before_grows n k h = grows ms_before (λ n. omega (arith, ms_before_after n)) n k h

-- a ms of an earlier day comes before each of a later one
pub earlier_day : (n k r : ℕ) → n < k → r < ms_on n → ms_before n + r < ms_before k
earlier_day n k r h l = omega (arith, ms_before_after n, ms_before_grows (suc n) k (omega arith))

-- ---- the day of a ms

-- ms j of the span is of the day that has `days` before it
pub record OfDay (j days : ℕ) : Type 0 where
  pub from : ms_before days ≤ j
  pub to : j < ms_before (suc days)

-- the days before it are fewer than k
pub record Found (j k : ℕ) : Type 0 where
  pub days : ℕ
  pub lt : days < k
  pub is : OfDay j days

pub found : (j k : ℕ) → j < ms_before k → Found j k
found j zero h = absurd (omega (arith, ms_before_first))
found j (suc k) h = go (ltb j (ms_before k)) refl (λ l. found j k l)
  where
    go : (b : Bool) → ltb j (ms_before k) ≡ b → (j < ms_before k → Found j k) → Found j (suc k)
    go true e f =
        let p = f (ltb-true j (ms_before k) e) in
        record { days = p.days; lt = omega (arith, p.lt); is = p.is }
    go false e f = record {
      days = k;
      lt = omega arith;
      is = record { from = ltb-false j (ms_before k) e; to = h };
    }

-- ---- how the day is found

module _ (j n : ℕ) (o : OfDay j n) where
  -- the days that would be reached without added seconds
  abbrev most : ℕ
  most = j / 86400000

  not_more : n ≤ most
  not_more = omega (arith, o.from, ms_before_is n, tai_ge n)

  one_less : most ≤ suc n
  one_less = omega (arith, o.to, ms_before_is (suc n), tai_le (day_on (suc n)))

  pub reached : ms_before most ≤ j → n ≡ most
  reached h = go (ltb n most) refl
    where
      go : (b : Bool) → ltb n most ≡ b → n ≡ most
      go true e = absurd (omega (arith, o.to, ms_before_grows (suc n) most (ltb-true n most e)))
      go false e = omega (arith, not_more, ltb-false n most e)

  pub not_reached : j < ms_before most → suc n ≡ most
  not_reached h = go (ltb n most) refl
    where
      go : (b : Bool) → ltb n most ≡ b → suc n ≡ most
      go true e = omega (arith, one_less, ltb-true n most e)
      go false e =
          let q : n ≡ most = omega (arith, not_more, ltb-false n most e) in
          absurd (omega (arith, o.from, ap ms_before q))
