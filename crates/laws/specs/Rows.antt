-- Spans laid end to end: a span and a day in it is one number, and back. Years in the span of dates, months in a year.
use Rattle.std.specs.Prelude.{◌≡◌, refl, Bool, true, false, cond, List, [], ◌∷◌, ℕ, zero, suc, ◌+◌, ◌-◌, ◌≤◌, ◌<◌, ltb, length, take, get_or}
use Rattle.std.proofs.Common.{arith, ltb-true, ltb-false, lt-ltb, le-ltb}
use Rattle.rules.specs.Years.{sum, Fall, fall}

-- ---- sums of the first spans

none_at : (i : ℕ) → ◌≡◌ {A = ℕ} (get_or [] i 0) 0
none_at zero = refl
none_at (suc i) = refl

-- one span more
pub sum_take_suc : (ns : List ℕ) (i : ℕ) → sum (take (suc i) ns) ≡ sum (take i ns) + get_or ns i 0
unfolding sum
sum_take_suc [] zero = refl
sum_take_suc [] (suc i) = refl
sum_take_suc (n ∷ ns) zero = omega arith
sum_take_suc (n ∷ ns) (suc i) = omega (arith, sum_take_suc ns i)

pub sum_take_le : (ns : List ℕ) (i : ℕ) → sum (take i ns) ≤ sum ns
unfolding sum
sum_take_le ns zero = omega arith
sum_take_le [] (suc i) = omega arith
sum_take_le (n ∷ ns) (suc i) = omega (arith, sum_take_le ns i)

-- a day of a span lies before the end of all spans
pub place_lt : (ns : List ℕ) (i r : ℕ) → r < get_or ns i 0 → sum (take i ns) + r < sum ns
place_lt ns i r h = omega (arith, sum_take_suc ns i, sum_take_le ns (suc i))

-- ---- the order of spans

module _ (f : ℕ → ℕ) (step : (n : ℕ) → f n ≤ f (suc n)) where
  by_steps : (n k m : ℕ) → n + k ≡ m → f n ≤ f m
  by_steps n zero m e = let q : n ≡ m = omega arith in rw q (omega arith)
  by_steps n (suc k) m e =
      let q : m ≡ suc (n + k) = omega arith in rw q (omega (arith, by_steps n k (n + k) refl, step (n + k)))

  -- what does not fall from a number to the next falls nowhere
  pub grows : (n k : ℕ) → n ≤ k → f n ≤ f k
  grows n k h = by_steps n (k - n) k (omega arith)

-- a day of an earlier span comes before each of a later one
pub earlier_span : (ns : List ℕ) (i k r : ℕ) → i < k → r < get_or ns i 0 → sum (take i ns) + r < sum (take k ns)
earlier_span ns i k r h l =
    let step : (n : ℕ) → sum (take n ns) ≤ sum (take (suc n) ns) = λ n. omega (arith, sum_take_suc ns n) in
    omega (arith, sum_take_suc ns i, grows (λ n. sum (take n ns)) step (suc i) k (omega arith))

-- ---- where a number falls

-- f is where day n falls
pub record Falls (ns : List ℕ) (n : ℕ) (f : Fall) : Type 0 where
  pub span_lt : f.span < length ns
  pub day_lt : f.day < get_or ns f.span 0
  pub whole : sum (take f.span ns) + f.day ≡ n

pub falls : (ns : List ℕ) (n : ℕ) → n < sum ns → Falls ns n (fall ns n)
unfolding fall sum
falls [] n h = absurd (omega arith)
falls (m ∷ ms) n h = go (ltb n m) refl (λ l. falls ms (n - m) l)
  where
    go : (b : Bool) → ltb n m ≡ b → (n - m < sum ms → Falls ms (n - m) (fall ms (n - m)))
        → Falls (m ∷ ms) n
        (cond b (record { span = 0; day = n }) (record
        { span = suc (fall ms (n - m)).span; day = (fall ms (n - m)).day }))
    go true e f = record { span_lt = omega arith; day_lt = ltb-true n m e; whole = omega arith }
    go false e f =
        let l = ltb-false n m e in
        let q = f (omega arith) in
        record { span_lt = omega (arith, q.span_lt); day_lt = q.day_lt; whole = omega (arith, q.whole) }

-- a number falls in one place
pub fall_one : (ns : List ℕ) (i r n : ℕ) → r < get_or ns i 0 → sum (take i ns) + r ≡ n
    → fall ns n ≡ record { span = i; day = r }
unfolding fall sum
fall_one [] i r n h e = absurd (omega (arith, none_at i))
fall_one (m ∷ ms) zero r n h e =
    let q : n ≡ r = omega arith in
    rw (q, lt-ltb r m h)
fall_one (m ∷ ms) (suc i) r n h e =
    let f = fall_one ms i r (n - m) h (omega arith) in
    rw (le-ltb n m (omega arith), f)
