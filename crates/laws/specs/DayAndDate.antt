-- The day number of a date, and the date of a day number, as answers: refused exactly when, and the round trip both
-- ways.
use Rattle.std.specs.Prelude.{◌≡◌, refl, Bool, true, false, cond, ◌↔◌, ℤ, pos, neg_ℤ, nat_abs, ◌+ℤ◌, ◌-ℤ◌, Result, Ok, Err}
use Rattle.std.proofs.Common.{sym, ap, ◌∙◌}
use Rattle.rules.specs.declared.Date.{Date}
use Rattle.rules.specs.declared.Refusal.{Refusal}
use Rattle.rules.specs.Calendar.{day_count, day_number, date_of_count, date_of_number, year_refused, day_refused, number_refused}
use Rattle.rules.specs.Calendar.{day_of, date_of}
use Rattle.laws.specs.Ranges.{true_not_false, refused_iff, accepted_iff, Between, between_iff}
use Rattle.laws.specs.DayCounts.{date, date_of_day_count, Counted, counted}
use Rattle.laws.specs.DayNumbers.{YearExists, year_refused_iff, DayExists, year_accepted_iff, day_refused_iff}
use Rattle.laws.specs.DayNumbers.{day_accepted_iff, real_date, day_number_is, count_in_span, in_span}
use Rattle.laws.specs.DayNumbers.{real_count_lt, real_date_is, date_of_number_is, number_count, real_accepted}
use Rattle.laws.specs.DayNumbers.{count_number}

-- ---- refused exactly when

-- three ways a date is answered
abbrev answered : Bool → Bool → ℤ → Result ℤ Refusal
answered a b n = cond a (Err Refusal.Year) (cond b (Err Refusal.Day) (Ok n))

day_of_is : (d : Date) → day_of d ≡ answered (year_refused d) (day_refused d) (day_number d)
unfolding day_of
day_of_is d = refl

answered_year : (a b : Bool) (n : ℤ) → answered a b n ≡ Err Refusal.Year ↔ a ≡ true
answered_year true b n = (λ e. refl, λ e. refl)
answered_year false true n = (λ e. cc, λ e. true_not_false (sym e))
answered_year false false n = (λ e. cc, λ e. true_not_false (sym e))

answered_day : (a b : Bool) (n : ℤ) → answered a b n ≡ Err Refusal.Day ↔ (a ≡ false) × (b ≡ true)
answered_day true b n = (λ e. let z : true ≡ false = cc in (z, true_not_false z), λ e. true_not_false e.0)
answered_day false true n = (λ e. (refl, refl), λ e. refl)
answered_day false false n = (λ e. (refl, (cc)), λ e. true_not_false (sym e.1))

answered_number : (a b : Bool) (n k : ℤ) → answered a b n ≡ Ok k → (a ≡ false) × ((b ≡ false) × (n ≡ k))
answered_number true b n k e = let z : true ≡ false = cc in true_not_false z
answered_number false true n k e = let z : true ≡ false = cc in true_not_false z
answered_number false false n k e = (refl, (refl, (cc)))

-- refusal 1 of a date: exactly when its year is not 1972 to 2099
pub day_of_refused_1 : (d : Date) → day_of d ≡ Err Refusal.Year ↔ ¬ (YearExists d)
day_of_refused_1 d =
    let u = answered_year (year_refused d) (day_refused d) (day_number d) in
    let v = year_refused_iff d in
    (λ e. v.0 (u.0 (sym (day_of_is d) ∙ e)), λ n. day_of_is d ∙ u.1 (v.1 n))

-- refusal 2 of a date: exactly when it has such a year, and no such month or day
pub day_of_refused_2 : (d : Date) → day_of d ≡ Err Refusal.Day ↔ YearExists d × ¬ (DayExists d)
day_of_refused_2 d =
    let u = answered_day (year_refused d) (day_refused d) (day_number d) in
    let v = year_accepted_iff d in
    let w = day_refused_iff d in (
      λ e. let p = u.0 (sym (day_of_is d) ∙ e) in (v.0 p.0, w.0 p.1),
      λ p. day_of_is d ∙ u.1 (v.1 p.0, w.1 p.1),
    )

-- what an answer with a day number tells
pub record Given (d : Date) (n : ℤ) : Type 0 where
  pub year : year_refused d ≡ false
  pub day : day_refused d ≡ false
  pub number : day_number d ≡ n

pub day_of_given : (d : Date) (n : ℤ) → day_of d ≡ Ok n → Given d n
day_of_given d n e =
    let p = answered_number (year_refused d) (day_refused d) (day_number d) n (sym (day_of_is d) ∙ e) in
    record { year = p.0; day = p.1.0; number = p.1.1 }

-- accepted exactly when year, month and day exist
pub day_of_accepted : (d : Date) → day_of d ≡ Ok (day_number d) ↔ YearExists d × DayExists d
day_of_accepted d = (
  λ e. let g = day_of_given d (day_number d) e in ((year_accepted_iff d).0 g.year, (day_accepted_iff d).0 g.day),
  λ p. day_of_is d ∙ rw ((year_accepted_iff d).1 p.0, (day_accepted_iff d).1 p.1),
)

-- a day number is refused, by 1, exactly outside the span
pub number_refused_iff : (n : ℤ) → number_refused n ≡ true ↔ ¬ (Between (neg_ℤ (pos 10227)) (pos 36524) n)
unfolding number_refused
number_refused_iff n = refused_iff _ (between_iff _ _ n)

pub number_accepted_iff : (n : ℤ) → number_refused n ≡ false ↔ Between (neg_ℤ (pos 10227)) (pos 36524) n
unfolding number_refused
number_accepted_iff n = accepted_iff _ (between_iff _ _ n)

dated_refused : (a : Bool) (d : Date)
    → cond a (Err Refusal.Year) (Ok d) ≡ Err Refusal.Year ↔ a ≡ true
dated_refused true d = (λ e. refl, λ e. refl)
dated_refused false d = (λ e. cc, λ e. true_not_false (sym e))

dated_on : (a : Bool) (d t : Date) → cond a (Err Refusal.Year) (Ok d) ≡ Ok t → (a ≡ false)
    × (d ≡ t)
dated_on true d t e = let z : true ≡ false = cc in true_not_false z
dated_on false d t e = (refl, (cc))

pub date_of_refused_1 : (n : ℤ)
    → date_of n ≡ Err Refusal.Year ↔ ¬ (Between (neg_ℤ (pos 10227)) (pos 36524) n)
unfolding date_of
date_of_refused_1 n =
    let u = dated_refused (number_refused n) (date_of_number n) in
    let v = number_refused_iff n in
    (λ e. v.0 (u.0 e), λ x. u.1 (v.1 x))

-- ---- the round trip

-- the date of an accepted date's day number is the date
pub date_of_day_of : (d : Date) (n : ℤ) → day_of d ≡ Ok n → date_of n ≡ Ok d
unfolding date_of
date_of_day_of d n e =
    let g = day_of_given d n e in
    let r = real_date d g.year g.day in
    let k : n ≡ pos (day_count d) -ℤ pos 10227 = sym g.number ∙ day_number_is d in
    let i : number_refused n ≡ false = (number_accepted_iff n).1 (rw k (count_in_span (day_count d) (real_count_lt d r)))
    in
    let c : date_of_count (day_count d) ≡ d =
    ap (λ x. date_of_count (day_count x)) (real_date_is d r) ∙ date_of_day_count _ _ _ r.real
    ∙ sym (real_date_is d r) in
    rw (i, date_of_number_is n, k, number_count (day_count d), c)

-- the day number of a day number's date is the day number
pub day_of_date_of : (n : ℤ) (d : Date) → date_of n ≡ Ok d → day_of d ≡ Ok n
unfolding date_of day_of
day_of_date_of n d e =
    let p = dated_on (number_refused n) (date_of_number n) d e in
    let s = in_span n ((number_accepted_iff n).0 p.0) in
    let w : Counted (nat_abs (n +ℤ pos 10227)) = counted (nat_abs (n +ℤ pos 10227)) s.lt in
    let q : d ≡ date w.y w.m w.d = sym p.1 ∙ date_of_number_is n ∙ w.is in
    let a = real_accepted w.y w.m w.d w.real in
    rw (q, a.0, a.1, day_number_is (date w.y w.m w.d), w.count)
    (ap Ok (count_number n (nat_abs (n +ℤ pos 10227)) s.is))
