-- The paper's number and values of an answer are one-to-one: two answers that say the same on paper are the same
-- answer. So a contract that fixes what is said on paper leaves one answer.
use Rattle.std.specs.Prelude.{◌≡◌, refl, List, [], ℕ, ◌+◌, ◌<◌, length, get_or, ℤ, pos, nat_abs, Result, Ok, Err, Option, Some, None}
use Rattle.std.proofs.Common.{sym, ap, arith, lit<}
use Rattle.rules.specs.declared.Pair.{Pair}
use Rattle.rules.specs.declared.Utc.{Utc}
use Rattle.rules.specs.declared.Moment.{Moment}
use Rattle.rules.specs.declared.Refusal.{Refusal}
use Rattle.rules.specs.declared.Instants.{Instants}
use Rattle.rules.specs.Refusals.{Answer, given, refused, other_form}
use Rattle.rules.specs.Answers.{numbered_answer, dated_answer, instants_answer, clocked_answer, moment_numbers, line_answer}
use Rattle.rules.specs.Answers.{angle_answer, precessed_answer, five_arguments_answer, nutated_answer, turned_answer}
use Rattle.rules.specs.Answers.{listed_answer, listed_star_answer, parts, prepared_answer}
use Rattle.rules.specs.Utc.{moment_with}
use Rattle.laws.specs.RefusalNumbers.{number_pos, number_one}
use Rattle.rules.specs.declared.Date.{Date}
use Rattle.rules.specs.declared.Precession.{Precession}
use Rattle.rules.specs.declared.Arguments.{Arguments}
use Rattle.rules.specs.declared.Nutation.{Nutation}
use Rattle.rules.specs.declared.Direction.{Direction}
use Rattle.rules.specs.declared.Night.{Night}
use Rattle.rules.specs.declared.Star.{Star}
use Rattle.rules.specs.Dates.{ut_and_tt}

-- what is refused has a number that no answer has
pub never : {A : Type 0} (r : Refusal) (n : ℕ) (zs : List ℤ) → given zs ≡ refused r n → A
unfolding given refused
never r n zs e = absurd (omega (arith, ap (λ (a : Answer). a.number) e, number_pos r))

pub same_refusal : (r s : Refusal) (n : ℕ) → refused r n ≡ refused s n → r ≡ s
unfolding refused
same_refusal r s n e = number_one r s (ap (λ (a : Answer). a.number) e)

pub same_values : (ys zs : List ℤ) → given ys ≡ given zs → ys ≡ zs
unfolding given
same_values ys zs e = ap (λ (a : Answer). a.values) e

-- a value by its place
abbrev pub at : List ℤ → ℕ → ℤ
at zs i = get_or zs i (pos 0)

pub numbered_one : (a b : Result ℤ Refusal) → numbered_answer a ≡ numbered_answer b → a ≡ b
unfolding numbered_answer
numbered_one (Ok n) (Ok m) e = ap (λ zs. Ok (at zs 0)) (same_values _ _ e)
numbered_one (Ok n) (Err s) e = never s 1 _ e
numbered_one (Err r) (Ok n) e = never r 1 _ (sym e)
numbered_one (Err r) (Err s) e = ap Err (same_refusal r s 1 e)

pub dated_one : (a b : Result Date Refusal) → dated_answer a ≡ dated_answer b → a ≡ b
unfolding dated_answer
dated_one (Ok d) (Ok d') e =
    ap (λ zs. Ok (record { year = at zs 0; month = at zs 1; day = at zs 2 }))
    (same_values _ _ e)
dated_one (Ok d) (Err s) e = never s 3 _ e
dated_one (Err r) (Ok d) e = never r 3 _ (sym e)
dated_one (Err r) (Err s) e = ap Err (same_refusal r s 3 e)

pub instants_one : (a b : Result Instants Refusal) → instants_answer a ≡ instants_answer b → a ≡ b
unfolding instants_answer
instants_one (Ok i) (Ok j) e =
    ap (λ zs. Ok (ut_and_tt (record { 0 = at zs 0 }) (record { 0 = at zs 1 }))) (same_values _ _ e)
instants_one (Ok i) (Err s) e = never s 2 _ e
instants_one (Err r) (Ok i) e = never r 2 _ (sym e)
instants_one (Err r) (Err s) e = ap Err (same_refusal r s 2 e)

-- seven numbers in the order of `utc_numbers`
abbrev pub utc_of_numbers : List ℤ → Utc
utc_of_numbers zs = record {
  date = record { year = at zs 0; month = at zs 1; day = at zs 2 };
  time = record { hour = at zs 3; minute = at zs 4; second = at zs 5; ms = at zs 6 };
}

pub clocked_one : (a b : Result Utc Refusal) → clocked_answer a ≡ clocked_answer b → a ≡ b
unfolding clocked_answer
clocked_one (Ok u) (Ok u') e = ap (λ zs. Ok (utc_of_numbers zs)) (same_values _ _ e)
clocked_one (Ok u) (Err s) e = never s 7 _ e
clocked_one (Err r) (Ok u) e = never r 7 _ (sym e)
clocked_one (Err r) (Err s) e = ap Err (same_refusal r s 7 e)

-- a line of another form has no values
pub other_never : {A : Type 0} (zs : List ℤ) → 0 < length zs → given zs ≡ other_form → A
unfolding other_form
other_never zs h e = absurd (omega (arith, ap length (same_values zs [] e)))

abbrev pub moment_at : List ℤ → Moment
moment_at zs = moment_with (utc_of_numbers zs) (at zs 7)

pub line_one : (a b : Option Moment) → line_answer a ≡ line_answer b → a ≡ b
unfolding line_answer moment_numbers
line_one (Some m) (Some k) e = ap (λ zs. Some (moment_at zs)) (same_values _ _ e)
line_one (Some m) None e = other_never _ (lit< tt) e
line_one None (Some m) e = other_never _ (lit< tt) (sym e)
line_one None None e = refl

pub angle_one : (a b : Result ℤ Refusal) → angle_answer a ≡ angle_answer b → a ≡ b
unfolding angle_answer
angle_one (Ok x) (Ok x') e = ap (λ zs. Ok (at zs 0)) (same_values _ _ e)
angle_one (Ok x) (Err s) e = never s 1 _ e
angle_one (Err r) (Ok x) e = never r 1 _ (sym e)
angle_one (Err r) (Err s) e = ap Err (same_refusal r s 1 e)

pub precessed_one : (a b : Result Precession Refusal) → precessed_answer a ≡ precessed_answer b → a ≡ b
unfolding precessed_answer
precessed_one (Ok p) (Ok p') e =
    ap (λ zs. Ok (record { zeta = at zs 0; z = at zs 1; theta = at zs 2 }))
    (same_values _ _ e)
precessed_one (Ok p) (Err s) e = never s 3 _ e
precessed_one (Err r) (Ok p) e = never r 3 _ (sym e)
precessed_one (Err r) (Err s) e = ap Err (same_refusal r s 3 e)

pub five_arguments_one : (a b : Result Arguments Refusal) → five_arguments_answer a ≡ five_arguments_answer b → a ≡ b
unfolding five_arguments_answer
five_arguments_one (Ok x) (Ok x') e =
    ap (λ zs. Ok (record {
      moon = at zs 0;
      sun = at zs 1;
      latitude = at zs 2;
      elongation = at zs 3;
      node = at zs 4;
    })) (same_values _ _ e)
five_arguments_one (Ok x) (Err s) e = never s 5 _ e
five_arguments_one (Err r) (Ok x) e = never r 5 _ (sym e)
five_arguments_one (Err r) (Err s) e = ap Err (same_refusal r s 5 e)

pub nutated_one : (a b : Result Nutation Refusal) → nutated_answer a ≡ nutated_answer b → a ≡ b
unfolding nutated_answer
nutated_one (Ok n) (Ok m) e =
    ap (λ zs. Ok (record { longitude = at zs 0; obliquity = at zs 1 }))
    (same_values _ _ e)
nutated_one (Ok n) (Err s) e = never s 2 _ e
nutated_one (Err r) (Ok n) e = never r 2 _ (sym e)
nutated_one (Err r) (Err s) e = ap Err (same_refusal r s 2 e)

pub turned_one : (a b : Result Direction Refusal) → turned_answer a ≡ turned_answer b → a ≡ b
unfolding turned_answer
turned_one (Ok v) (Ok v') e =
    ap (λ zs. Ok (record { x = at zs 0; y = at zs 1; z = at zs 2 }))
    (same_values _ _ e)
turned_one (Ok v) (Err s) e = never s 3 _ e
turned_one (Err r) (Ok v) e = never r 3 _ (sym e)
turned_one (Err r) (Err s) e = ap Err (same_refusal r s 3 e)

pub listed_one : (a b : Result ℕ Refusal) → listed_answer a ≡ listed_answer b → a ≡ b
unfolding listed_answer
listed_one (Ok n) (Ok m) e = ap (λ zs. Ok (nat_abs (at zs 0))) (same_values _ _ e)
listed_one (Ok n) (Err s) e = never s 1 _ e
listed_one (Err r) (Ok n) e = never r 1 _ (sym e)
listed_one (Err r) (Err s) e = ap Err (same_refusal r s 1 e)

pub listed_star_one : (a b : Result Star Refusal) → listed_star_answer a ≡ listed_star_answer b → a ≡ b
unfolding listed_star_answer
listed_star_one (Ok s) (Ok t) e =
    ap (λ zs. Ok (record {
      ra = at zs 0;
      declination = at zs 1;
      ra_motion = at zs 2;
      declination_motion = at zs 3;
    })) (same_values _ _ e)
listed_star_one (Ok s) (Err r) e = never r 4 _ e
listed_star_one (Err r) (Ok s) e = never r 4 _ (sym e)
listed_star_one (Err r) (Err s) e = ap Err (same_refusal r s 4 e)

abbrev pair_at : List ℤ → ℕ → Pair
pair_at zs i = record { cosine = at zs i; sine = at zs (i + 1) }

pub prepared_one : (a b : Result Night Refusal) → prepared_answer a ≡ prepared_answer b → a ≡ b
unfolding prepared_answer parts
prepared_one (Ok n) (Ok m) e =
    ap (λ zs. Ok (record {
      tt = record { 0 = at zs 0 };
      zeta = pair_at zs 1;
      minus_theta = pair_at zs 3;
      z = pair_at zs 5;
      aberration = record { x = at zs 7; y = at zs 8; z = at zs 9 };
      minus_epsilon = pair_at zs 10;
      delta_psi = pair_at zs 12;
      true_epsilon = pair_at zs 14;
      minus_sidereal = pair_at zs 16;
      latitude_less_quarter = pair_at zs 18;
    })) (same_values _ _ e)
prepared_one (Ok n) (Err s) e = never s 20 _ e
prepared_one (Err r) (Ok n) e = never r 20 _ (sym e)
prepared_one (Err r) (Err s) e = ap Err (same_refusal r s 20 e)
