-- What `times` prints: its lines from their parts, and how long they are; a refused date refuses its moment.
use Rattle.std.specs.Prelude.{◌≡◌, refl, Bool, true, false, cond, List, [], ◌∷◌, ◌++◌, ℕ, suc, ◌+◌, ◌≤◌, set, length, ℤ, pos, nat_abs, Result, Ok, Err, Option, Some, None}
use Rattle.std.proofs.Common.{sym, ◌∙◌, append_assoc, add-one, arith, lit≤, length-append}
use Rattle.std.proofs.lemmas.List.Edits.{sets}
use Rattle.rules.specs.declared.Ut.{Ut}
use Rattle.rules.specs.declared.Tt.{Tt}
use Rattle.rules.specs.declared.Moment.{Moment}
use Rattle.rules.specs.declared.Refusal.{Refusal}
use Rattle.rules.specs.declared.Instants.{Instants}
use Rattle.rules.specs.Units.{century}
use Rattle.rules.specs.Refusals.{number}
use Rattle.rules.specs.Calendar.{day_number, year_refused, day_refused, day_of}
use Rattle.rules.specs.Dates.{time_refused, ut1_minus_utc_refused, ut_of, tt_of, instants}
use Rattle.rules.specs.Numerals.{space}
use Rattle.rules.specs.Times.{decimal, refused_line, three_numbers, answer_line, printed}
use Rattle.laws.specs.Ranges.{true_not_false}
use Rattle.laws.specs.DayNumbers.{real_number_le}
use Rattle.laws.specs.Instants.{instants_real, ut_within, tt_within}
use Rattle.laws.specs.Decimal.{word_limit, length_decimal}
use Rattle.laws.specs.PuttingBytes.{sets_append}
use Rattle.rules.specs.Dates.{ut_and_tt}

-- ---- `refused N`

abbrev pub refused_text : List ℕ
refused_text = 114 ∷ 101 ∷ 102 ∷ 117 ∷ 115 ∷ 101 ∷ 100 ∷ space ∷ []

pub refused_line_is : (n : ℕ) → refused_line n ≡ refused_text ++ decimal (pos n)
unfolding refused_line
refused_line_is n = refl

pub refused_answer : (n : ℤ) (r : Refusal) → answer_line n (Err r) ≡ refused_text ++ decimal (pos (number r))
unfolding answer_line
refused_answer n r = refused_line_is (number r)

-- ---- day number, UT and TT

pub at_answer : (n : ℤ) (u : Ut) (t : Tt) → answer_line n (Ok (ut_and_tt u t)) ≡ three_numbers n u.0 t.0
unfolding answer_line
at_answer n u t = refl

pub three_numbers_are : (a b c : ℤ) → three_numbers a b c ≡ decimal a ++ (space ∷ (decimal b ++ (space ∷ decimal c)))
unfolding three_numbers
three_numbers_are a b c = append_assoc (decimal a) (space ∷ decimal b) (space ∷ decimal c)

-- three rows of bytes with a space between, put one after another
pub three_rows : (l x y z : List ℕ) (a b : ℕ) → a ≡ length x → b ≡ (a + 1) + length y
    → sets (set (sets (set (sets l 0 x) a space) (a + 1) y) b space) (b + 1) z
    ≡ sets l 0 (x ++ (space ∷ (y ++ (space ∷ z))))
three_rows l x y z a b e f =
    let p : 0 + length x ≡ a = omega arith in
    let q : suc a + length y ≡ b = omega arith in
    sym (sets_append l 0 x (space ∷ (y ++ (space ∷ z)))
    ∙ rw (p, sets_append (set (sets l 0 x) a space) (suc a) y (space ∷ z), q, add-one a, add-one b))

-- ---- a date that is refused refuses its moment

answered : (a b c d : Bool) (n : ℤ) (u : Ut) (t : Tt) (r : Refusal)
    → cond a (Err Refusal.Year) (cond b (Err Refusal.Day) (Ok n))
    ≡ Err r
    → cond a (Err Refusal.Year) (cond b (Err Refusal.Day)
    (cond c (Err Refusal.Time) (cond d (Err Refusal.Ut1MinusUtc) (Ok (ut_and_tt u t)))))
    ≡ Err r
answered true b c d n u t r e = cc
answered false true c d n u t r e = cc
answered false false c d n u t r e = let z : true ≡ false = cc in true_not_false z

pub instants_of_refused : (m : Moment) (r : Refusal) → day_of m.date ≡ Err r → instants m
    ≡ Err r
unfolding day_of instants
instants_of_refused m r e =
    answered (year_refused m.date) (day_refused m.date) (time_refused (day_number m.date) m.time)
    (ut1_minus_utc_refused m)
    (day_number m.date) (ut_of m) (tt_of m) r e

-- ---- a room of 64 bytes is enough

pub number_le : (r : Refusal) → number r ≤ 20
unfolding number
number_le Refusal.Year = lit≤ tt
number_le Refusal.Day = lit≤ tt
number_le Refusal.Time = lit≤ tt
number_le Refusal.Ut1MinusUtc = lit≤ tt
number_le Refusal.Star = lit≤ tt
number_le Refusal.Site = lit≤ tt
number_le Refusal.Direction = lit≤ tt
number_le Refusal.Turn = lit≤ tt
number_le Refusal.Mark = lit≤ tt
number_le Refusal.Count = lit≤ tt
number_le Refusal.Room = lit≤ tt
number_le Refusal.Instant = lit≤ tt
number_le Refusal.Length = lit≤ tt
number_le Refusal.Reading = lit≤ tt
number_le Refusal.Stretch = lit≤ tt

pub refused_line_le : (n : ℕ) → n ≤ 20 → length (refused_line n) ≤ 28
unfolding refused_line
refused_line_le n h = omega (arith, length_decimal (pos n) (word_limit (pos n) (omega arith)))

decimal_le : (z : ℤ) → nat_abs z ≤ century → length (decimal z) ≤ 20
decimal_le z h = length_decimal z (word_limit z (omega arith))

three_le : (a b c : ℤ) → nat_abs a ≤ century → nat_abs b ≤ century → nat_abs c ≤ century → length (three_numbers a b c) ≤ 62
three_le a b c h k l =
    rw (three_numbers_are a b c)
    (simp length-append (omega (arith, decimal_le a h, decimal_le b k, decimal_le c l)))

answer_le : (m : Moment) (i : Result Instants Refusal) → instants m ≡ i → length (answer_line (day_number m.date) i) ≤ 62
unfolding answer_line
answer_le m (Ok i) e =
    let r = real_number_le m.date (instants_real m i.ut i.tt e).date in
    three_le (day_number m.date) i.ut.0 i.tt.0 (omega arith) (ut_within m i.ut i.tt e) (tt_within m i.ut i.tt e)
answer_le m (Err r) e = omega (arith, refused_line_le (number r) (number_le r))

pub printed_le : (line : Option Moment) → length (printed line) ≤ 62
unfolding printed
printed_le (Some m) = answer_le m (instants m) refl
printed_le None = omega (arith, refused_line_le 0 (lit≤ tt))
