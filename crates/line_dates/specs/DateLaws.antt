-- What `dates` prints for a line: how long it is, how it is put into a room, and which bytes of the line tell it.
use Rattle.std.specs.Prelude.{◌≡◌, refl, Bool, true, false, cond, List, ◌∷◌, ◌++◌, ℕ, ◌+◌, ◌≤◌, ltb, pos, length, take, Result, Ok, Err}
use Rattle.std.proofs.Common.{sym, ap, ◌∙◌, arith, lit≤, length-append, length-take, take_all, ltb-true, ltb-false}
use Rattle.std.proofs.lemmas.List.Edits.{sets}
use Rattle.rules.specs.declared.Date.{Date}
use Rattle.rules.specs.declared.Time.{Time}
use Rattle.rules.specs.declared.Utc.{Utc}
use Rattle.rules.specs.declared.Refusal.{Refusal}
use Rattle.rules.specs.Refusals.{number}
use Rattle.rules.specs.Numerals.{space, hyphen, point, colon, of_number, signed}
use Rattle.rules.specs.Times.{decimal, refused_line}
use Rattle.rules.specs.Utc.{utc_of_tt}
use Rattle.laws.specs.Decimal.{length_last_digits}
use Rattle.laws.specs.Lines.{number_long}
use Rattle.laws.specs.PuttingBytes.{sets_append}
use Rattle.laws.specs.Times.{refused_text, refused_line_is, number_le, refused_line_le}
use Rattle.line_dates.specs.DateLines.{field_text, date_text, time_text, utc_text, clocked_text, date_line}

-- ---- how long

pub date_length : (d : Date) → length (date_text d) ≡ 10
unfolding date_text
date_length d = simp (length-append, length_last_digits)

pub time_length : (t : Time) → length (time_text t) ≡ 13
unfolding time_text
time_length t = simp (length-append, length_last_digits)

pub utc_length : (u : Utc) → length (utc_text u) ≡ 23
unfolding utc_text
utc_length u = length-append (date_text u.date) (time_text u.time)
    ∙ omega (arith, date_length u.date, time_length u.time)

clocked_le : (c : Result Utc Refusal) → length (clocked_text c) ≤ 28
unfolding clocked_text
clocked_le (Ok u) = omega (arith, utc_length u)
clocked_le (Err r) = refused_line_le (number r) (number_le r)

pub date_line_le : (line : List ℕ) → length (date_line line) ≤ 28
unfolding date_line
date_line_le line = go (of_number 18 line)
  where
    go : (b : Bool) → length (cond b (clocked_text (utc_of_tt (record { 0 = signed line }))) (refused_line 0)) ≤ 28
    go true = clocked_le _
    go false = refused_line_le 0 (lit≤ tt)

-- ---- put into a room

-- one row after another
row_after : (room a b : List ℕ) (at k : ℕ) → at + length a ≡ k → sets (sets room at a) k b ≡ sets room at (a ++ b)
row_after room a b at k e = rw (← e) (sym (sets_append room at a b))

pub date_rows : (room : List ℕ) (d : Date)
    → sets (sets (sets room 0 (field_text 4 d.year)) 4 (hyphen ∷ field_text 2 d.month)) 7
    (hyphen ∷ field_text 2 d.day)
    ≡ sets room 0 (date_text d)
unfolding date_text
date_rows room d =
    let y : List ℕ = field_text 4 d.year in
    let m : List ℕ = hyphen ∷ field_text 2 d.month in
    let e : List ℕ = hyphen ∷ field_text 2 d.day in
    ap (λ l. sets l 7 e) (row_after room y m 0 4 (simp length_last_digits))
    ∙ row_after room (y ++ m) e 0 7 (simp (length-append, length_last_digits))

pub time_rows : (room : List ℕ) (t : Time)
    → sets (sets (sets (sets room 10 (space ∷ field_text 2 t.hour)) 13 (colon ∷ field_text 2 t.minute)) 16
    (colon ∷ field_text 2 t.second)) 19 (point ∷ field_text 3 t.ms)
    ≡ sets room 10 (time_text t)
unfolding time_text
time_rows room t =
    let h : List ℕ = space ∷ field_text 2 t.hour in
    let m : List ℕ = colon ∷ field_text 2 t.minute in
    let s : List ℕ = colon ∷ field_text 2 t.second in
    let f : List ℕ = point ∷ field_text 3 t.ms in
    ap (λ l. sets (sets l 16 s) 19 f) (row_after room h m 10 13 (simp length_last_digits))
    ∙ ap (λ l. sets l 19 f) (row_after room (h ++ m) s 10 16 (simp (length-append, length_last_digits)))
    ∙ row_after room (h ++ m ++ s) f 10 19 (simp (length-append, length_last_digits))

pub utc_rows : (room : List ℕ) (u : Utc)
    → sets (sets room 0 (date_text u.date)) 10 (time_text u.time) ≡ sets room 0 (utc_text u)
unfolding utc_text
utc_rows room u = row_after room (date_text u.date) (time_text u.time) 0 10 (omega (arith, date_length u.date))

-- ---- by cases

pub at_text : (u : Utc) → clocked_text (Ok u) ≡ utc_text u
unfolding clocked_text
at_text u = refl

pub refused_text_lem : (r : Refusal) → clocked_text (Err r) ≡ refused_text ++ decimal (pos (number r))
unfolding clocked_text
refused_text_lem r = refused_line_is (number r)

pub line_of_number : (line : List ℕ) → of_number 18 line ≡ true
    → date_line line ≡ clocked_text (utc_of_tt (record { 0 = signed line }))
unfolding date_line
line_of_number line e = rw e

pub line_other : (line : List ℕ) → of_number 18 line ≡ false → date_line line ≡ refused_text ++ decimal (pos 0)
unfolding date_line
line_other line e = rw e (refused_line_is 0)

-- ---- a line is told by its first 20 bytes, or more

long_other : (line : List ℕ) → 20 ≤ length line → date_line line ≡ refused_line 0
unfolding date_line
long_other line h = rw (number_long 18 line (omega arith))

pub date_cut : (line : List ℕ) (k : ℕ) → 20 ≤ k → date_line (take k line) ≡ date_line line
date_cut line k h = go (ltb k (length line)) refl
  where
    go : (b : Bool) → ltb k (length line) ≡ b → date_line (take k line) ≡ date_line line
    go true e =
        let l = ltb-true k (length line) e in
        long_other (take k line) (omega (arith, length-take k line)) ∙ sym (long_other line (omega arith))
    go false e = ap date_line (take_all k line (ltb-false k (length line) e))
