-- Bytes put into a room: a number's digits from the last to the first, one row after another, into a part of it; and
-- that this is the rule's `overlaid`.
use Rattle.std.specs.Prelude.{◌≡◌, refl, List, [], ◌∷◌, ◌++◌, ℕ, zero, suc, ◌+◌, ◌-◌, ◌/◌, ◌%◌, ◌≤◌, ◌<◌, set, take, drop, length}
use Rattle.std.proofs.Common.{sym, ap, ◌∙◌, append_assoc, append-nil, arith, length-set, length-drop, take-append-drop, drop_of_length-le, drop-set-lt, drop-cons, get_or-set_same}
use Rattle.std.proofs.lemmas.List.{take-set-le}
use Rattle.std.proofs.Math.Seq.{take-append_seam, length-sets}
use Rattle.std.proofs.lemmas.List.Edits.{sets, sets-eq}
use Rattle.rules.specs.Numerals.{nought}
use Rattle.rules.specs.Times.{overlaid}
use Rattle.laws.specs.Lines.{to_end}
use Rattle.laws.specs.Decimal.{last_digits, length_last_digits}

-- ---- digits put into a room

-- room l with the last k digits of n put at a place, the last of them first
unfoldable pub written : ℕ → ℕ → ℕ → List ℕ → List ℕ
written zero n at l = l
written (suc k) n at l = written k (n / 10) at (set l (at + k) (nought + n % 10))

pub written_step : (i r at : ℕ) (l m : List ℕ) → 0 < i → written i r at l ≡ m
    → written (i - 1) (r / 10) at (set l (at + (i - 1)) (nought + r % 10)) ≡ m
unfolding written
written_step zero r at l m h e = absurd (omega arith)
written_step (suc i) r at l m h e = let q : suc i - 1 ≡ i = omega arith in rw q e

pub written_end : (i r at : ℕ) (l m : List ℕ) → i ≡ 0 → written i r at l ≡ m → l ≡ m
unfolding written
written_end i r at l m h e = rw h at e

-- the digits stand at the place, and the rest of the room is as it was
written_split : (k n at : ℕ) (l : List ℕ) → at + k ≤ length l
    → written k n at l ≡ take at l ++ (last_digits k n ++ drop (at + k) l)
unfolding written last_digits
written_split zero n at l h = let q : at + 0 ≡ at = omega arith in rw q (sym (take-append-drop at l))
written_split (suc k) n at l h =
    let v : ℕ = nought + n % 10 in
    let w : at + k < length l = omega arith in
    let m : at + k ≤ length (set l (at + k) v) = omega (arith, length-set l (at + k) v) in
    let d : drop (at + k) (set l (at + k) v) ≡ v ∷ drop (at + suc k) l =
    let q : suc (at + k) ≡ at + suc k = omega arith in
    drop-cons (set l (at + k) v) (at + k) 0 (omega (arith, length-set l (at + k) v))
    ∙ rw (get_or-set_same l (at + k) v 0 w, drop-set-lt (suc (at + k)) l (at + k) v (omega arith), q) in
    written_split k (n / 10) at (set l (at + k) v) m
    ∙ rw (
      take-set-le at l (at + k) v (omega arith),
      d,
      append_assoc (last_digits k (n / 10)) (v ∷ [])
          (drop (at + suc k) l),
    )

pub written_is : (k n at : ℕ) (l : List ℕ) → at + k ≤ length l → written k n at l ≡ sets l at (last_digits k n)
written_is k n at l h =
    let e = length_last_digits k n in
    written_split k n at l h
    ∙ sym (sets-eq (last_digits k n) l at (omega arith) ∙ append_assoc (take at l) (last_digits k n) _ ∙ rw e)

-- ---- bytes put into a room, one row after another

pub sets_append : (l : List ℕ) (i : ℕ) (a b : List ℕ) → sets l i (a ++ b) ≡ sets (sets l i a) (i + length a) b
sets_append l i [] b = let q : i + 0 ≡ i = omega arith in rw q
sets_append l i (v ∷ a) b =
    let q : i + suc (length a) ≡ suc i + length a = omega arith in
    rw q (sets_append (set l i v) (suc i) a b)

pub overlaid_is : (bytes room : List ℕ) → length bytes ≤ length room → sets room 0 bytes ≡ overlaid bytes room
unfolding overlaid
overlaid_is bytes room h =
    let q : 0 + length bytes ≡ length bytes = omega arith in
    sets-eq bytes room 0 (omega arith) ∙ rw q

pub length_overlaid : (bytes room : List ℕ) → length bytes ≤ length room → length (overlaid bytes room) ≡ length room
length_overlaid bytes room h = ap length (sym (overlaid_is bytes room h)) ∙ length-sets room 0 bytes

-- what is put at the front of a room stands there
pub front_of : (bytes room : List ℕ) → take (length bytes) (overlaid bytes room) ≡ bytes
unfolding overlaid
front_of bytes room = take-append_seam bytes _

-- ---- into the room from a place on, as into the whole

sets_none : (i : ℕ) (vs : List ℕ) → sets [] i vs ≡ []
sets_none i [] = refl
sets_none i (v ∷ vs) = sets_none (suc i) vs

sets_later : (x : ℕ) (xs : List ℕ) (i : ℕ) (vs : List ℕ) → sets (x ∷ xs) (suc i) vs ≡ x ∷ sets xs i vs
sets_later x xs i [] = refl
sets_later x xs i (v ∷ vs) = sets_later x (set xs i v) (suc i) vs

sets_from : (at : ℕ) (room vs : List ℕ) → take at room ++ sets (drop at room) 0 vs ≡ sets room at vs
sets_from zero room vs = refl
sets_from (suc at) [] vs = sets_none 0 vs ∙ sym (sets_none (suc at) vs)
sets_from (suc at) (x ∷ room) vs =
    ap (λ rest. x ∷ rest) (sets_from at room vs) ∙ sym (sets_later x room at vs)

-- where the part that is lent goes to the room's end
pub part_put : (at : ℕ) (room vs : List ℕ)
    → take at room ++ (sets (take (length room - at) (drop at room)) 0 vs ++ drop (length room - at) (drop at room))
    ≡ sets room at vs
part_put at room vs =
    rw (
      to_end room at,
      drop_of_length-le (drop at room) {i = length room - at} (omega (arith, length-drop at room)),
      append-nil (sets (drop at room) 0 vs),
    )
    (sets_from at room vs)
