-- Stars that lie one after the other, in the records of a file or in a row of numbers: star i, one star more, whether
-- one of them is refused, and the records as the library cuts them.
use Rattle.std.specs.Prelude.{◌≡◌, Bool, ◌||◌, List, [], ◌∷◌, ◌++◌, map, length, get_or, take, drop, ℤ}
use Rattle.std.specs.Simd.{first_chunks}
use Rattle.std.proofs.Math.Path.{refl, ap}
use Rattle.std.proofs.Common.{sym, ◌∙◌, arith, lt_irrefl, drop-drop}
use Rattle.std.proofs.lemmas.List.{take-take, drop-take}
use Rattle.std.proofs.Math.Bool.{true, false}
use Rattle.std.proofs.lemmas.Bool.{false≢true}
use Prim.Native.Nat.{ℕ, zero, suc, ◌+◌, ◌*◌, ◌<◌}
use Rattle.rules.specs.declared.Star.{Star}
use Rattle.rules.specs.Bytes.{signed_at, unsigned_at, part}
use Rattle.rules.specs.Stars.{star_refused}
use Rattle.rules.specs.ListFile.{record_length, star_in, stars_in, any_refused}
use Rattle.rules.specs.ListWriting.{star_from, stars_from}

pub or_false : (a b : Bool) → a || b ≡ false → (a ≡ false) × (b ≡ false)
or_false true b e = absurd (false≢true (sym e))
or_false false b e = (refl, e)

-- `count` stars, each as `star` reads it, so many numbers apart
abbrev pub each : {A : Type 0} → (List A → Star) → ℕ → ℕ → List A → List Star
each star size zero xs = []
each star size (suc count) xs = star xs ∷ each star size count (drop size xs)

pub stars_in_each : (count : ℕ) (bytes : List ℕ) → stars_in count bytes ≡ each star_in 24 count bytes
unfolding stars_in
stars_in_each zero bytes = refl
stars_in_each (suc count) bytes = ap (λ r. star_in bytes ∷ r) (stars_in_each count (drop 24 bytes))

pub stars_from_each : (count : ℕ) (numbers : List ℤ) → stars_from count numbers ≡ each star_from 4 count numbers
unfolding stars_from
stars_from_each zero numbers = refl
stars_from_each (suc count) numbers = ap (λ r. star_from numbers ∷ r) (stars_from_each count (drop 4 numbers))

module _ {A : Type 0} (star : List A → Star) (size : ℕ) where
  further : (i : ℕ) (xs : List A) → drop (size * i) (drop size xs) ≡ drop (size * suc i) xs
  further i xs =
      let e : size + size * i ≡ size * suc i = omega arith in
      drop-drop (size * i) size xs ∙ ap (λ n. drop n xs) e

  none : (xs : List A) → drop (size * 0) xs ≡ xs
  none xs =
      let e : size * 0 ≡ 0 = omega arith in
      ap (λ n. drop n xs) e

  pub each_length : (count : ℕ) (xs : List A) → length (each star size count xs) ≡ count
  each_length zero xs = refl
  each_length (suc count) xs = ap suc (each_length count (drop size xs))

  -- one star more
  pub each_more : (count : ℕ) (xs : List A)
      → each star size (suc count) xs ≡ each star size count xs ++ (star (drop (size * count) xs) ∷ [])
  each_more zero xs = ap (λ r. star r ∷ []) (sym (none xs))
  each_more (suc count) xs =
      ap (λ r. star xs ∷ r) (each_more count (drop size xs))
      ∙ ap (λ r. star xs ∷ each star size count (drop size xs) ++ (star r ∷ [])) (further count xs)

  -- what is made of star i
  pub each_nth : {B : Type 0} (make : Star → B) (count i : ℕ) (xs : List A) (other : B) → i < count
      → get_or (map make (each star size count xs)) i other ≡ make (star (drop (size * i) xs))
  each_nth make zero i xs other l = absurd (lt_irrefl 0 (omega arith))
  each_nth make (suc count) zero xs other l = ap (λ r. make (star r)) (sym (none xs))
  each_nth make (suc count) (suc i) xs other l =
      each_nth make count i (drop size xs) other (omega arith) ∙ ap (λ r. make (star r)) (further i xs)

  -- one that is refused is enough
  pub any_of : (count i : ℕ) (xs : List A) → i < count → star_refused (star (drop (size * i) xs)) ≡ true
      → any_refused (each star size count xs) ≡ true
  unfolding any_refused
  any_of zero i xs l e = absurd (lt_irrefl 0 (omega arith))
  any_of (suc count) zero xs l e =
      let first : star_refused (star xs) ≡ true = ap (λ r. star_refused (star r)) (sym (none xs)) ∙ e in
      rw first
  any_of (suc count) (suc i) xs l e =
      let rest = any_of count i (drop size xs) (omega arith) (ap (λ r. star_refused (star r)) (further i xs) ∙ e) in
      ap (λ t. star_refused (star xs) || t) rest ∙ or_true (star_refused (star xs))
    where
      or_true : (a : Bool) → a || true ≡ true
      or_true true = refl
      or_true false = refl

-- none so far, and none with one more
pub any_snoc : (ss : List Star) (s : Star) → any_refused ss ≡ false → star_refused s ≡ false
    → any_refused (ss ++ (s ∷ [])) ≡ false
unfolding any_refused
any_snoc [] s a b = rw b
any_snoc (t ∷ ss) s a b =
    let k = or_false (star_refused t) (any_refused ss) a in
    let first = k.0 in
    rw first (any_snoc ss s k.1 b)

-- ---- the records of a file, cut

-- a number within the record is the record's
number_in : (at count left : ℕ) (bytes : List ℕ) → signed_at at count (take (at + (count + left)) bytes) ≡ signed_at at count bytes
unfolding signed_at unsigned_at part
number_in at count left bytes =
    rw (drop-take at (count + left) bytes, take-take count (count + left) (drop at bytes) (omega arith))

first_star : (bytes : List ℕ) → star_in (take record_length bytes) ≡ star_in bytes
unfolding star_in
first_star bytes = λ i. record {
  ra = number_in 0 8 16 bytes i;
  declination = number_in 8 8 8 bytes i;
  ra_motion = number_in 16 4 4 bytes i;
  declination_motion = number_in 20 4 0 bytes i;
}

pub stars_of_chunks : (count : ℕ) (bytes : List ℕ) → map star_in (first_chunks record_length count bytes) ≡ stars_in count bytes
unfolding stars_in
stars_of_chunks zero bytes = refl
stars_of_chunks (suc count) bytes = λ i. first_star bytes i ∷ stars_of_chunks count (drop record_length bytes) i
