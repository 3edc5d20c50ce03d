-- Parts of a file: their bytes, the numbers that are read there, and those that are written there.
use Rattle.std.specs.Prelude.{◌≡◌, refl, List, [], ◌∷◌, ◌++◌, ℕ, zero, suc, ◌+◌, ◌*◌, ◌^◌, ◌<◌, ◌≤◌, length, get_or, take, drop, ℤ}
use Rattle.std.proofs.Common.{sym, ◌∙◌, ap, arith, add-one, length-drop, drop-cons, drop-drop, get_or-drop, length-take-le, take-add, take_at, drop_at}
use Rattle.rules.specs.Bytes.{of_bytes, bytes_of, signed_of, part, unsigned_at, signed_at, signed_bytes}
use Rattle.laws.specs.Bytes.{Bytes, of_bytes_lt, OfWidth, signed_width, bytes_of_of_bytes, bytes_again}
use Rattle.laws.specs.Bytes.{signed_length, signed_again}

take_bytes : (n : ℕ) (bs : List ℕ) → Bytes bs → Bytes (take n bs)
take_bytes zero bs byte i = omega arith
take_bytes (suc n) [] byte i = omega arith
take_bytes (suc n) (b ∷ bs) byte zero = byte 0
take_bytes (suc n) (b ∷ bs) byte (suc i) = take_bytes n bs (λ j. byte (suc j)) i

pub drop_bytes : (n : ℕ) (bs : List ℕ) → Bytes bs → Bytes (drop n bs)
drop_bytes n bs byte i = rw (get_or-drop n bs i 0) (byte (n + i))

pub part_bytes : (at count : ℕ) (file : List ℕ) → Bytes file → Bytes (part at count file)
unfolding part
part_bytes at count file byte = take_bytes count (drop at file) (drop_bytes at file byte)

pub part_length : (at count : ℕ) (file : List ℕ) → at + count ≤ length file → length (part at count file) ≡ count
unfolding part
part_length at count file l = length-take-le count (drop at file) (rw (length-drop at file) (omega arith))

pub part_cons : (at count : ℕ) (file : List ℕ) → at < length file
    → part at (suc count) file ≡ get_or file at 0 ∷ part (at + 1) count file
unfolding part
part_cons at count file l = rw (add-one, drop-cons file at 0 l)

pub part_none : (at : ℕ) (file : List ℕ) → part at 0 file ≡ []
unfolding part
part_none at file = refl

pub part_lt : (at count : ℕ) (file : List ℕ) → Bytes file → at + count ≤ length file
    → unsigned_at at count file < 256 ^ count
unfolding unsigned_at
part_lt at count file byte l =
    rw (part_length at count file l) at (of_bytes_lt (part at count file) (part_bytes at count file byte))

pub unsigned_cons : (at count : ℕ) (file : List ℕ) → at < length file
    → unsigned_at at (suc count) file ≡ get_or file at 0 + 256 * unsigned_at (at + 1) count file
unfolding unsigned_at of_bytes
unsigned_cons at count file l = rw (part_cons at count file l)

pub unsigned_none : (at : ℕ) (file : List ℕ) → unsigned_at at 0 file ≡ 0
unfolding unsigned_at part of_bytes
unsigned_none at file = refl

-- a number in a file is of its width
pub signed_at_width : (at k : ℕ) (file : List ℕ) → Bytes file → at + suc k ≤ length file
    → OfWidth k (signed_at at (suc k) file)
unfolding signed_at
signed_at_width at k file byte l = signed_width k (unsigned_at at (suc k) file) (part_lt at (suc k) file byte l)

-- the same number, counted from further on
pub signed_at_drop : (at from count : ℕ) (file : List ℕ)
    → signed_at (at + from) count file ≡ signed_at from count (drop at file)
unfolding signed_at unsigned_at part
signed_at_drop at from count file = ap (λ r. signed_of count (of_bytes (take count r))) (sym (drop-drop from at file))

-- two parts that follow each other
pub part_part : (at n m : ℕ) (file : List ℕ) → part at n file ++ part (at + n) m file ≡ part at (n + m) file
unfolding part
part_part at n m file = rw (← drop-drop n at file, take-add n m (drop at file))

-- a part that stands after `before`
pub part_after : (before bytes rest : List ℕ) (at count : ℕ) → length before ≡ at → length bytes ≡ count
    → part at count (before ++ (bytes ++ rest)) ≡ bytes
unfolding part
part_after before bytes rest at count e f =
    ap (take count) (drop_at before (bytes ++ rest) at e) ∙ take_at bytes rest count f

-- the bytes of what is read in a file are those of the file
pub bytes_of_at : (at count : ℕ) (file : List ℕ) → Bytes file → at + count ≤ length file
    → bytes_of count (unsigned_at at count file) ≡ part at count file
unfolding unsigned_at
bytes_of_at at count file byte l =
    rw (part_length at count file l) at (bytes_of_of_bytes (part at count file) (part_bytes at count file byte))

pub signed_bytes_at : (at count : ℕ) (file : List ℕ) → Bytes file → at + count ≤ length file
    → signed_bytes count (signed_at at count file) ≡ part at count file
unfolding signed_at unsigned_at
signed_bytes_at at count file byte l =
    rw (part_length at count file l) at (bytes_again (part at count file) (part_bytes at count file byte))

-- and what is written in a file is read there
pub signed_at_after : (before rest : List ℕ) (z : ℤ) (at k : ℕ) → length before ≡ at → OfWidth k z
    → signed_at at (suc k) (before ++ (signed_bytes (suc k) z ++ rest)) ≡ z
unfolding signed_at unsigned_at
signed_at_after before rest z at k e l =
    ap (λ bs. signed_of (suc k) (of_bytes bs))
    (part_after before (signed_bytes (suc k) z) rest at (suc k) e (signed_length (suc k) z))
    ∙ signed_again k z l
