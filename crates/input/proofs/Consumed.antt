-- What a reader has given, read by read: the bytes of each stand after those before it.
use Rattle.std.specs.Prelude.{◌≡◌, refl, ℕ, ◌+◌, ◌-◌, ◌<◌, ◌≤◌, List, [], ◌∷◌, ◌++◌, length, take, drop, get_or, Some, None, Option, Result, Ok}
use Rattle.std.proofs.Common.{sym, ap, ◌∙◌, arith, add-zero, length-take-le, append_assoc}
use Rattle.std.proofs.lemmas.List.{take-append-le}
use Rattle.std.proofs.Math.Seq.{take-append-add}
use Rattle.std.specs.Io.KnownBytes.{Consumes, ReadConsumes}
use Rattle.std.specs.Io.{ReadsAtMost}
use Rattle.std.proofs.Math.ListN.{set}
use borrow.Rule.Slice.PartMut.{mid_of, put_mid, mid_len, set_mid_at}

-- the first bytes of a room, where the last of them were read at once
pub read_after : (done k n : ℕ) (room part : List ℕ) → done ≤ length room → n ≤ length part
    → take (done + n) (put_mid done k room part) ≡ take done room ++ take n part
read_after done k n room part h m =
    ap (λ i. take (i + n) (put_mid done k room part)) (sym (length-take-le done room h))
    ∙ take-append-add (take done room) (part ++ drop k (drop done room)) n
    ∙ ap (λ l. take done room ++ l) (take-append-le n part (drop k (drop done room)) m)

-- a room of which one byte was read is the room with that byte set
one_set : (xs ys : List ℕ) (d : ℕ) → length xs ≡ 1 → length ys ≡ 1 → set xs 0 (get_or ys 0 d) ≡ ys
one_set (x ∷ []) (y ∷ []) d e f = refl
one_set [] ys d e f = absurd (omega arith)
one_set (x ∷ x' ∷ xs) ys d e f = absurd (omega arith)
one_set (x ∷ []) [] d e f = absurd (omega arith)
one_set (x ∷ []) (y ∷ y' ∷ ys) d e f = absurd (omega arith)

pub single_put : (at : ℕ) (room byte : List ℕ) (d : ℕ) → at < length room → length byte ≡ 1
    → put_mid at (at + 1 - at) room byte ≡ set room at (get_or byte 0 d)
single_put at room byte d h one =
    let long : length (mid_of at (at + 1 - at) room) ≡ 1 = mid_len at (at + 1) room (omega (arith, h)) ∙ omega arith in
    let v : ℕ = get_or byte 0 d in
    ap (put_mid at (at + 1 - at) room) (sym (one_set _ byte d long one))
    ∙ set_mid_at at (at + 1 - at) 0 room v (omega (arith, long)) ∙ ap (λ k. set room k v) (add-zero at)

pub consumed_more : (old mid new : Option (List ℕ)) (xs ys : List ℕ) → Consumes old mid xs → Consumes mid new ys
    → Consumes old new (xs ++ ys)
consumed_more None mid new xs ys c d = tt
consumed_more (Some bytes) None new xs ys c d = absurd c
consumed_more (Some bytes) (Some more) None xs ys c d = absurd d
consumed_more (Some bytes) (Some more) (Some rest) xs ys c d =
    c ∙ ap (λ l. xs ++ l) d ∙ sym (append_assoc xs ys rest)

-- a read that succeeded gave no more than its room holds, and these bytes
module _ {E : Type 0} (r : Result ℕ E) (n : ℕ) (e : r ≡ Ok n) (buf : List ℕ) where
  pub at_most : ReadsAtMost r buf → n ≤ length buf
  at_most h = (rw e at h).0

  pub read_gave : (old new : Option (List ℕ)) → ReadConsumes old new r buf → Consumes old new (take n buf)
  read_gave old new h = (rw e at h).0
