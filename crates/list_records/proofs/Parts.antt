-- Bytes put at the start of the room, part by part.
use Rattle.std.proofs.Common.{◌≡◌, sym, ◌∙◌, ap, append_assoc, append-nil, zero-add, List, [], ◌++◌, ℕ, ◌+◌, ◌-◌, ◌≤◌, arith, length, drop, take, drop-drop, length-drop, ℤ}
use Rattle.std.proofs.lemmas.List.{length-take-le, take_rest}
use Rattle.std.proofs.Math.Seq.{drop-length}
use borrow.Rule.Slice.PartMut.{put_mid}
use Rattle.laws.specs.ByteByByte.{low_bytes, low_length}
use Rattle.list_bytes.specs.Puts.{put, put_first, put_put, put_length}

-- the first part
pub part_first : (room new : List ℕ) (width : ℕ) → length new ≡ width → new ++ drop width room ≡ put room 0 new
part_first room new width e = sym (put_first room new width e)

-- a part that is as long as what is put there
part_put : (room new : List ℕ) (at width : ℕ) → length new ≡ width → put_mid at width room new ≡ put room at new
unfolding put
part_put room new at width e =
    sym (append_assoc (take at room) new (drop width (drop at room)))
    ∙ ap (λ r. take at room ++ new ++ r) (drop-drop width at room ∙ ap (λ n. drop (at + n) room) (sym e))

-- one part more
pub part_next : (room done new : List ℕ) (at width : ℕ) → length done ≡ at → length new ≡ width
    → at + width ≤ length room → put_mid at width (put room 0 done) new ≡ put room 0 (done ++ new)
part_next room done new at width d e l =
    part_put (put room 0 done) new at width e ∙ put_put room 0 at done new (omega (arith, d)) (omega (arith, d, e, l))

-- ---- numbers, each into its part

module _ (room : List ℕ) (width : ℕ) (z held : ℤ) (held_is : held ≡ z) (new : List ℕ) where
  pub number_first : width ≤ length room → new ≡ low_bytes (length (take width room)) held
      → new ++ drop width room ≡ put room 0 (low_bytes width z)
  number_first l e =
      let is = e ∙ (λ i. low_bytes (length-take-le width room l i) (held_is i)) in
      ap (λ r. r ++ drop width room) is ∙ part_first room (low_bytes width z) width (low_length width z)

  pub number_next : (at : ℕ) (done cur : List ℕ) → cur ≡ put room 0 done → length done ≡ at → at + width ≤ length room
      → new ≡ low_bytes (length (take width (drop at cur))) held
      → put_mid at width cur new ≡ put room 0 (done ++ low_bytes width z)
  number_next at done cur c d l e =
      let same : length cur ≡ length room = ap length c ∙ put_length room 0 done (omega (arith, d, l)) in
      let long : length (take width (drop at cur)) ≡ width =
      length-take-le width (drop at cur) (omega (arith, length-drop at cur, same, l)) in
      let is = e ∙ (λ i. low_bytes (long i) (held_is i)) in
      (λ i. put_mid at width (c i) (is i))
      ∙ part_next room done (low_bytes width z) at width d (low_length width z) l

-- ---- bytes put into the rest of the room

pub put_rest : (room new : List ℕ) (at : ℕ) → at ≤ length room
    → put_mid at (length room - at) room (put (take (length room - at) (drop at room)) 0 new) ≡ put room at new
unfolding put
put_rest room new at l =
    let rest = drop at room in
    let none : drop (length room - at) rest ≡ [] =
    ap (λ n. drop n rest) (sym (length-drop at room)) ∙ drop-length rest in
    ap (λ r. take at room ++ (new ++ drop (0 + length new) r ++ drop (length room - at) rest)) (take_rest room at)
    ∙ ap (λ r. take at room ++ (new ++ drop (0 + length new) rest ++ r)) none
    ∙ ap (λ r. take at room ++ r) (append-nil (new ++ drop (0 + length new) rest))
    ∙ sym (append_assoc (take at room) new (drop (0 + length new) rest))
    ∙ ap (λ r. take at room ++ new ++ r) (ap (λ n. drop n rest) (zero-add (length new)) ∙ drop-drop (length new) at room)
