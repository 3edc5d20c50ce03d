-- Bytes put into room: how long it stays, two puts that follow each other, and a head put before what follows it.
use Rattle.std.specs.Prelude.{◌≡◌, List, [], ◌++◌, ℕ, suc, ◌+◌, ◌-◌, ◌≤◌, ◌<◌, length, take, drop, set, ℤ}
use Rattle.std.proofs.Common.{sym, ◌∙◌, ap, append_assoc, append-nil, arith, length-append, length-drop, take-append-drop, length-take-le, take_at, drop_at, drop-drop}
use Rattle.std.proofs.Math.Seq.{take-length, drop-append-add, paste, paste-suc}
use Rattle.std.proofs.lemmas.List.Edits.{length-paste}
use Rattle.rules.specs.Rounding.{modulo}
use Rattle.laws.specs.ByteByByte.{low_bytes, above, low_length, low_nth}

-- bytes that replace those from a place on
unfoldable pub put : List ℕ → ℕ → List ℕ → List ℕ
put room at new = take at room ++ new ++ drop (at + length new) room

head_length_lem : (room : List ℕ) (at : ℕ) (u : List ℕ) → at + length u ≤ length room
    → length (take at room ++ u) ≡ at + length u
head_length_lem room at u l =
    let h : at ≤ length room = omega (arith, l) in
    length-append (take at room) u ∙ ap (λ k. k + length u) (length-take-le at room h)

pub put_length : (room : List ℕ) (at : ℕ) (u : List ℕ) → at + length u ≤ length room
    → length (put room at u) ≡ length room
unfolding put
put_length room at u l =
    let e : (at + length u) + (length room - (at + length u)) ≡ length room = omega (arith, l) in
    length-append (take at room ++ u) (drop (at + length u) room)
    ∙ ap (λ k. k + length (drop (at + length u) room)) (head_length_lem room at u l)
    ∙ ap (λ k. (at + length u) + k) (length-drop (at + length u) room) ∙ e

pub put_none : (room : List ℕ) (at : ℕ) → room ≡ put room at []
unfolding put
put_none room at =
    let e : at ≡ at + 0 = omega arith in
    sym (take-append-drop at room) ∙ ap (λ r. r ++ drop at room) (sym (append-nil (take at room)))
    ∙ ap (λ k. take at room ++ [] ++ drop k room) e

-- what follows
pub put_put : (room : List ℕ) (at next : ℕ) (u v : List ℕ) → at + length u ≡ next
    → at + (length u + length v) ≤ length room
    → put (put room at u) next v ≡ put room at (u ++ v)
unfolding put
put_put room at next u v e l =
    let p = take at room ++ u in
    let r = drop (at + length u) room in
    let p_long : length p ≡ next = head_length_lem room at u (omega (arith, l)) ∙ e in
    let f : at + length u + length v ≡ at + (length u + length v) = omega arith in
    ap (λ s. s ++ v ++ drop (next + length v) (p ++ r)) (take_at p r next p_long)
    ∙ ap (λ k. p ++ v ++ drop (k + length v) (p ++ r)) (sym p_long)
    ∙ ap (λ s. p ++ v ++ s)
    (drop-append-add p r (length v) ∙ drop-drop (length v) (at + length u) room
    ∙ ap (λ k. drop k room) (f ∙ ap (λ k. at + k) (sym (length-append u v))))
    ∙ ap (λ s. s ++ drop (at + length (u ++ v)) room) (append_assoc (take at room) u v)

-- what comes before, at the start
pub put_before : (room : List ℕ) (at : ℕ) (u v : List ℕ) → length u ≡ at → at + length v ≤ length room
    → put (put room at v) 0 u ≡ put room 0 (u ++ v)
unfolding put
put_before room at u v e l =
    let r = drop (at + length v) room in
    let t_long : length (take at room) ≡ at = length-take-le at room (omega (arith, l)) in
    let f : 0 + length u ≡ at = omega (arith, e) in
    let g : at + length v ≡ 0 + length (u ++ v) = omega (arith, e, length-append u v) in
    ap (λ k. u ++ drop k (take at room ++ v ++ r)) f
    ∙ ap (λ s. u ++ drop at s) (append_assoc (take at room) v r)
    ∙ ap (λ s. u ++ s) (drop_at (take at room) (v ++ r) at t_long)
    ∙ sym (append_assoc u v r) ∙ ap (λ k. u ++ v ++ drop k room) g

-- a whole put at the start
pub put_first : (room new : List ℕ) (size : ℕ) → length new ≡ size → put room 0 new ≡ new ++ drop size room
unfolding put
put_first room new size e =
    let f : 0 + length new ≡ size = omega (arith, e) in
    ap (λ k. new ++ drop k room) f

-- ---- a number's bytes stored one by one: how long the room is, the next byte, and all of them

pub stored_long : (room : List ℕ) (at k width : ℕ) (z : ℤ) → k ≤ width → at + width ≤ length room
    → length (paste room at (low_bytes width z) k) ≡ length room
stored_long room at k width z l h =
    length-paste room at (low_bytes width z) k (omega (arith, l, h)) (omega (arith, l, low_length width z))

pub stored_next : (room cur : List ℕ) (at k width : ℕ) (z : ℤ) (b : ℕ) → cur ≡ paste room at (low_bytes width z) k
    → b ≡ modulo (above k z) 256 → k < width → at + width ≤ length room
    → set cur (at + k) b ≡ paste room at (low_bytes width z) (k + 1)
stored_next room cur at k width z b e f l h =
    let more : suc k ≡ k + 1 = omega arith in
    ap (λ r. set r (at + k) b) e
    ∙ ap (λ j. set (paste room at (low_bytes width z) k) (at + k) j) (f ∙ sym (low_nth width k z l))
    ∙ paste-suc room at (low_bytes width z) k 0 (omega (arith, l, h)) (omega (arith, l, low_length width z))
    ∙ ap (λ j. paste room at (low_bytes width z) j) more

pub stored_all : (room : List ℕ) (at width : ℕ) (z : ℤ)
    → paste room at (low_bytes width z) width ≡ put room at (low_bytes width z)
unfolding put
stored_all room at width z =
    ap (λ r. take at room ++ r ++ drop (at + width) room)
    (ap (λ j. take j (low_bytes width z)) (sym (low_length width z)) ∙ take-length (low_bytes width z))
    ∙ ap (λ j. take at room ++ low_bytes width z ++ drop (at + j) room) (sym (low_length width z))
