-- `list_bytes::put_number` meets its contract.
use Rattle.std.proofs.Common.{◌≡◌, ap, ◌∙◌, List, ◌++◌, ℕ, suc, ◌+◌, ◌<◌, ◌^◌, arith, length, set, append-nil, ℤ, to_z, of_z, w64}
use lib.Seq.{paste, drop-length}
use lib.Signed.{mag, shr_z}
use borrow.Author.Rules.{sfits_of}
use mir.Facts.{to_z-of_z}
use Rattle.rules.specs.Rounding.{modulo}
use Rattle.laws.specs.ByteByByte.{low_bytes, low_length, above, above_le, above_next}
use Rattle.list_bytes.specs.Puts.{put_first, stored_next, stored_all}
use Rattle.list_bytes.proofs.put_number.Goals as goal

-- so many bytes are all the room has
stored_whole : (room : List ℕ) (z : ℤ)
    → paste room 0 (low_bytes (length room) z) (length room) ≡ low_bytes (length room) z
stored_whole room z =
    let new = low_bytes (length room) z in
    stored_all room 0 (length room) z ∙ put_first room new (length room) (low_length (length room) z)
    ∙ ap (λ r. new ++ r) (drop-length room) ∙ append-nil new

pub loop-b-preserved : goal.loop-b-preserved
loop-b-preserved c =
    let room = c.args.room.now in
    let inv = c.loop-b.invariant in
    let k = c.loop-b.b-index in
    let z = to_z w64 (of_z w64 c.args.z) in
    let z_is : z ≡ c.args.z = to_z-of_z c.ranges.z in
    let small : mag (above (k + 1) z) < 2 ^ 63 = rw z_is (omega (arith, above_le (k + 1) c.args.z, c.ranges.z.sfits)) in
    let more : suc k ≡ k + 1 = omega arith in
    let here : k ≡ 0 + k = omega arith in
    let shifted = ap (λ (y : ℤ). shr_z y 256) inv.1 ∙ above_next k z ∙ ap (λ (j : ℕ). above j z) more in (
      ap (λ j. set c.loop-b.room j c.low_byte.result) here ∙ stored_next room c.loop-b.room 0 k (length room) z c.low_byte.result inv.0
          (c.low_byte.ensures ∙ ap (λ (y : ℤ). modulo y 256) inv.1) c.loop-b-test.true (omega arith),
      ap (λ (y : ℤ). to_z w64 (of_z w64 y)) shifted ∙ to_z-of_z {w = w64} (sfits_of small),
    )

pub returns : goal.returns
returns c =
    let room = c.args.room.now in
    let z = to_z w64 (of_z w64 c.args.z) in
    let all : c.loop-b.b-index ≡ length room = omega arith in
    c.loop-b.invariant.0
    ∙ ap (λ (j : ℕ). paste room 0 (low_bytes (length room) z) j) all
    ∙ stored_whole room z ∙ ap (low_bytes (length room)) (to_z-of_z c.ranges.z)
