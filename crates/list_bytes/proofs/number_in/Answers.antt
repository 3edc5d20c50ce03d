-- `list_bytes::number_in` meets its contract.
use Rattle.std.proofs.Common.{◌≡◌, refl, sym, ap, ◌∙◌, List, [], ◌∷◌, ◌++◌, ℕ, suc, ◌+◌, ◌-◌, ◌<◌, ◌≤◌, arith, length, get_or, take, length-append, Iter}
use Rattle.std.specs.declared.iter.Rev.{Rev}
use Rattle.std.proofs.lemmas.List.{take-take, get_or-take, take_at, length-take-le}
use Rattle.std.proofs.Math.Seq.{get_or-append_seam}
use Rattle.words.specs.Fits.{held64}
use Rattle.rules.specs.Bytes.{signed_at}
use Rattle.laws.specs.Bytes.{Bytes}
use Rattle.laws.specs.ByteByByte.{sign_le, below, signed_one, signed_step, signed_at_wider}
use Rattle.list_bytes.proofs.number_in.Goals as goal

-- what the last of the bytes that are left is, and what is left then
record Peeled (left bytes : List ℕ) (b k : ℕ) : Type 0 where
  one : length left + 1 ≡ k
  left_is : left ≡ take (length left) bytes
  byte_is : b ≡ get_or bytes (length left) 0

peeled : (left bytes : List ℕ) (b k : ℕ) → left ++ (b ∷ []) ≡ take k bytes → k ≤ length bytes → Peeled left bytes b k
peeled left bytes b k e l =
    let one : length left + 1 ≡ k = omega (arith, length-append left (b ∷ []), ap length e, length-take-le k bytes l) in
    record {
      one = one;
      left_is = sym (take_at left (b ∷ []) (length left) refl) ∙ ap (take (length left)) e
          ∙ take-take (length left) k bytes (omega (arith, one));
      byte_is = sym (get_or-append_seam left b [] 0) ∙ ap (λ r. get_or r (length left) 0) e
          ∙ get_or-take k bytes (length left) 0 (omega (arith, one));
    }

pub joined-v-requires : goal.joined-v-requires
joined-v-requires c =
    let is = held64 c.sign_of.result c.sign_of.type_inv ∙ c.sign_of.ensures in
    rw is (omega (arith, sign_le (get_or c.args.bytes.now (length c.args.bytes.now - 1) 0)))

-- at the start all but the last byte are left
left_first : (c : goal.After-into_iter-b-iterator)
    → c.into_iter-b-iterator.result.iter.rest.now ≡ take (length c.args.bytes.now - 1) c.args.bytes.now
left_first c =
    ap (λ (r : Rev (Iter ℕ)). r.iter.rest.now) c.into_iter-b-iterator.ensures.into_iter_gives
    ∙ ap (λ (r : Iter ℕ). r.rest.now) c.rev-b-items.ensures.source ∙ c.iter.ensures.rest

pub loop-b-init : goal.loop-b-init
loop-b-init c =
    let bytes = c.args.bytes.now in
    let last = length bytes - 1 in
    let left = left_first c in
    let byte : Bytes bytes = λ i. (c.type_inv.bytes i).fits in
    let long : length c.into_iter-b-iterator.result.iter.rest.now ≡ last =
    ap length left ∙ length-take-le last bytes (omega (arith, c.requires.0)) in
    let one : length bytes - last ≡ 1 = omega (arith, c.requires.0) in (
      tt,
      tt,
      (
        omega (arith, long, c.requires.0),
        (
          left ∙ ap (λ k. take k bytes) (sym long),
          held64 c.joined-v.result c.joined-v.type_inv ∙ c.joined-v.ensures
              ∙ ap (below (get_or bytes last 0)) (held64 c.sign_of.result c.sign_of.type_inv ∙ c.sign_of.ensures)
              ∙ sym (signed_one last bytes byte (omega (arith, c.requires.0)))
              ∙ (λ i. signed_at (sym long i) (sym (ap (λ k. length bytes - k) long ∙ one) i) bytes),
        ),
      ),
    )

pub joined-v-requires-in-loop-b : goal.joined-v-requires-in-loop-b
joined-v-requires-in-loop-b c =
    let bytes = c.args.bytes.now in
    let inv = c.loop-b.invariant.2 in
    let left = c.loop-b.b-iterator.iter.rest.now in
    let some : 0 < length left =
    omega (arith, ap length c.in-Some.ensures.steps, length-append c.next.new.self.iter.rest.now (c.in-Some.b.now ∷ [])) in
    rw inv.1.1 (signed_at_wider (length left) (length bytes - length left) 6 bytes (λ i. (c.type_inv.bytes i).fits)
    (omega (arith, inv.0)) (omega (arith, some, c.requires.1)) (omega (arith, inv.0)))

pub loop-b-preserved : goal.loop-b-preserved
loop-b-preserved c =
    let bytes = c.args.bytes.now in
    let byte : Bytes bytes = λ i. (c.type_inv.bytes i).fits in
    let inv = c.loop-b.invariant.2 in
    let n = length c.loop-b.b-iterator.iter.rest.now in
    let left = c.next.new.self.iter.rest.now in
    let b = c.in-Some.b.now in
    let peel = peeled left bytes b n (sym c.in-Some.ensures.steps ∙ inv.1.0) (omega (arith, inv.0)) in
    let one : length left + 1 ≡ n = peel.one in
    let more : suc (length bytes - n) ≡ length bytes - length left = omega (arith, one, inv.0) in (
      tt,
      tt,
      (
        omega (arith, one, inv.0),
        (
          peel.left_is,
          held64 c.joined-v-in-loop-b.result c.joined-v-in-loop-b.type_inv ∙ c.joined-v-in-loop-b.ensures ∙ ap (below b) inv.1.1
              ∙ (λ i. below (peel.byte_is i) (signed_at (sym one i) (length bytes - n) bytes))
              ∙ sym (signed_step (length left) (length bytes - n) bytes byte (omega (arith, inv.0)) (omega (arith, one, inv.0)))
              ∙ ap (λ k. signed_at (length left) k bytes) more,
        ),
      ),
    )

pub returns : goal.returns
returns c =
    let bytes = c.args.bytes.now in
    let byte : Bytes bytes = λ i. (c.type_inv.bytes i).fits in
    let inv = c.loop-b.invariant.2 in
    let left = c.loop-b.b-iterator.iter.rest.now in
    let none : length left ≡ 0 = c.in-None.ensures.steps.0 in
    let all : length bytes - length left ≡ length bytes = omega (arith, none) in
    let is = inv.1.1 ∙ (λ i. signed_at (none i) (all i) bytes) in (
      is,
      rw is (signed_at_wider 0 (length bytes) (length bytes - 1) bytes byte c.requires.0 (omega (arith, c.requires.0)) (omega arith)),
    )
