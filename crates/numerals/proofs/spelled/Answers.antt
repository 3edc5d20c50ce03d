-- `numerals::spelled` meets its contract.
use Rattle.std.specs.Prelude.{◌≡◌, refl, List, ℕ, ◌-◌, ◌*◌, ◌^◌, ◌≤◌, ◌<◌, pos, nat_abs, length, get_or, drop}
use Rattle.std.proofs.Common.{sym, ap, ◌∙◌, arith, to_z}
use Rattle.std.specs.Int.{w64}
use Rattle.words.specs.Holds.{Holds, ◌*ʷ◌, bits, got, lit, add, add_ok, mul_to, mul_to_ok}
use Rattle.rules.specs.Numerals.{spelled}
use Rattle.laws.specs.Lines.{most, most_suc, spelled_step, spelled_end}
use Rattle.numerals.specs.Digits.{Spellable, tens_le}
use Rattle.numerals.proofs.spelled.Goals.{After-value}
use Rattle.numerals.proofs.spelled.Goals as goal

-- ten times the number so far, before a byte
module _ (s : List ℕ) (f : Spellable s) (i n : ℕ) (h : i < length s) (e : to_z w64 n ≡ pos (nat_abs (to_z w64 n)))
    (m : nat_abs (to_z w64 n) ≤ most i) (w : spelled (nat_abs (to_z w64 n)) (drop i s) ≡ spelled 0 s) where
  abbrev num : ℕ
  num = nat_abs (to_z w64 n)

  tens_so_far : 10 * num ≤ 10 ^ 18
  tens_so_far = tens_le s f i num h m w

  so_far : Holds n (pos num) (10 ^ 18)
  so_far = record { value = e; size = omega (arith, tens_so_far) }

  tens : Holds (10 *ʷ n) (pos (10 * num)) (10 ^ 18)
  tens = mul_to (lit 10 tt) so_far (10 ^ 18) tens_so_far tt

pub overflow_mul-n : goal.overflow_mul-n
overflow_mul-n c =
    let l = c.loop-b in
    let v = l.invariant in
    let s = c.args.s.now in
    mul_to_ok (lit 10 tt) (so_far s c.requires l.b-index l.n-bits c.loop-b-test.true v.positive v.small v.whole) (10 ^ 18)
    (tens_so_far s c.requires l.b-index l.n-bits c.loop-b-test.true v.positive v.small v.whole) tt

module _ (c : After-value) where
  abbrev at : ℕ
  at = c.loop-b.b-index

  abbrev digit : ℕ
  digit = get_or c.args.s.now at 0

  byte_lt : digit ≤ 255
  byte_lt = omega (arith, c.type_inv.s at)

  byte : Holds (bits c.value.result) (pos (digit - 48)) 255
  byte = got c.value.ensures (omega (arith, byte_lt)) tt

  abbrev n : ℕ
  n = num c.args.s.now c.requires at c.loop-b.n-bits c.loop-b-test.true c.loop-b.invariant.positive c.loop-b.invariant.small
      c.loop-b.invariant.whole

  ten_times : Holds (10 *ʷ c.loop-b.n-bits) (pos (10 * n)) (10 ^ 18)
  ten_times =
      tens c.args.s.now c.requires at c.loop-b.n-bits c.loop-b-test.true c.loop-b.invariant.positive c.loop-b.invariant.small
      c.loop-b.invariant.whole

pub overflow_add-n : goal.overflow_add-n
overflow_add-n c = add_ok (ten_times c) (byte c) tt

pub loop-b-preserved : goal.loop-b-preserved
loop-b-preserved c =
    rw (add (ten_times c) (byte c) tt).value (record {
      positive = refl;
      small = omega (arith, most_suc (at c), byte_lt c, c.loop-b.invariant.small);
      whole = sym (spelled_step c.args.s.now (at c) (n c) c.loop-b-test.true) ∙ c.loop-b.invariant.whole;
    })

pub returns : goal.returns
returns c =
    let s = c.args.s.now in
    let l : c.loop-b.b-index ≡ length s = omega arith in
    let e : nat_abs (to_z w64 c.loop-b.n-bits) ≡ spelled 0 s =
    sym (spelled_end s c.loop-b.b-index (nat_abs (to_z w64 c.loop-b.n-bits)) (sym l)) ∙ c.loop-b.invariant.whole in
    (c.loop-b.invariant.positive ∙ ap pos e, rw l at c.loop-b.invariant.small)
