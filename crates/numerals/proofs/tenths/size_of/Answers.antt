-- `numerals::tenths::size_of` meets its contract.
use Rattle.std.specs.Prelude.{◌≡◌, true, List, ℕ, ◌-◌, ◌^◌, ◌≤◌, ◌<◌, ℤ, pos, length}
use Rattle.std.proofs.Common.{ap, ◌∙◌, arith}
use Rattle.words.specs.Holds.{Holds, bits, got, lit, add, add_ok, mul, mul_ok}
use Rattle.rules.specs.Numerals.{nought, of_digits, spelled}
use Rattle.laws.specs.Ranges.{both_true}
use Rattle.numerals.specs.Digits.{few_spellable, digits_lt, digit_le}
use Rattle.numerals.specs.Tenths.{before_point, after_point, of_size, size_of}
use Rattle.numerals.specs.TenthsParts.{of_size_le}
use Rattle.numerals.proofs.tenths.size_of.Goals as goal

module _ (bs : List ℕ) (e : of_size bs ≡ true) where
  front_lt : spelled 0 (before_point bs) < 10 ^ 4
  unfolding of_size
  front_lt = digits_lt 4 (before_point bs) (both_true (of_digits 4 (before_point bs)) _ e).0

  tenth_le : after_point bs - nought ≤ 9
  unfolding of_size
  tenth_le = digit_le (after_point bs) (both_true (of_digits 4 (before_point bs)) _ e).1

  front : {z : ℤ} → z ≡ pos (spelled 0 (before_point bs)) → Holds (bits z) (pos (spelled 0 (before_point bs))) 10000
  front p = got p (omega (arith, front_lt)) tt

  tenth : {z : ℤ} → z ≡ pos (after_point bs - nought) → Holds (bits z) (pos (after_point bs - nought)) 9
  tenth p = got p tenth_le tt

pub spelled-requires : goal.spelled-requires
spelled-requires c =
    few_spellable _ (omega (arith, ap length c.parts-tenth.ensures.before, of_size_le c.args.s.now c.requires))

pub overflow_mul-result : goal.overflow_mul-result
overflow_mul-result c =
    let p = c.spelled.ensures.0 ∙ ap (λ l. pos (spelled 0 l)) c.parts-tenth.ensures.before in
    mul_ok (lit 10 tt) (front c.args.s.now c.requires p) tt

pub overflow_add-result : goal.overflow_add-result
overflow_add-result c =
    let p = c.spelled.ensures.0 ∙ ap (λ l. pos (spelled 0 l)) c.parts-tenth.ensures.before in
    let q = c.value.ensures ∙ ap (λ b. pos (b - 48)) c.parts-tenth.ensures.after in
    add_ok (mul (lit 10 tt) (front c.args.s.now c.requires p) tt) (tenth c.args.s.now c.requires q) tt

pub returns : goal.returns
unfolding size_of
returns c =
    let p = c.spelled.ensures.0 ∙ ap (λ l. pos (spelled 0 l)) c.parts-tenth.ensures.before in
    let q = c.value.ensures ∙ ap (λ b. pos (b - 48)) c.parts-tenth.ensures.after in
    (add (mul (lit 10 tt) (front c.args.s.now c.requires p) tt) (tenth c.args.s.now c.requires q) tt).value
