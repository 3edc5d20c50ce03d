-- `roots::stepped_root` meets its contract: with a = 2^30 - w and q the quotient, a + q is not above the root, and
-- a + q + 2^m is, m being the number of trials.
use Prim.Native.Nat.{ℕ, ◌+◌, ◌*◌, ◌-◌, ◌/◌, ◌≤◌, ◌<◌, ◌^◌}
use mathlib.Core.Path.{◌≡◌, refl, ap, ◌∙◌}
use native.Mathlib.Nat.{mul-le-mul, mul-le-mul_right, lt-div-mul-add, div-mul-le_self, div-lt_iff_lt-mul}
use native.Mathlib.Omega.{arith}
use lib.Dec.{le→leb}
use lib.IntN.{pos, nat_abs}
use lib.Pow.{pow_mono}
use lib.Signed.{lt_z_yes}
use mir.Facts.{to_z-of_z}
use Rattle.integers.specs.Square.{two_products_le}
use Rattle.rules.specs.Length.{root_from}
use Rattle.words.specs.Fits.{held64}
use Rattle.words.specs.Holds.{Holds, bits, ◌+ʷ◌, ◌-ʷ◌, ◌*ʷ◌, ◌/ʷ◌, got, lit, bounded, add, add_ok, sub_nat, sub_nat_ok}
use Rattle.words.specs.Holds.{mul, mul_ok, div_ok, div_lit}
use Rattle.laws.specs.Root.{from_root, is_root}
use Rattle.roots.proofs.stepped_root.Goals as goal

-- ---- squares near 2^60

times : (a w x : ℕ) → a + w ≡ 2 ^ 30 → a * x + w * x ≡ 2 ^ 30 * x
times a w x e = omega (arith, ap (λ (s : ℕ). s * x) e)

not_above : (n a w q : ℕ) → a + w ≡ 2 ^ 30 → q ≤ 2 * w → a * a + q * 2 ^ 31 ≤ n → (a + q) * (a + q) ≤ n
not_above n a w q e h k = omega (arith, times a w q e, mul-le-mul_right q h)

above : (n a w q t : ℕ) → a + w ≡ 2 ^ 30 → w * w + 2 ^ 31 ≤ 2 ^ 31 * t → n < a * a + q * 2 ^ 31 + 2 ^ 31
    → n < (a + q + t) * (a + q + t)
above n a w q t e h k = omega (arith, times a w (q + t) e, two_products_le w (q + t))

-- ---- what the word holds

abbrev number : goal.Start → ℕ
number c = nat_abs c.args.n

abbrev wide : goal.Start → ℕ
wide c = nat_abs c.args.w

abbrev base : goal.Start → ℕ
base c = 2 ^ 30 - wide c

abbrev over : goal.Start → ℕ
over c = number c - base c * base c

abbrev steps : goal.Start → ℕ
steps c = over c / 2147483648

base_is : (c : goal.Start) → base c + wide c ≡ 2 ^ 30
base_is c = omega (arith, c.requires.w_le)

number_le : (c : goal.Start) → number c ≤ 2 ^ 61
number_le c =
    let le : base c ≤ 2 ^ 30 = omega arith in
    omega (arith, mul-le-mul le le, c.requires.near.high, c.requires.w_le)

number_holds : (c : goal.Start) → Holds (bits c.args.n) (pos (number c)) (2 ^ 61)
number_holds c = got c.requires.near.is (number_le c) tt

w_holds : (c : goal.Start) → Holds (bits c.args.w) (pos (wide c)) (2 ^ 18)
w_holds c = got c.requires.w_is c.requires.w_le tt

w_le : (c : goal.Start) → wide c ≤ 2 ^ 30
w_le c = omega (arith, c.requires.w_le)

pub overflow_sub-base : goal.overflow_sub-base
overflow_sub-base c = sub_nat_ok (lit (2 ^ 30) tt) (w_holds c) (w_le c) tt

base_holds : (c : goal.Start) → Holds (2 ^ 30 -ʷ bits c.args.w) (pos (base c)) (2 ^ 30)
base_holds c = sub_nat (lit (2 ^ 30) tt) (w_holds c) (w_le c) tt

pub overflow_mul-base : goal.overflow_mul-base
overflow_mul-base c = mul_ok (base_holds c) (base_holds c) tt

abbrev square : goal.Start → ℕ
square c = (2 ^ 30 -ʷ bits c.args.w) *ʷ (2 ^ 30 -ʷ bits c.args.w)

square_holds : (c : goal.Start) → Holds (square c) (pos (base c * base c)) (2 ^ 60)
square_holds c = mul (base_holds c) (base_holds c) tt

pub overflow_sub-n : goal.overflow_sub-n
overflow_sub-n c = sub_nat_ok (number_holds c) (square_holds c) c.requires.near.low tt

over_holds : (c : goal.Start) → Holds (bits c.args.n -ʷ square c) (pos (over c)) (2 ^ 50)
over_holds c = bounded (2 ^ 50) (sub_nat (number_holds c) (square_holds c) c.requires.near.low tt)
    (omega (arith, c.requires.near.high, c.requires.w_le))

pub nonzero_div-n : goal.nonzero_div-n
nonzero_div-n c = div_ok (over_holds c) (lit 2147483648 tt) (lt_z_yes tt) tt

steps_holds : (c : goal.Start) → Holds ((bits c.args.n -ʷ square c) /ʷ 2147483648) (pos (steps c)) (2 ^ 19)
steps_holds c = div_lit 2147483648 (over_holds c) tt tt tt

pub overflow_add-base : goal.overflow_add-base
overflow_add-base c = add_ok (base_holds c) (steps_holds c) tt

low_holds : (c : goal.Start)
    → Holds (2 ^ 30 -ʷ bits c.args.w +ʷ (bits c.args.n -ʷ square c) /ʷ 2147483648) (pos (base c + steps c))
    (2 ^ 31)
low_holds c = bounded (2 ^ 31) (add (base_holds c) (steps_holds c) tt)
    (omega (arith, (steps_holds c).size))

low_below : (c : goal.Start) → (base c + steps c) * (base c + steps c) ≤ number c
low_below c =
    let most : over c / 2147483648 < 2 * wide c + 1 = (div-lt_iff_lt-mul {k = 2147483648} {x = over c}
    {y = 2 * wide c + 1} (omega arith)).1 (omega (arith, c.requires.near.high)) in
    not_above (number c) (base c) (wide c) (steps c) (base_is c) (omega (arith, most))
    (omega (arith, c.requires.near.low, div-mul-le_self (over c) 2147483648))

low_near : (c : goal.Start)
    → number c < (base c + steps c + 2 ^ c.requires.trials) * (base c + steps c + 2 ^ c.requires.trials)
low_near c =
    above (number c) (base c) (wide c) (steps c) (2 ^ c.requires.trials) (base_is c) c.requires.enough
    (omega (arith, lt-div-mul-add {a = over c} {b = 2147483648} (omega arith)))

pub root_from-requires : goal.root_from-requires
root_from-requires c =
    rw ((low_holds c).value, to_z-of_z c.ranges.n, to_z-of_z c.ranges.power) (record {
      number = rw c.requires.near.is (record { le = le→leb 0 (number c) (omega arith) });
      low_is = refl;
      power_is = c.requires.power_is;
      trials = c.requires.trials;
      left = record {
        is = c.requires.half;
        le = omega (arith, c.requires.trials_le);
        within = omega (arith, (low_holds c).size, few);
        makes = is_root (number c) (root_from c.requires.trials (number c) (base c + steps c))
            (omega (arith, number_le c))
            (from_root c.requires.trials (number c) (base c + steps c) (low_below c) (low_near c));
      };
    })
  where
    few : 2 ^ c.requires.trials ≤ 2 ^ 6
    few = pow_mono c.requires.trials_le

pub returns : goal.returns
returns c =
    held64 c.root_from.result c.root_from.type_inv
    ∙ rw (to_z-of_z c.before.ranges.n) at c.root_from.ensures
