-- docs/RULES.md, "Errors to expect": what each comes to. That none is made, the contracts say; the edits that make them
-- are refused. A return to length that is dropped is `Demand3` without its bound: `length:no_return_to_length`.
use Rattle.std.specs.Prelude.{◌≡◌, refl, ℕ, ◌*◌, ◌≤◌, ◌<◌, ◌^◌, ℤ, pos, neg_ℤ, ◌-ℤ◌}
use Rattle.std.proofs.Common.{arith}
use Rattle.rules.specs.declared.Ut.{Ut}
use Rattle.rules.specs.declared.Tt.{Tt}
use Rattle.rules.specs.Units.{half_quarter}
use Rattle.rules.specs.Rounding.{rnd, rnd_size, modulo}
use Rattle.rules.specs.Circle.{radian_parts, square_parts, stage, stages, raw_sine, raw_cosine, pair_of_parts}
use Rattle.rules.specs.Length.{square, pair_squares, root_from, root, part_to, pair_to_length}
use Rattle.rules.specs.Polynomials.{times_t_plus, polynomial}
use Rattle.rules.specs.Precession.{precession}
use Rattle.rules.specs.Sidereal.{sidereal_polynomial, sidereal}
use Rattle.laws.specs.Rounding.{rnd_neg}

-- "Multiplying r by 3,373,259,426 in 64 bits: it wraps from about 0.76° up": from 2,734,261,103 µas, and not below
pub product_passes : (r : ℕ) → 2734261103 ≤ r
    → 2 ^ 63 ≤ r * 3373259426
product_passes r h = omega arith

pub product_fits : (r : ℕ) → r < 2734261103
    → r * 3373259426 < 2 ^ 63
product_fits r h = omega arith

-- "Taking 45° from the two series": they agree there, so that the exception changes no answer
pub series_at_half : pair_of_parts (radian_parts (pos half_quarter))
    ≡ record { cosine = pos 759250125; sine = pos 759250125 }
unfolding pair_of_parts radian_parts raw_cosine raw_sine stages stage square_parts rnd rnd_size pair_to_length part_to root
    root_from pair_squares square
series_at_half = refl

-- "Feeding UT to precession or TT to sidereal time": at UT 827,308,800,000 and TT 827,308,869,184, which is 20 March
-- 2026 at 20:00 UTC, it is 51 µas of ζ, and 1,040'' of sidereal time
abbrev ut : ℤ → Ut
ut t = record { 0 = t }

abbrev tt' : ℤ → Tt
tt' t = record { 0 = t }

pub precession_of_ut : (precession (tt' (pos 827308869184))).zeta -ℤ (precession (tt' (pos 827308800000))).zeta ≡ pos 51
unfolding precession polynomial times_t_plus rnd rnd_size
precession_of_ut = refl

pub sidereal_of_tt : sidereal (ut (pos 827308869184)) -ℤ sidereal (ut (pos 827308800000)) ≡ pos 1040601293
unfolding sidereal sidereal_polynomial polynomial times_t_plus rnd rnd_size modulo
sidereal_of_tt = refl

-- "Rounding quotients downward: negative angles break the mirror": Rnd keeps it
pub rnd_mirror : (a : ℤ) (b : ℕ) → 0 < b
    → rnd (neg_ℤ a) b ≡ neg_ℤ (rnd a b)
rnd_mirror a b h = rnd_neg a b
