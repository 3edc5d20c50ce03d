-- What keeps every value on the way of a term of nutation within the word, and that each of the ten terms does.
use Rattle.std.specs.Prelude.{Bool, true, ◌&&◌, List, [], ◌∷◌, ℕ, zero, suc, ◌+◌, ◌≤◌, ◌^◌, T, leb, get_or, nat_abs}
use Rattle.std.proofs.Common.{arith, lit≤}
use Rattle.std.proofs.Math.Facts.{and_yes}
use Rattle.rules.specs.declared.Tt.{Tt}
use Rattle.rules.specs.declared.Arguments.{Arguments}
use Rattle.rules.specs.declared.Term.{Term}
use Rattle.rules.specs.Arguments.{moon_row, sun_row, latitude_row, elongation_row, node_row, arguments}
use Rattle.rules.specs.Nutation.{terms, longitude_amplitude, obliquity_amplitude}
use Rattle.laws.specs.Instant.{InRange}
use Rattle.laws.specs.Polynomials.{sizes, polynomial_le}
use Rattle.nutation.specs.Terms.{no_term, term_at}

-- of the five arguments
pub record ArgumentsFit (a : Arguments) : Type 0 where
  pub moon_le : nat_abs a.moon ≤ 2 ^ 51
  pub sun_le : nat_abs a.sun ≤ 2 ^ 51
  pub latitude_le : nat_abs a.latitude ≤ 2 ^ 51
  pub elongation_le : nat_abs a.elongation ≤ 2 ^ 51
  pub node_le : nat_abs a.node ≤ 2 ^ 51

pub arguments_fit : (t : Tt) → InRange t.0 → ArgumentsFit (arguments t)
unfolding arguments
arguments_fit t h = record {
  moon_le = omega (arith, polynomial_le moon_row t.0 h);
  sun_le = omega (arith, polynomial_le sun_row t.0 h);
  latitude_le = omega (arith, polynomial_le latitude_row t.0 h);
  elongation_le = omega (arith, polynomial_le elongation_row t.0 h);
  node_le = omega (arith, polynomial_le node_row t.0 h);
}

-- the sizes of a term's multiples, of its amplitudes with their changes, of the changes alone
abbrev multiple_sizes : Term → ℕ
multiple_sizes m = sizes (m.moon ∷ m.sun ∷ m.latitude ∷ m.elongation ∷ m.node ∷ [])

abbrev amplitude_sizes : Term → ℕ
amplitude_sizes m = sizes (longitude_amplitude m) + sizes (obliquity_amplitude m)

abbrev change_sizes : Term → ℕ
change_sizes m = nat_abs m.longitude_change + nat_abs m.obliquity_change

-- of a term
pub record TermFits (m : Term) : Type 0 where
  pub multiples_le : multiple_sizes m ≤ 2 ^ 7
  pub amplitudes_le : amplitude_sizes m ≤ 2 ^ 32
  pub changes_le : change_sizes m ≤ 2 ^ 21

-- by computing, over the whole table
fits : Term → Bool
fits m = leb (multiple_sizes m) (2 ^ 7) && leb (amplitude_sizes m) (2 ^ 32) && leb (change_sizes m) (2 ^ 21)

fits_true : (m : Term) → T (fits m) → TermFits m
unfolding fits
fits_true m t =
    let multiples = leb (multiple_sizes m) (2 ^ 7) in
    let amplitudes = leb (amplitude_sizes m) (2 ^ 32) in
    let two = and_yes (multiples && amplitudes) (leb (change_sizes m) (2 ^ 21)) t in
    let one = and_yes multiples amplitudes two.0 in
    record { multiples_le = lit≤ one.0; amplitudes_le = lit≤ one.1; changes_le = lit≤ two.1 }

all_fit : List Term → Bool
all_fit [] = true
all_fit (m ∷ ms) = fits m && all_fit ms

each_fits : (ms : List Term) → T (all_fit ms) → (k : ℕ) → TermFits (get_or ms k no_term)
unfolding all_fit fits
each_fits [] t k = fits_true no_term tt
each_fits (m ∷ ms) t zero = fits_true m (and_yes (fits m) (all_fit ms) t).0
each_fits (m ∷ ms) t (suc k) = each_fits ms (and_yes (fits m) (all_fit ms) t).1 k

pub term_fits : (k : ℕ) → TermFits (term_at k)
unfolding all_fit fits
term_fits k = each_fits terms tt k
