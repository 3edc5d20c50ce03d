-- `arcs::arc_factor` meets its contract: p is the row so far, from nought to a whole.
use Rattle.std.specs.Prelude.{◌≡◌, refl, ◌<◌, T, List, [], ◌∷◌, ℕ, zero, suc, map, take, length, get_or, ℤ, pos, nat_abs}
use Rattle.std.proofs.Common.{sym, ap, ◌∙◌, arith, rules}
use native.Mathlib.Numerals.{add-one}
use Rattle.rules.specs.Units.{unit}
use Rattle.rules.specs.Rounding.{rnd, rnd_size}
use Rattle.rules.specs.Reading as rule
use Rattle.laws.specs.UpTo.{UpTo, up_to_of_le}
use Rattle.laws.specs.Arc.{first_range}
use Rattle.laws.specs.RoundedStages.{rises, rises_first, rises_le, one_stage_range, stages_of_arc}
use Rattle.words.specs.Fits.{held64}
use Rattle.series.specs.Given.{EachFits}
use Rattle.series.proofs.Stages.{fits_at, w_held, k_held}
use Rattle.arcs.proofs.arc_factor.Goals as goal

-- the row as the code has it
abbrev row : List ℤ
row = pos 21 ∷ pos 19 ∷ pos 17 ∷ pos 15 ∷ pos 13 ∷ pos 11 ∷ pos 9 ∷ pos 7 ∷ pos 5 ∷ pos 3 ∷ pos 1 ∷ []

row_fits : EachFits row
row_fits = search rules

-- the row so far, with one stage more
one_more : (w : ℤ) (ks : List ℤ) (i : ℕ) (p : ℤ) → i < length ks
    → rule.arc_stages w (take (suc i) (map nat_abs ks)) p
    ≡ rule.arc_stage w (nat_abs (get_or ks i (pos 0))) (rule.arc_stages w (take i (map nat_abs ks)) p)
unfolding rule.arc_stages
one_more w [] i p h = absurd (omega arith)
one_more w (k ∷ ks) zero p h = refl
one_more w (k ∷ ks) (suc i) p h = one_more w ks i (rule.arc_stage w (nat_abs k) p) (omega arith)

-- and its range
so_far_range : (w : ℤ) (js : List ℕ) (i : ℕ) (p : ℤ) (b : ℕ) → UpTo w unit → T (rises (stages_of_arc js) b) → UpTo p b
    → UpTo (rule.arc_stages w (take i js) p) unit
unfolding rule.arc_stages rule.arc_stage
so_far_range w js zero p b h r u = up_to_of_le p b unit (rises_le (stages_of_arc js) b r) u
so_far_range w [] (suc i) p b h r u = up_to_of_le p b unit (rises_le [] b r) u
so_far_range w (j ∷ js) (suc i) p b h r u =
    let t = rises_first j 1 b (rises (stages_of_arc js) (rnd_size unit j)) r in
    so_far_range w js i (rule.arc_stage w j p) (rnd_size unit j) h t.next (one_stage_range w p b j 1 h u t.rise t.k_pos)

abbrev first : ℤ
first = rnd (pos unit) 23

range_at : (w : ℤ) (i : ℕ) → UpTo w unit → UpTo (rule.arc_stages w (take i rule.arc_row) first) unit
unfolding rnd_size
range_at w i h = so_far_range w rule.arc_row i first (rnd_size unit 23) h tt first_range

pub loop-k-init : goal.loop-k-init
unfolding rule.arc_stages
loop-k-init c = record { so_far = held64 c.rnd_quotient-p.result c.rnd_quotient-p.type_inv ∙ c.rnd_quotient-p.ensures }

pub arc_stage-p-requires : goal.arc_stage-p-requires
arc_stage-p-requires c =
    let i = c.loop-k.k-index in
    let k = fits_at row row_fits i c.loop-k-test.true in
    let w = w_held c.args.w c.requires in
    rw (w, k_held _ k.1, rw w at c.loop-k.invariant.so_far)
    (record { w_range = c.requires; p_range = range_at c.args.w i c.requires; k_pos = k.0; k_range = k.1 })

pub loop-k-preserved : goal.loop-k-preserved
loop-k-preserved c =
    let i = c.loop-k.k-index in
    let k = fits_at row row_fits i c.loop-k-test.true in
    let w = w_held c.args.w c.requires in
    let is = rw (w, k_held _ k.1, rw w at c.loop-k.invariant.so_far) at c.arc_stage-p.ensures in
    rw w (record {
      so_far = held64 c.arc_stage-p.result c.arc_stage-p.type_inv ∙ is
          ∙ sym (one_more c.args.w row i first c.loop-k-test.true)
          ∙ ap (λ (n : ℕ). rule.arc_stages c.args.w (take n rule.arc_row) first) (sym (add-one i));
    })

pub returns : goal.returns
returns c =
    let all : c.loop-k.k-index ≡ 11 = omega arith in
    rw (w_held c.args.w c.requires) at c.loop-k.invariant.so_far
    ∙ ap (λ (i : ℕ). rule.arc_stages c.args.w (take i rule.arc_row) first) all
