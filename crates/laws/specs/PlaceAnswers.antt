-- Number and values of a reading and of a place are one-to-one: a flag tells an angle of nought from none.
use Rattle.std.specs.Prelude.{◌≡◌, refl, cond, List, [], ℤ, pos, Result, Ok, Err, Option, Some, None}
use Rattle.std.proofs.Common.{sym, ap, ◌∙◌}
use Rattle.rules.specs.declared.Place.{Place}
use Rattle.rules.specs.Units.{same}
use Rattle.rules.specs.Answers.{has_angle, or_nought, flag, read_answer, place_numbers, placed_answer}
use Rattle.laws.specs.Refusals.{never, same_refusal, same_values, at}
use Rattle.rules.specs.declared.Refusal.{Refusal}

-- an angle with its flag, from the two again
abbrev pub read_of : ℤ → ℤ → Option ℤ
read_of has a = cond (same has (pos 1)) (Some a) None

pub read_again : (r : Option ℤ) → read_of (flag r) (or_nought r) ≡ r
unfolding same has_angle or_nought flag
read_again (Some a) = refl
read_again None = refl

pub read_one : (a b : Option ℤ) → read_answer a ≡ read_answer b → a ≡ b
unfolding read_answer
read_one a b e = sym (read_again a) ∙ ap (λ zs. read_of (at zs 0) (at zs 1)) (same_values _ _ e) ∙ read_again b

abbrev place_at : List ℤ → Place
place_at zs = record {
  ra = read_of (at zs 0) (at zs 1);
  declination = at zs 2;
  azimuth = read_of (at zs 3) (at zs 4);
  altitude = at zs 5;
}

place_again : (p : Place) (beside : List ℤ) → place_at (place_numbers p beside) ≡ p
unfolding place_numbers
place_again p beside = rw (read_again p.ra, read_again p.azimuth)

pub place_one : (p q : Place) (ys zs : List ℤ) → place_numbers p ys ≡ place_numbers q zs → p ≡ q
place_one p q ys zs e = sym (place_again p ys) ∙ ap place_at e ∙ place_again q zs

pub placed_one : (a b : Result Place Refusal) → placed_answer a ≡ placed_answer b → a ≡ b
unfolding placed_answer
placed_one (Ok p) (Ok p') e = ap Ok (place_one p p' [] [] (same_values _ _ e))
placed_one (Ok p) (Err s) e = never s 6 _ e
placed_one (Err r) (Ok p) e = never r 6 _ (sym e)
placed_one (Err r) (Err s) e = ap Err (same_refusal r s 6 e)
