-- What the pair of cosine and sine keeps, of every angle: near the series, its sizes and length, the laws of angles.
use Rattle.std.specs.Prelude.{◌≡◌, refl, [], ◌∷◌, ℕ, zero, suc, ◌+◌, ◌*◌, ◌/◌, ◌%◌, ◌≤◌, ◌<◌, ℤ, pos, negsuc, neg_ℤ, nat_abs, ◌+ℤ◌, ◌-ℤ◌, ◌*ℤ◌}
use Rattle.std.proofs.Common.{sym, ◌∙◌, arith, lit<}
use Rattle.std.proofs.Math.IntN.{+ℤ_comm, neg_ℤ-neg_ℤ}
use Rattle.integers.specs.Difference.{pos_part_neg, neg_part_neg}
use Rattle.integers.specs.Size.{abs_neg}
use Rattle.integers.specs.Ring.{ring, v0, v1, v2, ◌⊕◌, ◌⊖◌, ◌⊗◌, neg, lit}
use Rattle.rules.specs.declared.Pair.{Pair}
use Rattle.rules.specs.Units.{unit, circle, half, quarter, half_quarter}
use Rattle.rules.specs.Rounding.{rnd, rnd_size, remainder}
use Rattle.rules.specs.Length.{root, root_from, square, pair_squares, part_to, pair_to_length}
use Rattle.rules.specs.Turning.{Accepted}
use Rattle.rules.specs.Circle.{radian_parts, square_parts, stage, stages, raw_sine, raw_cosine, pair_of_parts, pair_to_half}
use Rattle.rules.specs.Circle.{exchanged_pair, pair_to_quarter, in_quarter, folded, pair}
use Rattle.laws.specs.UpTo.{up_to_le}
use Rattle.laws.specs.CircleLength.{cosine_range, sine_range, pair_of_parts_accepted}
use Rattle.laws.specs.CircleToHalf.{WithinFour, pair_to_half_is, radian_parts_range}
use Rattle.laws.specs.Quarters.{Place, place}
use Rattle.laws.specs.Folding.{to_quarter, folded_related, folded_at, folded_place, lower_half, folded_circle}
use Rattle.laws.specs.Folding.{folded_quarter, folded_opposite}

-- ---- near the series

four_neg : (x y : ℤ) (e : ℕ) → nat_abs (x *ℤ pos e -ℤ pos unit *ℤ y) ≤ 4 * e
    → nat_abs (neg_ℤ x *ℤ pos e -ℤ pos unit *ℤ neg_ℤ y) ≤ 4 * e
four_neg x y e h = rw (out x y (pos e)) (rw (abs_neg (x *ℤ pos e -ℤ pos unit *ℤ y)) h)
  where
    out : (x y e : ℤ) → neg_ℤ x *ℤ e -ℤ pos unit *ℤ neg_ℤ y ≡ neg_ℤ (x *ℤ e -ℤ pos unit *ℤ y)
    out x y e = ring (x ∷ y ∷ e ∷ [])
        (neg v0 ⊗ v2 ⊖ lit (pos unit) ⊗ neg v1) (neg (v0 ⊗ v2 ⊖ lit (pos unit) ⊗ v1)) tt

pub four_quarter : (e k : ℕ) (p q : Pair) → WithinFour p q e → WithinFour (in_quarter k p) (in_quarter k q) e
unfolding in_quarter
four_quarter e zero p q h = h
four_quarter e (suc zero) p q h =
    record { cosine = four_neg p.sine q.sine e h.sine; sine = h.cosine }
four_quarter e (suc (suc zero)) p q h = record {
  cosine = four_neg p.cosine q.cosine e h.cosine;
  sine = four_neg p.sine q.sine e h.sine;
}
four_quarter e (suc (suc (suc k))) p q h =
    record { cosine = h.sine; sine = four_neg p.cosine q.cosine e h.cosine }

-- ---- sizes: each part at most 2^30, and the squares' sum accepted

pub record Sized (p : Pair) : Type 0 where
  pub cosine_le : nat_abs p.cosine ≤ unit
  pub sine_le : nat_abs p.sine ≤ unit
  pub length : Accepted (pair_squares p)

sized_exchanged : (p : Pair) → Sized p → Sized (exchanged_pair p)
unfolding exchanged_pair pair_squares square
sized_exchanged p h = record {
  cosine_le = h.sine_le;
  sine_le = h.cosine_le;
  length = record { low = omega (arith, h.length.low); high = omega (arith, h.length.high) };
}

sized_quarter : (k : ℕ) (p : Pair) → Sized p → Sized (in_quarter k p)
unfolding in_quarter pair_squares square
sized_quarter zero p h = h
sized_quarter (suc zero) p h = record {
  cosine_le = rw (abs_neg p.sine) h.sine_le;
  sine_le = h.cosine_le;
  length = rw (abs_neg p.sine)
      (record { low = omega (arith, h.length.low); high = omega (arith, h.length.high) });
}
sized_quarter (suc (suc zero)) p h = record {
  cosine_le = rw (abs_neg p.cosine) h.cosine_le;
  sine_le = rw (abs_neg p.sine) h.sine_le;
  length = rw (abs_neg p.cosine, abs_neg p.sine) h.length;
}
sized_quarter (suc (suc (suc k))) p h = record {
  cosine_le = h.sine_le;
  sine_le = rw (abs_neg p.cosine) h.cosine_le;
  length = rw (abs_neg p.cosine)
      (record { low = omega (arith, h.length.low); high = omega (arith, h.length.high) });
}

pub pair_to_half_sized : (r : ℕ) → r ≤ half_quarter → Sized (pair_to_half r)
pair_to_half_sized r h =
    let x = radian_parts (pos r) in
    let i = radian_parts_range r h in
    rw (pair_to_half_is r) (record {
      cosine_le = up_to_le (pair_of_parts x).cosine unit (cosine_range x i);
      sine_le = up_to_le (pair_of_parts x).sine unit (sine_range x i);
      length = pair_of_parts_accepted x i;
    })

pub pair_to_quarter_sized : (r : ℕ) → r < quarter → Sized (pair_to_quarter pair_to_half r)
pair_to_quarter_sized r h =
    to_quarter (λ p q. Sized p) pair_to_half pair_to_half pair_to_half_sized (λ p q. sized_exchanged p) r h

pub pair_sized : (a : ℤ) → Sized (pair a)
unfolding pair
pair_sized a = folded_related (λ p q. Sized p) pair_to_half pair_to_half pair_to_half_sized
    (λ p q. sized_exchanged p) (λ k p q. sized_quarter k p) a

-- so a turn by any angle keeps a direction accepted
pub pair_length : (a : ℤ) → Accepted (pair_squares (pair a))
pair_length a = (pair_sized a).length

-- ---- the laws of angles

pub pair_circle : (a : ℤ) → pair (a +ℤ pos circle) ≡ pair a
unfolding pair
pair_circle a = folded_circle pair_to_half a

pub pair_quarter : (a : ℤ)
    → pair (a +ℤ pos quarter) ≡ record { cosine = neg_ℤ (pair a).sine; sine = (pair a).cosine }
unfolding pair in_quarter
pair_quarter a = folded_quarter pair_to_half a

pub half_exchanged : pair_to_half half_quarter ≡ exchanged_pair (pair_to_half half_quarter)
unfolding pair_to_half exchanged_pair
half_exchanged = refl

pub sine_at_nought : (pair_to_half 0).sine ≡ pos 0
unfolding pair_to_half pair_of_parts pair_to_length pair_squares square part_to root root_from raw_sine raw_cosine stages stage
    square_parts radian_parts rnd rnd_size
sine_at_nought = refl

-- the opposite angle gives exactly (c, −s)
pub pair_opposite : (a : ℤ) → pair (neg_ℤ a) ≡ record { cosine = (pair a).cosine; sine = neg_ℤ (pair a).sine }
unfolding pair
pair_opposite a = folded_opposite pair_to_half half_exchanged sine_at_nought a

-- quarter − a exchanges the pair
pub pair_complement : (a : ℤ)
    → pair (pos quarter -ℤ a) ≡ record { cosine = (pair a).sine; sine = (pair a).cosine }
pair_complement a =
    rw (+ℤ_comm (pos quarter) (neg_ℤ a), pair_quarter (neg_ℤ a), pair_opposite a, neg_ℤ-neg_ℤ (pair a).sine)

-- half a circle more, and half a circle − a
pub pair_half : (a : ℤ)
    → pair (a +ℤ pos half) ≡ record { cosine = neg_ℤ (pair a).cosine; sine = neg_ℤ (pair a).sine }
pair_half a = rw (two a, pair_quarter (a +ℤ pos quarter), pair_quarter a)
  where
    two : (a : ℤ) → a +ℤ pos half ≡ a +ℤ pos quarter +ℤ pos quarter
    two a = ring (a ∷ []) (v0 ⊕ lit (pos half)) (v0 ⊕ lit (pos quarter) ⊕ lit (pos quarter)) tt

pub pair_supplement : (a : ℤ)
    → pair (pos half -ℤ a) ≡ record { cosine = neg_ℤ (pair a).cosine; sine = (pair a).sine }
pair_supplement a =
    rw (+ℤ_comm (pos half) (neg_ℤ a), pair_half (neg_ℤ a), pair_opposite a, neg_ℤ-neg_ℤ (pair a).sine)

-- the remainder of the circle, with the angle's sign, has the angle's pair
pub pair_remainder : (a : ℤ) → pair (remainder a) ≡ pair a
unfolding pair remainder
pair_remainder a =
    let w = place a in
    sym (folded_place pair_to_half a w ∙ sym (of a w))
  where
    of : (a : ℤ) (w : Place a) → folded pair_to_half (remainder a) ≡ in_quarter w.q (pair_to_quarter pair_to_half w.r)
    of (pos n) w = folded_at pair_to_half (pos (n % circle)) w.q w.r (w.k + n / circle) w.j
        w.q_lt w.r_lt (omega (arith, w.is))
    of (negsuc n) w =
        let m = pos (suc n % circle) in
        folded_at pair_to_half (neg_ℤ m) w.q w.r w.k (w.j + suc n / circle) w.q_lt w.r_lt
        (omega (arith, w.is, pos_part_neg m, neg_part_neg m))

-- up to half a quarter it is the pair of x
pub pair_to_half_lem : (r : ℕ) → r ≤ half_quarter → pair (pos r) ≡ pair_of_parts (radian_parts (pos r))
unfolding pair in_quarter
pair_to_half_lem r h =
    folded_at pair_to_half (pos r) 0 r 0 0 (lit< tt) (omega arith) (omega arith)
    ∙ lower_half pair_to_half r h
    ∙ pair_to_half_is r
