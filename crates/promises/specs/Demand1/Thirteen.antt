-- Refusal 13, "length to be divided by is nought": the rule of bringing to length gives it, of a length of nought and
-- of no other, and no entry point comes to it. `ThirteenByContract` and `ThirteenForC` say so of the functions
-- themselves.
use Rattle.std.specs.Prelude.{◌≡◌, refl, ◌↔◌, Bool, true, false, not, ◌&&◌, cond, List, [], ◌∷◌, ℕ, eqb, ℤ, Err}
use Rattle.std.proofs.Common.{sym, ap, ◌∙◌, inl, inr, arith, eq-eqb, eqb-true}
use Rattle.rules.specs.declared.Moment.{Moment}
use Rattle.rules.specs.declared.Site.{Site}
use Rattle.rules.specs.declared.Direction.{Direction}
use Rattle.rules.specs.declared.Refusal.{Refusal}
use Rattle.rules.specs.Checks.{Check, first}
use Rattle.rules.specs.Refusals.{Answer, number, given, refused}
use Rattle.rules.specs.Length.{squares, root, length_refused, brought_to_length}
use Rattle.rules.specs.Turning.{turned}
use Rattle.rules.specs.Night.{night_of}
use Rattle.laws.specs.Checks.{FirstGiven}
use Rattle.laws.specs.Ranges.{both_true, true_not_false}
use Rattle.promises.specs.Demand1.Checks.{length_checks, turn_checks, night_checks}
use Rattle.promises.specs.Demand1.InOrder.{Refuses}
use Rattle.promises.specs.Demand1.Turns.{length_refused_lem, turn_refused_lem}
use Rattle.promises.specs.Demand1.Places.{night_refused}
use Rattle.rules.specs.Dates.{ut_and_tt}

-- ---- the rule has it

-- the table's number
pub thirteen : number Refusal.Length ≡ 13
unfolding number
thirteen = refl

-- given exactly when the length is nought
pub length_13 : (v : Direction) → (brought_to_length v ≡ Err Refusal.Length) ↔ (root (squares v) ≡ 0)
unfolding length_refused
length_13 v = (
  λ e. there ((length_refused_lem v Refusal.Length).0 e),
  λ e. (length_refused_lem v Refusal.Length).1 (inl (eq-eqb (root (squares v)) 0 e, refl)),
)
  where
    there : FirstGiven (length_checks v) Refusal.Length → root (squares v) ≡ 0
    there (inl h) = eqb-true (root (squares v)) 0 h.0
    there (inr h) = absurd h.1

-- ---- no entry point comes to it

-- an answer is not refusal 13
abbrev pub Never13 : {A : Type 0} → A → (Refusal → A) → Type 0
Never13 answer refuse = answer ≡ refuse Refusal.Length → ⊥

-- no check of these has the number 13: to be told by looking
abbrev pub without13 : List Check → Bool
without13 [] = true
without13 (c ∷ cs) = not (eqb (number c.refusal) 13) && without13 cs

first_not_13 : (cs : List Check) → without13 cs ≡ true → (r : Refusal) → FirstGiven cs r → number r ≡ 13 → ⊥
first_not_13 [] w r f e = absurd f
first_not_13 (c ∷ cs) w r (inl f) e =
    let both = both_true (not (eqb (number c.refusal) 13)) (without13 cs) w in
    true_not_false (sym both.0 ∙ ap not (eq-eqb (number c.refusal) 13 (ap number f.1 ∙ e)))
first_not_13 (c ∷ cs) w r (inr f) e =
    first_not_13 cs (both_true (not (eqb (number c.refusal) 13)) (without13 cs) w).1 r f.1 e

pub never_13 : {A : Type 0} (answer : A) (refuse : Refusal → A) (cs : List Check) → without13 cs ≡ true
    → Refuses answer refuse cs → Never13 answer refuse
unfolding number
never_13 answer refuse cs w h e = first_not_13 cs w Refusal.Length ((h Refusal.Length).0 e) refl

paper_not_13 : (cs : List Check) (count : ℕ) (values : List ℤ) → without13 cs ≡ true
    → (first cs (λ r. refused r count) (given values)).number ≡ 13 → ⊥
unfolding first given refused
paper_not_13 [] count values w e = omega arith
paper_not_13 (c ∷ cs) count values w e =
    let both = both_true (not (eqb (number c.refusal) 13)) (without13 cs) w in
    by c.given both.0 (paper_not_13 cs count values both.1) e
  where
    by : (b : Bool) → not (eqb (number c.refusal) 13) ≡ true
        → ((first cs (λ r. refused r count) (given values)).number ≡ 13 → ⊥)
        → (cond b (refused c.refusal count) (first cs (λ r. refused r count) (given values))).number ≡ 13 → ⊥
    by true n rest e = true_not_false (sym n ∙ ap not (eq-eqb (number c.refusal) 13 e))
    by false n rest e = rest e

-- nor is 13 the number of an answer on paper, which C gets
pub number_not_13 : (answer : Answer) (cs : List Check) (count : ℕ) (values : List ℤ)
    → answer ≡ first cs (λ r. refused r count) (given values) → without13 cs ≡ true → answer.number ≡ 13 → ⊥
number_not_13 answer cs count values h w e = paper_not_13 cs count values w (sym (ap (λ a. a.number) h) ∙ e)

pub turned_not_13 : (axis angle : ℤ) (v : Direction) → Never13 (turned axis angle v) Err
unfolding number
turned_not_13 axis angle v = never_13 _ Err (turn_checks axis angle v) refl (turn_refused_lem axis angle v)

pub night_not_13 : (m : Moment) (site : Site) → Never13 (night_of m site) Err
unfolding number
night_not_13 m site = never_13 _ Err (night_checks m site) refl (night_refused m site)
