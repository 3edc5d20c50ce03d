-- Checks one after the other, whatever is answered: an answer of the rules, the paper's, or a struct that C gets.
use Rattle.std.specs.Prelude.{◌≡◌, ◌↔◌, Bool, cond, ℕ, ◌≤◌, ◌<◌, ℤ, pos, nat_abs}
use Rattle.std.proofs.Math.Path.{refl}
use Rattle.std.proofs.Common.{sym, ap, ◌∙◌, arith}
use Rattle.std.proofs.Math.Logic.{inl, inr}
use Rattle.std.proofs.Math.Bool.{true, false}
use mathlib.Core.List.{List, [], ◌∷◌, ◌++◌}
use Rattle.rules.specs.declared.Refusal.{Refusal}
use Rattle.rules.specs.Checks.{Check, first}
use Rattle.rules.specs.Refusals.{number}
use Rattle.laws.specs.Checks.{FirstGiven, NoneGiven, first_refused, first_answered}
use Rattle.laws.specs.Ranges.{true_not_false}
use Rattle.laws.specs.RefusalNumbers.{number_one, number_pos}

-- an answer is a refusal exactly when that is the first of the checks that is given
abbrev pub Refuses : {A : Type 0} → A → (Refusal → A) → List Check → Type 0
Refuses answer refuse cs = (r : Refusal) → (answer ≡ refuse r) ↔ FirstGiven cs r

-- where one of the checks is given, what was before is there after
abbrev pub Keeps : {A : Type 0} → A → A → List Check → Type 0
Keeps before after cs = (r : Refusal) → FirstGiven cs r → after ≡ before

-- no check of these has a number above the last
abbrev pub NumbersTo : ℕ → List Check → Type 0
NumbersTo last [] = Unit {0}
NumbersTo last (c ∷ cs) = (number c.refusal ≤ last) × NumbersTo last cs

-- so the first that is given has none
pub number_to : (last : ℕ) (cs : List Check) → NumbersTo last cs → (r : Refusal) → FirstGiven cs r → number r ≤ last
number_to last [] h r f = absurd f
number_to last (c ∷ cs) h r (inl f) = rw f.1 at h.0
number_to last (c ∷ cs) h r (inr f) = number_to last cs h.1 r f.1

-- what is made of an answer is made of each refusal and of the rule's answer
pub first_map : {A B : Type 0} (f : A → B) (cs : List Check) (refuse : Refusal → A) (answer : A)
    → f (first cs refuse answer) ≡ first cs (λ r. f (refuse r)) (f answer)
unfolding first
first_map f [] refuse answer = refl
first_map f (c ∷ cs) refuse answer = by c.given (first_map f cs refuse answer)
  where
    by : (b : Bool) → f (first cs refuse answer) ≡ first cs (λ r. f (refuse r)) (f answer)
        → f (cond b (refuse c.refusal) (first cs refuse answer))
        ≡ cond b (f (refuse c.refusal)) (first cs (λ r. f (refuse r)) (f answer))
    by true e = refl
    by false e = e

-- where a refusal is given, what each refusal leaves is left
pub first_kept : {A : Type 0} (cs : List Check) (old new : A) (r : Refusal) → FirstGiven cs r
    → first cs (λ _. old) new ≡ old
unfolding first
first_kept [] old new r f = absurd f
first_kept (c ∷ cs) old new r (inl h) = rw h.0
first_kept (c ∷ cs) old new r (inr h) = rw h.0 (first_kept cs old new r h.1)

-- where each answer has a code, a refusal's its number and the rule's nought
module _ {A : Type 0} (code : A → ℤ) (refuse : Refusal → A) (answer : A)
    (numbered : (r : Refusal) → code (refuse r) ≡ pos (number r)) (nought : code answer ≡ pos 0) where
  one : (r s : Refusal) → refuse r ≡ refuse s → r ≡ s
  one r s e = number_one r s (ap nat_abs (sym (numbered r) ∙ ap code e ∙ numbered s))

  apart : (r : Refusal) → refuse r ≡ answer → ⊥
  apart r e = omega (arith, number_pos r, ap nat_abs (sym (numbered r) ∙ ap code e ∙ nought))

  -- a refusal is answered exactly when it is the first that is given
  pub refused_exactly : (cs : List Check) (r : Refusal) → (first cs refuse answer ≡ refuse r) ↔ FirstGiven cs r
  refused_exactly cs r = first_refused refuse answer one apart cs r

  -- and the rule's answer exactly when none is
  pub answered_exactly : (cs : List Check) → (first cs refuse answer ≡ answer) ↔ NoneGiven cs
  answered_exactly cs = first_answered refuse answer one apart cs

-- ---- checks of one refusal alone, whose answer has no number in it

abbrev pub AllOf : Refusal → List Check → Type 0
AllOf r [] = Unit {0}
AllOf r (c ∷ cs) = (c.refusal ≡ r) × AllOf r cs

module _ {A : Type 0} (refusal answer : A) (apart : refusal ≡ answer → ⊥) (r : Refusal) where
  pub alike_exactly : (cs : List Check) → AllOf r cs → (first cs (λ _. refusal) answer ≡ refusal) ↔ FirstGiven cs r
  unfolding first
  alike_exactly [] h = (λ e. absurd (apart (sym e)), λ f. absurd f)
  alike_exactly (c ∷ cs) h = by c.given refl (alike_exactly cs h.1)
    where
      by : (b : Bool) → c.given ≡ b → ((first cs (λ _. refusal) answer ≡ refusal) ↔ FirstGiven cs r)
          → (cond b refusal (first cs (λ _. refusal) answer) ≡ refusal) ↔ FirstGiven (c ∷ cs) r
      by true g rest = (λ e. inl (g, h.0), λ f. refl)
      by false g rest = (λ e. inr (g, rest.0 e), λ f. there f)
        where
          there : FirstGiven (c ∷ cs) r → first cs (λ _. refusal) answer ≡ refusal
          there (inl k) = true_not_false (sym k.0 ∙ g)
          there (inr k) = rest.1 k.1

  pub alike_answered : (cs : List Check) → (first cs (λ _. refusal) answer ≡ answer) ↔ NoneGiven cs
  unfolding first
  alike_answered [] = (λ e. tt, λ f. refl)
  alike_answered (c ∷ cs) = by c.given refl (alike_answered cs)
    where
      by : (b : Bool) → c.given ≡ b → ((first cs (λ _. refusal) answer ≡ answer) ↔ NoneGiven cs)
          → (cond b refusal (first cs (λ _. refusal) answer) ≡ answer) ↔ NoneGiven (c ∷ cs)
      by true g rest = (λ e. absurd (apart e), λ f. true_not_false (sym g ∙ f.0))
      by false g rest = (λ e. (g, rest.0 e), λ f. rest.1 f.1)

-- a refusal with a number above those of the first checks comes after them: none of these is given
pub given_after : (last : ℕ) (cs ds : List Check) (r : Refusal) → NumbersTo last cs → last < number r
    → FirstGiven (cs ++ ds) r → NoneGiven cs × FirstGiven ds r
given_after last [] ds r h k f = (tt, f)
given_after last (c ∷ cs) ds r h k (inl f) = absurd (omega (arith, h.0, ap number f.1))
given_after last (c ∷ cs) ds r h k (inr f) =
    let rest = given_after last cs ds r h.1 k f.1 in
    ((f.0, rest.0), rest.1)
