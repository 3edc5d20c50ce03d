-- Checks in order: a refusal is answered exactly when it is the first that is given, and the rule's answer exactly when
-- none is.
use Rattle.std.specs.Prelude.{◌≡◌, ◌⊎◌, ◌↔◌, Bool, cond}
use Rattle.std.proofs.Math.Path.{refl, ap}
use Rattle.std.proofs.Common.{sym, ◌∙◌}
use Rattle.std.proofs.Math.Logic.{inl, inr}
use Rattle.std.proofs.Math.Bool.{true, false}
use mathlib.Core.List.{List, [], ◌∷◌}
use Rattle.rules.specs.declared.Refusal.{Refusal}
use Rattle.rules.specs.Checks.{Check, first}
use Rattle.laws.specs.Ranges.{true_not_false}

-- r is the first refusal of the checks that is given
abbrev pub FirstGiven : List Check → Refusal → Type 0
FirstGiven [] r = ⊥
FirstGiven (c ∷ cs) r = ((c.given ≡ true) × (c.refusal ≡ r)) ⊎ ((c.given ≡ false) × FirstGiven cs r)

abbrev pub NoneGiven : List Check → Type 0
NoneGiven [] = Unit {0}
NoneGiven (c ∷ cs) = (c.given ≡ false) × NoneGiven cs

module _ {A : Type 0} (refuse : Refusal → A) (answer : A)
    (one : (r s : Refusal) → refuse r ≡ refuse s → r ≡ s) (apart : (r : Refusal) → refuse r ≡ answer → ⊥) where
  -- what is answered is a refusal exactly when it is the first given
  pub first_refused : (cs : List Check) (r : Refusal) → (first cs refuse answer ≡ refuse r) ↔ FirstGiven cs r
  unfolding first
  first_refused [] r = (λ e. apart r (sym e), λ f. absurd f)
  first_refused (c ∷ cs) r = by c.given refl (first_refused cs r)
    where
      by : (b : Bool) → c.given ≡ b → ((first cs refuse answer ≡ refuse r) ↔ FirstGiven cs r)
          → (cond b (refuse c.refusal) (first cs refuse answer) ≡ refuse r) ↔ FirstGiven (c ∷ cs) r
      by true g rest = (λ e. inl (g, one c.refusal r e), λ f. there f)
        where
          there : FirstGiven (c ∷ cs) r → refuse c.refusal ≡ refuse r
          there (inl h) = ap refuse h.1
          there (inr h) = true_not_false (sym g ∙ h.0)
      by false g rest = (λ e. inr (g, rest.0 e), λ f. there f)
        where
          there : FirstGiven (c ∷ cs) r → first cs refuse answer ≡ refuse r
          there (inl h) = true_not_false (sym h.0 ∙ g)
          there (inr h) = rest.1 h.1

  -- and the rule's answer exactly when none is given
  pub first_answered : (cs : List Check) → (first cs refuse answer ≡ answer) ↔ NoneGiven cs
  unfolding first
  first_answered [] = (λ e. tt, λ f. refl)
  first_answered (c ∷ cs) = by c.given refl (first_answered cs)
    where
      by : (b : Bool) → c.given ≡ b → ((first cs refuse answer ≡ answer) ↔ NoneGiven cs)
          → (cond b (refuse c.refusal) (first cs refuse answer) ≡ answer) ↔ NoneGiven (c ∷ cs)
      by true g rest = (λ e. absurd (apart c.refusal e), λ f. true_not_false (sym g ∙ f.0))
      by false g rest = (λ e. (g, rest.0 e), λ f. rest.1 f.1)
