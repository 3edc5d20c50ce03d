-- A callee as its caller sees it: how its result is spelt, what it tells, the tokens that come back, and its contract.
use Rattle.std.specs.Prelude.{ℕ, zero, suc, List, [], ◌∷◌}
use seplogic.Ra.Ura.{Ura}
use mir.Val.{Val}
use base.Logic.{SProp, ent, sep, emp, guard, guard_i, via, id⊢, mono∗, mono_l, mono_r, fst∗, snd∗, emp∗}
use base.Fml.{flft}
use types.Logic.{Logic, sem}
use contract.Monad.{fact, fact_i, fact_use}
use contract.Lifetimes.{Lfts, Shares, toks}
use types.Kit.{Item, ‵, ⋆, push}
use Rattle.std.specs.Borrow.{RattleType}
use denote.Laws.{Is, Tells as Told}
use denote.Signature.{type_at, types_at}
use denote.Triple.Statement.{Contract}
use denote.Triple.Entry.{Res, alive}
use denote.Triple.Spec.{triple_of}
use denote.Triple.Clauses.{Ended, Clauses, Lasts, at_exit, lasts, closing}

-- the tokens of n lifetimes, each an entry
module _ {M : Type 1} {𝓤 : Ura M} (𝓛 : Logic 𝓤) where
  open 𝓛 use {A}

  abbrev pub tokens : (n : ℕ) → Lfts n → Shares n → List (Item 𝓤)
  tokens zero κs qs = []
  tokens (suc n) κs qs = ‵ (flft κs.0 qs.0) ∷ tokens n κs.1 qs.1

  pub each_token : (n : ℕ) (κs : Lfts n) (qs : Shares n) → ent 𝓤 (toks 𝓛 n κs qs) (⋆ 𝓛 (tokens n κs qs))
  each_token zero κs qs = id⊢ 𝓤 (emp 𝓤)
  each_token (suc n) κs qs =
      via 𝓤 (sep 𝓤 (A.lft κs.0 qs.0) (⋆ 𝓛 (tokens n κs.1 qs.1)))
      (mono_r 𝓤 (A.lft κs.0 qs.0) (each_token n κs.1 qs.1))
      (push 𝓛 (‵ (flft κs.0 qs.0)) (tokens n κs.1 qs.1))

-- a type of one machine value, which its relation tells
pub record Spelt (R : RattleType) : Type 1 where
  pub val : R.Denot → Val
  pub tells : Told R (Is R) (λ x. val x ∷ [])

-- a fact that is told is learnt, and the first of what tells it stays
pub learnt : {M : Type 1} (𝓤 : Ura M) (P Q : SProp 𝓤) (φ : Type 0) → ent 𝓤 (sep 𝓤 P Q) (fact 𝓤 φ)
    → ent 𝓤 (sep 𝓤 P Q) (guard 𝓤 φ P)
learnt 𝓤 P Q φ h = fact_use 𝓤 φ h (λ x. via 𝓤 P (fst∗ 𝓤 P Q) (guard_i 𝓤 φ P x))

-- two facts, one told by each of two things
pub both_told : {M : Type 1} (𝓤 : Ura M) (P Q : SProp 𝓤) (φ ψ : Type 0) → ent 𝓤 P (fact 𝓤 φ) → ent 𝓤 Q (fact 𝓤 ψ)
    → ent 𝓤 (sep 𝓤 P Q) (fact 𝓤 (φ × ψ))
both_told 𝓤 P Q φ ψ h k =
    fact_use 𝓤 φ (via 𝓤 P (fst∗ 𝓤 P Q) h) (λ x. fact_use 𝓤 ψ (via 𝓤 Q (snd∗ 𝓤 P Q) k) (λ y.
    fact_i 𝓤 (φ × ψ) (sep 𝓤 P Q) (x, y)))

-- three things had for nothing, one beside the other
pub made : {M : Type 1} (𝓤 : Ura M) {P Q R : SProp 𝓤} → ent 𝓤 (emp 𝓤) P → ent 𝓤 (emp 𝓤) Q → ent 𝓤 (emp 𝓤) R
    → ent 𝓤 (emp 𝓤) (sep 𝓤 (sep 𝓤 (sep 𝓤 P Q) R) (emp 𝓤))
made 𝓤 p q r =
    let N : SProp 𝓤 = emp 𝓤 in
    via 𝓤 (sep 𝓤 (sep 𝓤 (sep 𝓤 N N) N) N)
    (via 𝓤 (sep 𝓤 N N) (emp∗ 𝓤 N) (mono_l 𝓤 N (via 𝓤 (sep 𝓤 N N) (emp∗ 𝓤 N) (mono_l 𝓤 N (emp∗ 𝓤 N)))))
    (mono_l 𝓤 N (mono∗ 𝓤 (mono∗ 𝓤 p q) r))

-- ---- a callee: what its contract binds outside, what it tells of the result and of the last values, and what comes
-- back of the tokens and of what is said of the last values
module _ {M : Type 1} {𝓤 : Ura M} (𝓛 : Logic 𝓤) (T : Ended) (c : Clauses 𝓤 T) where
  abbrev pub Callee : Contract 𝓤
  Callee = triple_of 𝓛 T.signature (closing 𝓛 T c)

  module _ (y : Callee.Ghost) where
    abbrev pub Answer : Type 0
    Answer = Res T.signature y.0.0

    abbrev pub Left : Type 0
    Left = Lasts T y.0.0 y.0.3

    abbrev pub Row : RattleType
    Row = type_at T.signature.result y.0.0

    abbrev pub Passes : List RattleType
    Passes = types_at T.signature.params y.0.0

    abbrev pub Tells : (Answer → Left → Type 0) → Type 1
    Tells Φ = (r : Answer) (ws : Left) → ent 𝓤 (sep 𝓤 (sem 𝓛 (lasts T y.0.0 y.0.3 ws))
        ((c y.0.0 y.0.3).ensures y.1 r (at_exit T y.0.0 y.0.3 ws))) (fact 𝓤 (Φ r ws))

    -- what the `ensures` alone tells of the result
    abbrev pub Ensures : (Answer → Type 0) → Type 1
    Ensures Φ = (r : Answer) (ws : Left)
        → ent 𝓤 ((c y.0.0 y.0.3).ensures y.1 r (at_exit T y.0.0 y.0.3 ws)) (fact 𝓤 (Φ r))

    pub by_ensures : (Φ : Answer → Type 0) → Ensures Φ → Tells (λ r ws. Φ r)
    by_ensures Φ h r ws =
        let Q : SProp 𝓤 = (c y.0.0 y.0.3).ensures y.1 r (at_exit T y.0.0 y.0.3 ws) in
        via 𝓤 Q (snd∗ 𝓤 (sem 𝓛 (lasts T y.0.0 y.0.3 ws)) Q) (h r ws)

    abbrev pub GivesBack : (Left → List (Item 𝓤)) → Type 1
    GivesBack back = (ws : Left) → ent 𝓤 (sep 𝓤 (alive 𝓛 T.signature y.0.0 y.0.1)
        (sem 𝓛 (lasts T y.0.0 y.0.3 ws))) (⋆ 𝓛 (back ws))
