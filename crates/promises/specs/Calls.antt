-- Calls of a function: what its contract tells of each of them, and so of a list of them.
use Rattle.std.specs.Prelude.{List, [], ◌∷◌}
use seplogic.Ra.Ura.{Ura}
use base.Logic.{SProp, ent, emp}
use contract.Monad.{conj, fact, fact_i}
use contract.Lifetimes.{Lfts}
use denote.Triple.Entry.{Args, Res}
use denote.Triple.Clauses.{Ended, AtExit, Clauses}
use Rattle.promises.specs.OfContracts.{Tells, together}

-- P holds of each of a list
abbrev pub Each : {A : Type 0} → (A → Type 0) → List A → Type 0
Each P [] = Unit {0}
Each P (c ∷ cs) = P c × Each P cs

module _ {M : Type 1} (𝓤 : Ura M) (T : Ended) (contract : Clauses 𝓤 T) where
  -- a call: what is passed, what is answered, and the parameters at exit, any that the types allow
  pub record Call : Type 0 where
    pub lifetimes : Lfts T.signature.lifetimes
    pub passed : Args T.signature lifetimes
    pub ghost : (contract lifetimes passed).ghost
    pub answer : Res T.signature lifetimes
    pub exit : AtExit T lifetimes

  -- what the `ensures` tells of a call
  abbrev pub told : Call → SProp 𝓤
  told c = (contract c.lifetimes c.passed).ensures c.ghost c.answer c.exit

  -- of every call of a list
  abbrev pub all_told : List Call → SProp 𝓤
  all_told [] = emp 𝓤
  all_told (c ∷ cs) = conj 𝓤 (told c) (all_told cs)

  -- what a contract tells of whatever is passed it tells of every call
  pub all_tell : {claim : (κs : Lfts T.signature.lifetimes) → Args T.signature κs → Res T.signature κs
      → AtExit T κs → Type 0} → Tells 𝓤 T contract claim → (cs : List Call)
      → ent 𝓤 (all_told cs) (fact 𝓤 (Each (λ c. claim c.lifetimes c.passed c.answer c.exit) cs))
  all_tell tells [] = fact_i 𝓤 _ _ tt
  all_tell {claim} tells (c ∷ cs) =
      together 𝓤 (tells c.lifetimes c.passed c.ghost c.answer c.exit) (all_tell tells cs)
      (λ h hs. (h, hs))
