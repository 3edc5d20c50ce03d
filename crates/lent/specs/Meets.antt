-- From a walk to the contract: what is the same for every function whose walk uses no more of its contract than what
-- the parameters own.
use Rattle.std.specs.Prelude.{◌≡◌}
use Rattle.std.proofs.Common.{subst}
use seplogic.Ra.Ura.{Ura}
use mir.Syntax.{Fn}
use base.Logic.{ent, via, fst∗}
use prog.Wp.{WpFn, Tables}
use types.Logic.{Logic}
use contract.Lifetimes.{Lfts, Shares, AllOutlive}
use sound.WpLaws.{WpFn-mono}
use denote.RattleType.{flat}
use denote.Laws.{Ises, Are, Spells, Tellss, valss}
use denote.Signature.{types_at}
use denote.Triple.Entry.{Args, on_entry}
use denote.Triple.Spec.{Meets}
use denote.Triple.Clauses.{Ended, Clauses, closing}
use denote.Triple.Walked.{Stays, AllGo, walk_of, walked, walk_Meets}

module _ {M : Type 1} {𝓤 : Ura M} (𝓛 : Logic 𝓤) (𝓣 : Tables 𝓤 𝓛.H) (T : Ended)
    (c : Clauses 𝓤 T) (hs : Stays T.signature.params T.kept)
    (gs : AllGo 𝓛 T.signature.lifetimes T.signature.params T.kept hs)
    (sp : (κs : Lfts T.signature.lifetimes) → Spells (types_at T.signature.params κs))
    (tl : (κs : Lfts T.signature.lifetimes) → Tellss (types_at T.signature.params κs)
    (Ises (types_at T.signature.params κs)) (sp κs)) where
  -- the walk of f, at each choice of lifetimes, shares and arguments
  open 𝓛 use {H}

  abbrev pub WalkOf : Fn → Type 1
  WalkOf f = (κs : Lfts T.signature.lifetimes) (qs : Shares T.signature.lifetimes)
      (bounds : AllOutlive T.signature.lifetimes T.signature.outlives κs) (a : Args T.signature κs)
      (g : (c κs a).ghost)
      → Are (types_at T.signature.params κs) (Ises (types_at T.signature.params κs)) a
      (valss (types_at T.signature.params κs) (sp κs) a)
      → ent 𝓤 (on_entry 𝓛 T.signature κs qs a (valss (types_at T.signature.params κs) (sp κs) a))
      (WpFn 𝓤 H 𝓣.C 𝓣.Λ f (flat (types_at T.signature.params κs)
      (valss (types_at T.signature.params κs) (sp κs) a))
      ((walk_of 𝓛 T hs c).post ((κs, qs, bounds, a, valss (types_at T.signature.params κs) (sp κs) a), g)))

  -- g is f with its locals' types by their names
  pub meets : (f g : Fn) → g ≡ f → WalkOf g → Meets 𝓛 T.signature (WpFn 𝓤 H 𝓣.C 𝓣.Λ f) (closing 𝓛 T c)
  meets f g same walk = subst (λ (h : Fn). Meets 𝓛 T.signature (WpFn 𝓤 H 𝓣.C 𝓣.Λ h) (closing 𝓛 T c))
      same (walk_Meets 𝓛 T hs gs c (WpFn 𝓤 H 𝓣.C 𝓣.Λ g) (WpFn-mono 𝓤 H 𝓛.laws 𝓣 g)
      (walked 𝓛 T hs c (WpFn 𝓤 H 𝓣.C 𝓣.Λ g) sp tl
      (λ κs qs bounds a u are. via 𝓤 _ (fst∗ 𝓤 _ ((c κs a).requires u)) (walk κs qs bounds a u are))))
