-- A function's locals as one piece of a walk's context, so that `_i` is entry i of it throughout: allocated at once on
-- entry, and freed at once at the return.
use Rattle.std.specs.Prelude.{refl, ℕ, List, [], ◌∷◌}
use seplogic.Ra.Ura.{Ura}
use base.Fraction.{full_share}
use mir.Syntax.{Ty, Local, local}
use mir.Val.{Val}
use base.Logic.{ent, sep, via, id⊢, mono_r, assoc'}
use base.Fml.{ftrue, fat, froom, fdies}
use prog.Wp.{Env}
use types.Logic.{Logic}
use types.Kit.{Item, ‵, ◌⊛◌, mean, ⋆, push, pop, sel⊢, Goal, allocs, frees, Seq, Step, step, ◌$◌, split, move}
use types.Kit.{drop}
use types.Run.{alloc1, alloc0, free1, free0, forget}
use denote.Steps.{nothing}

-- what a local has in it
pub data Content : Type 0 where
  empty : Content
  has : Val → Content

-- where each local lies, and the environment that this makes
abbrev pub Places : List Local → Type 0
Places [] = Unit {0}
Places (l ∷ ls) = ℕ × Places ls

abbrev pub env : (ls : List Local) → Places ls → List (Ty × ℕ)
env [] p = []
env (local τ h ∷ ls) p = (τ, p.0) ∷ env ls p.1

module _ {M : Type 1} {𝓤 : Ura M} where
  abbrev pub cell : Ty × ℕ → Content → Item 𝓤
  cell e empty = ‵ (froom e.0 e.1 0)
  cell e (has v) = ‵ (fat full_share e.0 e.1 0 v)

  -- the locals of E, and after them Γ. One that the list does not name is empty
  abbrev pub cells : List (Ty × ℕ) → List Content → List (Item 𝓤) → List (Item 𝓤)
  cells [] hs Γ = Γ
  cells (e ∷ E) [] Γ = cell e empty ∷ cells E [] Γ
  cells (e ∷ E) (h ∷ hs) Γ = cell e h ∷ cells E hs Γ

  -- that each of them may be freed
  abbrev pub ends : List (Ty × ℕ) → Item 𝓤
  ends [] = ‵ ftrue
  ends (e ∷ E) = ‵ (fdies e.0 e.1) ⊛ ends E

  -- a context: the locals, that they may be freed, and Γ
  abbrev pub locals : List (Ty × ℕ) → List Content → List (Item 𝓤) → List (Item 𝓤)
  locals E hs Γ = cells E hs (ends E ∷ Γ)

module _ {M : Type 1} {𝓤 : Ura M} (𝓛 : Logic 𝓤) where
  abbrev ◌⊩◌ : List (Item 𝓤) → List (Item 𝓤) → Type 1
  Γ ⊩ Δ = ent 𝓤 (⋆ 𝓛 Γ) (⋆ 𝓛 Δ)

  infix 26 ◌⊩◌
  -- what follows i may be put another way
  after : (i : Item 𝓤) (Γ Δ : List (Item 𝓤)) → Γ ⊩ Δ → (i ∷ Γ) ⊩ (i ∷ Δ)
  after i Γ Δ h =
      via 𝓤 (sep 𝓤 (mean 𝓛 i) (⋆ 𝓛 Γ)) (pop 𝓛 i Γ)
      (via 𝓤 (sep 𝓤 (mean 𝓛 i) (⋆ 𝓛 Δ)) (mono_r 𝓤 (mean 𝓛 i) h) (push 𝓛 i Δ))

  -- i is brought out from behind the locals, and put back there
  past : (i j : Item 𝓤) (Γ Δ : List (Item 𝓤)) → Γ ⊩ (i ∷ Δ) → (j ∷ Γ) ⊩ (i ∷ j ∷ Δ)
  past i j Γ Δ h = via 𝓤 (⋆ 𝓛 (j ∷ i ∷ Δ)) (after j Γ (i ∷ Δ) h) (sel⊢ 𝓛 (1 ∷ []) (j ∷ i ∷ Δ))

  behind : (i j : Item 𝓤) (Γ Δ : List (Item 𝓤)) → (i ∷ Γ) ⊩ Δ → (i ∷ j ∷ Γ) ⊩ (j ∷ Δ)
  behind i j Γ Δ h = via 𝓤 (⋆ 𝓛 (j ∷ i ∷ Γ)) (sel⊢ 𝓛 (1 ∷ []) (i ∷ j ∷ Γ)) (after j (i ∷ Γ) Δ h)

  out : (E : List (Ty × ℕ)) (hs : List Content) (i : Item 𝓤) (Γ : List (Item 𝓤))
      → cells E hs (i ∷ Γ) ⊩ (i ∷ cells E hs Γ)
  out [] hs i Γ = id⊢ 𝓤 (⋆ 𝓛 (i ∷ Γ))
  out (e ∷ E) [] i Γ = past i (cell e empty) (cells E [] (i ∷ Γ)) (cells E [] Γ) (out E [] i Γ)
  out (e ∷ E) (h ∷ hs) i Γ = past i (cell e h) (cells E hs (i ∷ Γ)) (cells E hs Γ) (out E hs i Γ)

  back : (E : List (Ty × ℕ)) (hs : List Content) (i : Item 𝓤) (Γ : List (Item 𝓤))
      → (i ∷ cells E hs Γ) ⊩ cells E hs (i ∷ Γ)
  back [] hs i Γ = id⊢ 𝓤 (⋆ 𝓛 (i ∷ Γ))
  back (e ∷ E) [] i Γ = behind i (cell e empty) (cells E [] Γ) (cells E [] (i ∷ Γ)) (back E [] i Γ)
  back (e ∷ E) (h ∷ hs) i Γ = behind i (cell e h) (cells E hs Γ) (cells E hs (i ∷ Γ)) (back E hs i Γ)

  joined : (i j : Item 𝓤) (Γ : List (Item 𝓤)) → (i ∷ j ∷ Γ) ⊩ ((i ⊛ j) ∷ Γ)
  joined i j Γ =
      via 𝓤 (sep 𝓤 (mean 𝓛 i) (sep 𝓤 (mean 𝓛 j) (⋆ 𝓛 Γ))) (mono_r 𝓤 (mean 𝓛 i) (pop 𝓛 j Γ))
      (via 𝓤 (sep 𝓤 (mean 𝓛 (i ⊛ j)) (⋆ 𝓛 Γ)) (assoc' 𝓤 (mean 𝓛 i) (mean 𝓛 j) (⋆ 𝓛 Γ))
      (push 𝓛 (i ⊛ j) Γ))

  -- one local more: its room is put before the others, and what frees it with what frees them
  one_more : (E : List (Ty × ℕ)) (e : Ty × ℕ) (Γ : List (Item 𝓤))
      → locals E [] (cell e empty ∷ ‵ (fdies e.0 e.1) ∷ Γ) ⊩ locals (e ∷ E) [] Γ
  one_more E e Γ =
      let r : Item 𝓤 = cell e empty in
      let d : Item 𝓤 = ‵ (fdies e.0 e.1) in
      let n : Item 𝓤 = ends E in
      via 𝓤 (⋆ 𝓛 (n ∷ cells E [] (r ∷ d ∷ Γ))) (out E [] n (r ∷ d ∷ Γ))
      (via 𝓤 (⋆ 𝓛 (n ∷ r ∷ cells E [] (d ∷ Γ)))
      (after n (cells E [] (r ∷ d ∷ Γ)) (r ∷ cells E [] (d ∷ Γ)) (out E [] r (d ∷ Γ)))
      (via 𝓤 (⋆ 𝓛 (n ∷ r ∷ d ∷ cells E [] Γ))
      (after n (r ∷ cells E [] (d ∷ Γ)) (r ∷ d ∷ cells E [] Γ)
      (after r (cells E [] (d ∷ Γ)) (d ∷ cells E [] Γ) (out E [] d Γ)))
      (via 𝓤 (⋆ 𝓛 (r ∷ d ∷ n ∷ cells E [] Γ)) (sel⊢ 𝓛 (1 ∷ 1 ∷ []) (n ∷ r ∷ d ∷ cells E [] Γ))
      (after r (d ∷ n ∷ cells E [] Γ) (cells E [] ((d ⊛ n) ∷ Γ))
      (via 𝓤 (⋆ 𝓛 ((d ⊛ n) ∷ cells E [] Γ)) (joined d n (cells E [] Γ)) (back E [] (d ⊛ n) Γ))))))

module _ {M : Type 1} {𝓤 : Ura M} {𝓛 : Logic 𝓤} {K : Type 0} where
  -- all locals of a function are allocated
  open 𝓛 use {H}

  pub allocs_all : K → {Γ : List (Item 𝓤)} (ls : List Local) {Kt : Env 𝓤 H → Goal 𝓤 H}
      → ((p : Places ls) → Seq K 𝓛 (locals (env ls p) [] Γ) (Kt (env ls p))) → Seq K 𝓛 Γ (allocs ls Kt)
  allocs_all t [] k = alloc0 t $ nothing t $ k tt
  allocs_all t {Γ} (local τ h ∷ ls) {Kt} k = alloc1 t (λ b.
      allocs_all t {Γ = cell (τ, b) empty ∷ ‵ (fdies τ b) ∷ Γ} ls (λ p. record {
        prf = via 𝓤 (⋆ 𝓛 (locals ((τ, b) ∷ env ls p) [] Γ)) (one_more 𝓛 (env ls p) (τ, b) Γ) (k (b, p)).prf;
      }))

  freed : K → {Γ : List (Item 𝓤)} (E : List (Ty × ℕ)) (hs : List Content) {g : Goal 𝓤 H}
      → Step K 𝓛 Γ g (ends E ∷ cells E hs Γ) (frees E g)
  freed t [] hs = step (λ s. drop t $ free0 t $ s)
  freed t (e ∷ E) [] = step (λ s. split t $ move t (2 ∷ 0 ∷ 1 ∷ []) $ free1 t $ freed t E [] $ s)
  freed t (e ∷ E) (empty ∷ hs) = step (λ s. split t $ move t (2 ∷ 0 ∷ 1 ∷ []) $ free1 t $ freed t E hs $ s)
  freed t (e ∷ E) (has v ∷ hs) = step (λ s. split t $ move t (2 ∷ 0 ∷ 1 ∷ []) $ forget t 0 refl $ free1 t $
      freed t E hs $ s)

  -- all are freed, whatever they hold
  pub frees_all : K → {Γ : List (Item 𝓤)} (E : List (Ty × ℕ)) (hs : List Content) {g : Goal 𝓤 H}
      → Step K 𝓛 Γ g (locals E hs Γ) (frees E g)
  frees_all t {Γ} E hs = step (λ s. record {
    prf = via 𝓤 (⋆ 𝓛 (ends E ∷ cells E hs Γ)) (out 𝓛 E hs (ends E) Γ) (freed t E hs $ s).prf;
  })
