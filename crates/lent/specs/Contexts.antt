-- Entries of a walk's context taken out at their positions in it, and what they become put at its end: so the positions
-- of the locals, which stand before, stay as they are.
use Rattle.std.specs.Prelude.{ℕ, zero, suc, Bool, true, false, List, [], ◌∷◌, ◌++◌, ltb}
use seplogic.Ra.Ura.{Ura}
use base.Logic.{SProp, ent, sep, ex, via, comm∗, assoc', mono_l, mono_r, emp∗}
use types.Logic.{Logic}
use types.Kit.{Item, raw, some, later, mean, ⋆, push, nth, del, pull, only, ++⊢, Goal, Soaks, Seq, Step, step}
use types.Kit.{◌$◌, await, pick}

-- ---- positions in the context as it stands, into those in what is left once the earlier ones are taken out
abbrev lower : Bool → ℕ → ℕ
lower true zero = zero
lower true (suc n) = n
lower false n = n

abbrev past : List ℕ → ℕ → ℕ → ℕ
past [] i n = n
past (s ∷ ss) i n = past ss i (lower (ltb s i) n)

abbrev pub relative : List ℕ → List ℕ → List ℕ
relative seen [] = []
relative seen (i ∷ js) = past seen i i ∷ relative (i ∷ seen) js

module _ {M : Type 1} {𝓤 : Ura M} (𝓛 : Logic 𝓤) where
  abbrev pub left : List ℕ → List (Item 𝓤) → List (Item 𝓤)
  left [] Γ = Γ
  left (n ∷ π) Γ = left π (del 𝓛 n Γ)

  -- the entries at these positions, and the others
  abbrev pub taken : List ℕ → List (Item 𝓤) → List (Item 𝓤)
  taken π Γ = only 𝓛 (relative [] π) Γ

  abbrev pub others : List ℕ → List (Item 𝓤) → List (Item 𝓤)
  others π Γ = left (relative [] π) Γ

  pub apart : (π : List ℕ) (Γ : List (Item 𝓤))
      → ent 𝓤 (⋆ 𝓛 Γ) (sep 𝓤 (⋆ 𝓛 (only 𝓛 π Γ)) (⋆ 𝓛 (left π Γ)))
  apart [] Γ = emp∗ 𝓤 (⋆ 𝓛 Γ)
  apart (n ∷ π) Γ =
      let i : Item 𝓤 = nth 𝓛 n Γ in
      let Δ : List (Item 𝓤) = del 𝓛 n Γ in
      let P : SProp 𝓤 = ⋆ 𝓛 (only 𝓛 π Δ) in
      let Q : SProp 𝓤 = ⋆ 𝓛 (left π Δ) in
      via 𝓤 (sep 𝓤 (mean 𝓛 i) (⋆ 𝓛 Δ)) (pull 𝓛 n Γ)
      (via 𝓤 (sep 𝓤 (mean 𝓛 i) (sep 𝓤 P Q)) (mono_r 𝓤 (mean 𝓛 i) (apart π Δ))
      (via 𝓤 (sep 𝓤 (sep 𝓤 (mean 𝓛 i) P) Q) (assoc' 𝓤 (mean 𝓛 i) P Q)
      (mono_l 𝓤 Q (push 𝓛 i (only 𝓛 π Δ)))))

module _ {M : Type 1} {𝓤 : Ura M} {𝓛 : Logic 𝓤} {K : Type 0}
    {G : Goal 𝓤 𝓛.H} where
  open 𝓛 use {H}

  put_last : K → (Δ Θ : List (Item 𝓤)) → Seq K 𝓛 (Θ ++ Δ) G → Seq K 𝓛 (raw (⋆ 𝓛 Δ) ∷ raw (⋆ 𝓛 Θ) ∷ []) G
  put_last t Δ Θ s = record {
    prf = via 𝓤 (sep 𝓤 (⋆ 𝓛 Θ) (⋆ 𝓛 Δ)) (comm∗ 𝓤 (⋆ 𝓛 Δ) (⋆ 𝓛 Θ))
        (via 𝓤 (⋆ 𝓛 (Θ ++ Δ)) (++⊢ 𝓛 Θ Δ) s.prf);
  }

  module _ {Γ : List (Item 𝓤)} where
    -- the entries at π become Δ
    pub swaps : K → (π : List ℕ) (Δ : List (Item 𝓤)) → ent 𝓤 (⋆ 𝓛 (taken 𝓛 π Γ)) (⋆ 𝓛 Δ)
        → Step K 𝓛 (others 𝓛 π Γ ++ Δ) G Γ G
    swaps t π Δ h = step (λ s. record {
      prf = via 𝓤 (sep 𝓤 (⋆ 𝓛 (taken 𝓛 π Γ)) (⋆ 𝓛 (others 𝓛 π Γ))) (apart 𝓛 (relative [] π) Γ)
          (via 𝓤 (sep 𝓤 (⋆ 𝓛 Δ) (⋆ 𝓛 (others 𝓛 π Γ))) (mono_l 𝓤 (⋆ 𝓛 (others 𝓛 π Γ)) h)
          (put_last t Δ (others 𝓛 π Γ) s).prf);
    })

    -- the same after an update of ghost state
    pub swaps_later : K → Soaks G → (π : List ℕ) (Δ : List (Item 𝓤))
        → ent 𝓤 (⋆ 𝓛 (taken 𝓛 π Γ)) (H.⇛ (⋆ 𝓛 Δ)) → Step K 𝓛 (others 𝓛 π Γ ++ Δ) G Γ G
    swaps_later t z π Δ h = step (λ s.
        let u : Seq K 𝓛 (later (raw (⋆ 𝓛 Δ)) ∷ raw (⋆ 𝓛 (others 𝓛 π Γ)) ∷ []) G = await t z $
        put_last t Δ (others 𝓛 π Γ) s in
        record {
          prf = via 𝓤 (sep 𝓤 (⋆ 𝓛 (taken 𝓛 π Γ)) (⋆ 𝓛 (others 𝓛 π Γ))) (apart 𝓛 (relative [] π) Γ)
              (via 𝓤 (sep 𝓤 (H.⇛ (⋆ 𝓛 Δ)) (⋆ 𝓛 (others 𝓛 π Γ))) (mono_l 𝓤 (⋆ 𝓛 (others 𝓛 π Γ)) h)
              u.prf);
        })

    -- the same where the update gives Δ of some x
    pub swaps_some : K → Soaks G → {X : Type 0} (π : List ℕ) (Δ : X → List (Item 𝓤))
        → ent 𝓤 (⋆ 𝓛 (taken 𝓛 π Γ)) (H.⇛ (ex 𝓤 (λ (x : X). ⋆ 𝓛 (Δ x))))
        → ((x : X) → Seq K 𝓛 (others 𝓛 π Γ ++ Δ x) G) → Seq K 𝓛 Γ G
    swaps_some t z {X} π Δ h k =
        let u : Seq K 𝓛 (later (some (λ (x : X). raw (⋆ 𝓛 (Δ x)))) ∷ raw (⋆ 𝓛 (others 𝓛 π Γ)) ∷ []) G
        = await t z $ pick t (λ x. put_last t (Δ x) (others 𝓛 π Γ) (k x)) in
        record {
          prf = via 𝓤 (sep 𝓤 (⋆ 𝓛 (taken 𝓛 π Γ)) (⋆ 𝓛 (others 𝓛 π Γ))) (apart 𝓛 (relative [] π) Γ)
              (via 𝓤 (sep 𝓤 (H.⇛ (ex 𝓤 (λ (x : X). ⋆ 𝓛 (Δ x)))) (⋆ 𝓛 (others 𝓛 π Γ)))
              (mono_l 𝓤 (⋆ 𝓛 (others 𝓛 π Γ)) h) u.prf);
        }
