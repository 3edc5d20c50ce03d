-- An element of a row that is had: it is read, or another is put in its place, and the row stays the same entry of the
-- context. What a walk does with `s[i]`.
use Rattle.std.specs.Prelude.{◌≡◌, refl, ℕ, ◌+◌, ◌*◌, ◌<◌, List, [], ◌∷◌, T, length, get_or, set}
use Rattle.std.proofs.Common.{sym, ap, subst}
use seplogic.Ra.Ura.{Ura}
use base.Fraction.{full_share}
use mir.Syntax.{Ty}
use mir.Raw.{raw as raw_ty}
use mir.Val.{Val, WT, has_ty}
use base.Logic.{SProp, ent, sep, via}
use base.Fml.{Share, Fml, fat}
use prog.Wp.{read, write}
use types.Logic.{Logic}
use types.Kit.{Item, ‵, mean, ⋆, nth, del, put, pull, unpull, fill, push, pop, Goal, prop, Seq, Step, step, ◌$◌}
use types.Kit.{move, drop, rewrite}
use types.Run.{Reads, Writes, look_raw, store_raw}
use Rattle.std.specs.Borrow.{RattleType}
use denote.Laws.{Is, Makes, shows}
use denote.Memory.{cell_at, mem, shares}
use denote.Index.{row, others, place, place_is, elem_out, elem_back, elem_put}
use denote.Steps.{owned}
use Rattle.lent.specs.Callees.{Spelt}

-- a type whose values lie in memory as one machine value, of MIR type τ
pub record Element (R : RattleType) : Type 2 where
  pub spelt : Spelt R
  pub τ : Ty
  pub one : (q : Share) (v : Val) (b o : ℕ) → cell_at q R.mir (v ∷ []) b o ≡ fat q (raw_ty τ) b o v

module _ {M : Type 1} {𝓤 : Ura M} {𝓛 : Logic 𝓤} {K : Type 0} where
  -- the element's cell was written over: the new one is owned in the place of the old, and the row closed
  closed : K → {Δ : List (Item 𝓤)} {P : SProp 𝓤} {R : RattleType} (e : Element R) → Makes 𝓛 R (Is R)
      → (ys : List R.Denot) (i : ℕ) (x : R.Denot) (v : Val) (b o : ℕ) (F : Fml) → i < length ys → Is R x (v ∷ [])
      → Seq K 𝓛 (‵ (row R full_share (set ys i x) b o) ∷ Δ) (prop P)
      → Seq K 𝓛 (‵ (fat full_share (raw_ty e.τ) b (place (mem R).size o i) v) ∷ ‵ F
      ∷ ‵ (others (shares R) full_share ys i b o) ∷ Δ) (prop P)
  closed t {R = R} e mk ys i x v b o F l is s =
      rewrite t 0 (λ (G : Fml). ‵ G) (sym (e.one full_share v b (place (mem R).size o i))) refl $ move t (1 ∷ []) $
      drop t $ owned t R (Is R) mk x (v ∷ []) is $ move t (1 ∷ 0 ∷ []) $
      elem_put t R full_share ys i x (v ∷ []) b o l $ s

module _ {M : Type 1} {𝓤 : Ura M} {𝓛 : Logic 𝓤} {K : Type 0} {Γ : List (Item 𝓤)} where
  open 𝓛 use {H}

  module _ (t : K) (n : ℕ) {R : RattleType} (e : Element R) (q : Share) (ys : List R.Denot) (i : ℕ) (d : R.Denot)
      (b o : ℕ) (l : i < length ys) (at_n : nth 𝓛 n Γ ≡ ‵ (row R q ys b o)) where
    -- the row is brought to the head, and put back where it was
    at_head : {G : Goal 𝓤 H} → Step K 𝓛 (‵ (row R q ys b o) ∷ del 𝓛 n Γ) G Γ G
    at_head = step (λ s. record {
      prf = via 𝓤 (sep 𝓤 (mean 𝓛 (‵ (row R q ys b o))) (⋆ 𝓛 (del 𝓛 n Γ)))
          (subst (λ (j : Item 𝓤). ent 𝓤 (⋆ 𝓛 Γ) (sep 𝓤 (mean 𝓛 j) (⋆ 𝓛 (del 𝓛 n Γ)))) at_n
          (pull 𝓛 n Γ))
          (via 𝓤 (⋆ 𝓛 (‵ (row R q ys b o) ∷ del 𝓛 n Γ)) (push 𝓛 (‵ (row R q ys b o)) (del 𝓛 n Γ))
          s.prf);
    })

    in_place : {G : Goal 𝓤 H} → Step K 𝓛 Γ G (‵ (row R q ys b o) ∷ del 𝓛 n Γ) G
    in_place = step (λ s. record {
      prf = via 𝓤 (sep 𝓤 (mean 𝓛 (‵ (row R q ys b o))) (⋆ 𝓛 (del 𝓛 n Γ)))
          (pop 𝓛 (‵ (row R q ys b o)) (del 𝓛 n Γ))
          (via 𝓤 (⋆ 𝓛 Γ)
          (subst (λ (j : Item 𝓤). ent 𝓤 (sep 𝓤 (mean 𝓛 j) (⋆ 𝓛 (del 𝓛 n Γ))) (⋆ 𝓛 Γ)) at_n
          (unpull 𝓛 n Γ))
          s.prf);
    })

    -- what the element is, and its machine value
    pub entry_is : {G : Goal 𝓤 H} → (Is R (get_or ys i d) (e.spelt.val (get_or ys i d) ∷ []) → Seq K 𝓛 Γ G) → Seq K 𝓛 Γ G
    entry_is k = at_head $
        elem_out t R (Is R) (shows 𝓛 R) (λ x. e.spelt.val x ∷ []) e.spelt.tells q ys i d b o l (λ is.
        elem_back t R q ys i d (e.spelt.val (get_or ys i d) ∷ []) b o l $ in_place $ k is)

    -- the element is read
    pub look_entry : Reads K 𝓛 Γ e.τ b (i * (mem R).size + o) (e.spelt.val (get_or ys i d))
    look_entry =
        let p : ℕ = place (mem R).size o i in
        let v : Val = e.spelt.val (get_or ys i d) in
        let Δ : List (Item 𝓤) = ‵ (cell_at q R.mir (v ∷ []) b p) ∷ ‵ (R.own_val (get_or ys i d) (v ∷ []))
        ∷ ‵ (others (shares R) q ys i b o) ∷ del 𝓛 n Γ in
        let raw_cell : nth 𝓛 0 Δ ≡ ‵ (fat q (raw_ty e.τ) b p v) = ap (λ (F : Fml). ‵ F) (e.one q v b p) in
        let cell : Reads K 𝓛 Δ e.τ b p v = look_raw t 0 raw_cell in
        subst (λ (p : ℕ). Reads K 𝓛 Γ e.τ b p v) (place_is (mem R).size o i) (record {
          go = λ Kt h.
              let s : Seq K 𝓛 Δ (prop (Kt v)) = elem_back t R q ys i d (v ∷ []) b o l $ in_place $ record { prf = h } in
              let u : Seq K 𝓛 Γ (prop (read 𝓤 H e.τ b p Kt)) = at_head $
              elem_out t R (Is R) (shows 𝓛 R) (λ x. e.spelt.val x ∷ []) e.spelt.tells q ys i d b o l (λ is.
              record { prf = cell.go Kt s.prf }) in
              u.prf;
        })

  -- another is put in its place: of the new one its relation is in hand
  pub store_entry : K → (n : ℕ) {R : RattleType} (e : Element R) → Makes 𝓛 R (Is R) → (ys : List R.Denot)
      (i : ℕ) (d x : R.Denot) (v : Val) (b o : ℕ) → i < length ys → Is R x (v ∷ []) → T (has_ty e.τ v) × WT v
      → nth 𝓛 n Γ ≡ ‵ (row R full_share ys b o)
      → Writes K 𝓛 Γ e.τ b (i * (mem R).size + o) v (put 𝓛 n (‵ (row R full_share (set ys i x) b o)) Γ)
  store_entry t n {R} e mk ys i d x v b o l is wt at_n =
      let p : ℕ = place (mem R).size o i in
      let r : Item 𝓤 = ‵ (row R full_share (set ys i x) b o) in
      let v₀ : Val = e.spelt.val (get_or ys i d) in
      let F : Fml = R.own_val (get_or ys i d) (v₀ ∷ []) in
      let Θ : List (Item 𝓤) = ‵ F ∷ ‵ (others (shares R) full_share ys i b o) ∷ del 𝓛 n Γ in
      let Δ : List (Item 𝓤) = ‵ (cell_at full_share R.mir (v₀ ∷ []) b p) ∷ Θ in
      let raw_cell : nth 𝓛 0 Δ ≡ ‵ (fat full_share (raw_ty e.τ) b p v₀) = ap (λ (G : Fml). ‵ G)
      (e.one full_share v₀ b p) in
      let cell : Writes K 𝓛 Δ e.τ b p v (‵ (fat full_share (raw_ty e.τ) b p v) ∷ Θ) = store_raw t 0 raw_cell wt in
      subst (λ (p : ℕ). Writes K 𝓛 Γ e.τ b p v (put 𝓛 n r Γ)) (place_is (mem R).size o i) (record {
        go = λ P h.
            let s : Seq K 𝓛 (r ∷ del 𝓛 n Γ) (prop P) = record {
              prf = via 𝓤 (sep 𝓤 (mean 𝓛 r) (⋆ 𝓛 (del 𝓛 n Γ))) (pop 𝓛 r (del 𝓛 n Γ))
                  (via 𝓤 (⋆ 𝓛 (put 𝓛 n r Γ)) (fill 𝓛 n r Γ) h);
            } in
            let u : Seq K 𝓛 Γ (prop (write 𝓤 H e.τ b p v P)) = at_head t n e full_share ys i d b o l at_n $
            elem_out t R (Is R) (shows 𝓛 R) (λ z. e.spelt.val z ∷ []) e.spelt.tells full_share ys i d b o l
            (λ _. record { prf = cell.go P (closed t e mk ys i x v b o F l is s).prf }) in
            u.prf;
      })
