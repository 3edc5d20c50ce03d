-- A `&κ mut [T]` that is lent again for a lifetime κ' of a call, and comes back: `lends_again` and `comes_back` of
-- `denote.Lend`, of a slice. It is the kit's `examples/writer/proofs/Again.antt`.
--     LentAgain      what the holder keeps while the slice is lent again under the name γ₁: the lender's part at κ',
--                    and its own borrow at κ, open, with both halves of its ghost variable
--     lends_again    from the slice at κ, the slice at κ' under a new name, and `LentAgain`
--     comes_back     from the dead κ', `LentAgain` and the last list, which is as long: the slice at κ with that list
--     lends-on, comes_home   the two with the call's lifetime made and ended, at a count m that the list has
use Rattle.std.specs.Prelude.{◌≡◌, refl, ℕ, List, [], ◌∷◌, length}
use Rattle.std.proofs.Common.{sym, ap, subst}
use seplogic.Ra.Ura.{Ura}
use base.Fraction.{full_share}
use mir.Syntax.{Lifetime}
use mir.Val.{Val}
use base.Logic.{ent, sep, ex}
use base.Fml.{Lft, GName, Share, Fml, ftrue, fsep, flft, fdead, fobs, fauth, flent, fobor}
use types.Logic.{Logic, sem}
use types.Kit.{Item, ‵, ◌⊛◌, some, later, ⋆, ◌$◌, ◌∵◌, !, qed, move, keep, use1, use2, use3, drop, split, join}
use types.Kit.{pick, rewrite, fsplit, fjoin, frame, await, updating, now as at_once, show, done}
use types.Tokens.{lft_new, lft_end}
use types.SemTy.{cells, Arr}
use Rattle.std.specs.Borrow.{RattleType, MutBor}
use denote.Shadow.{pure_l, pure_i}
use denote.Memory.{mem}
use denote.Slice.{slice_val, MutSlice, heres, Room, finally, mut_slice_at, coded_holeys}
use denote.Lend.{Held, lends_slice, slice_back}
use denote.Index.{row, whole_out, whole_in, opens_slice, closes_slice}
use denote.Steps.{nothing}
use Rattle.lent.specs.Slices.{at}

module _ (R : RattleType) (κ κ' : Lft) (q : Share) (γ : GName) (b o : ℕ) where
  abbrev at_list : GName → List R.Denot → MutBor (List R.Denot)
  at_list δ ys = record { ref_ptr = (b, o); ghost_name = δ; now = ys }

  abbrev pub LentAgain : GName → List R.Denot → Fml
  LentAgain γ₁ ys = fsep (flent κ' (Held R (length ys) b o γ₁))
      (fsep (fobor κ q (Held R (length ys) b o γ))
      (fsep (fobs γ ((coded_holeys R).code (heres R ys))) (fauth γ ((coded_holeys R).code (heres R ys)))))

  module _ {M : Type 1} {𝓤 : Ura M} (𝓛 : Logic 𝓤) (ℓ ℓ' : Lifetime)
      (ys : List R.Denot) where
    open 𝓛 use {H, A}

    abbrev vals : List Val
    vals = slice_val (b, o) (length ys) ∷ []

    pub lends_again : ent 𝓤 (sep 𝓤 (sem 𝓛 ((MutSlice ℓ κ R).own_val (at_list γ ys) vals)) (A.lft κ q))
        (H.⇛ (ex 𝓤 (λ (γ₁ : GName). sep 𝓤 (sem 𝓛 ((MutSlice ℓ' κ' R).own_val (at_list γ₁ ys) vals))
        (sem 𝓛 (LentAgain γ₁ ys)))))
    lends_again =
        qed 𝓛 (‵ ((MutSlice ℓ κ R).own_val (at_list γ ys) vals) ∷ ‵ (flft κ q) ∷ []) ∵ updating ! $ fsplit ! $
        pure_l ! (mut_slice_at R (at_list γ ys) vals) (λ p. fsplit ! $ opens_slice ! tt R ys b o $
        use1 𝓛 (‵ (cells (mem R) ys b o)) (whole_in 𝓛 R ys b o) $
        use1 𝓛 (later (some (λ (γ₁ : GName). ‵ ((MutSlice ℓ' κ' R).own_val (at_list γ₁ ys) vals)
        ⊛ ‵ (flent κ' (Held R (length ys) b o γ₁))))) (lends_slice 𝓛 R ℓ' κ' ys b o p.1) $ await ! tt $
        pick ! (λ γ₁. split ! $
        -- [the new slice; the lender's part at κ'; the open borrow at κ; obs γ; auth γ]
        at_once ! $ show ! (λ (γ' : GName). sep 𝓤 (sem 𝓛 ((MutSlice ℓ' κ' R).own_val (at_list γ' ys) vals))
        (sem 𝓛 (LentAgain γ' ys))) γ₁ $ frame ! $
        move ! (2 ∷ 3 ∷ []) $ fjoin ! $ move ! (2 ∷ 0 ∷ []) $ fjoin ! $ move ! (1 ∷ 0 ∷ []) $ fjoin ! $ done !))

    pub comes_back : (γ₁ : GName) (zs : List R.Denot) → Room R (length ys) → length zs ≡ length ys
        → ent 𝓤 (sep 𝓤 (A.dead κ') (sep 𝓤 (sem 𝓛 (LentAgain γ₁ ys)) (sem 𝓛 (finally R γ₁ zs))))
        (H.⇛ (sep 𝓤 (sem 𝓛 ((MutSlice ℓ κ R).own_val (at_list γ zs) vals)) (A.lft κ q)))
    comes_back γ₁ zs room e =
        qed 𝓛 (‵ (fdead κ') ∷ ‵ (LentAgain γ₁ ys) ∷ ‵ (finally R γ₁ zs) ∷ []) ∵ updating ! $ move ! (1 ∷ []) $
        fsplit ! $ move ! (2 ∷ 0 ∷ 3 ∷ []) $
        use3 𝓛 (later (‵ ((Arr (mem R) (length ys)).own_at zs b o))) (slice_back 𝓛 R κ' γ₁ zs (length ys) b o) $
        await ! tt $ fsplit ! $ drop ! $ use1 𝓛 (‵ (row R full_share zs b o)) (whole_out 𝓛 R zs b o) $
        move ! (1 ∷ []) $ fsplit ! $ move ! (1 ∷ []) $ fsplit ! $ move ! (3 ∷ 2 ∷ 0 ∷ 1 ∷ []) $
        closes_slice ! tt R ys zs e b o $ at_once ! $
        fjoin ! $ pure_i ! (mut_slice_at R (at_list γ zs) vals) (tt, (tt, tt))
        (ap (λ (m : ℕ). slice_val (b, o) m ∷ []) (sym e), subst (Room R) (sym e) room) $ fjoin ! $ done !

-- ---- for a call: the lifetime ν and the name δ are new
module _ {M : Type 1} {𝓤 : Ura M} (𝓛 : Logic 𝓤) (ℓ ℓ' : Lifetime) (R : RattleType)
    (κ : Lft) (q : Share) (b o : ℕ) (γ : GName) (ys : List R.Denot) where
  open 𝓛 use {H}

  abbrev pub Passed : ℕ → ℕ × GName → List (Item 𝓤)
  Passed m x = (‵ (flft (x.0 ∷ []) full_share) ⊛ ‵ ftrue)
      ∷ ‵ ((MutSlice ℓ' (x.0 ∷ []) R).own_val (at b o x.1 ys) (slice_val (b, o) m ∷ []))
      ∷ ‵ (LentAgain R κ (x.0 ∷ []) q γ b o x.1 ys) ∷ []

  abbrev own : GName → List R.Denot → ℕ → Item 𝓤
  own δ zs m = ‵ ((MutSlice ℓ κ R).own_val (at b o δ zs) (slice_val (b, o) m ∷ []))

  lends_all : ent 𝓤 (⋆ 𝓛 (own γ ys (length ys) ∷ ‵ (flft κ q) ∷ []))
      (H.⇛ (ex 𝓤 (λ (x : ℕ × GName). ⋆ 𝓛 (Passed (length ys) x))))
  lends_all = qed 𝓛 (own γ ys (length ys) ∷ ‵ (flft κ q) ∷ []) ∵ updating ! $ lft_new ! tt (λ ν. move ! (1 ∷ 2 ∷ []) $
      use2 𝓛 (later (some (λ (δ : GName).
      ‵ ((MutSlice ℓ' (ν ∷ []) R).own_val (at b o δ ys) (slice_val (b, o) (length ys) ∷ []))
      ⊛ ‵ (LentAgain R κ (ν ∷ []) q γ b o δ ys)))) (lends_again R κ (ν ∷ []) q γ b o 𝓛 ℓ ℓ' ys) $ await ! tt $
      pick ! (λ δ. split ! $ at_once ! $
      show ! (λ (x : ℕ × GName). ⋆ 𝓛 (Passed (length ys) x)) (ν, δ) $ nothing ! $ move ! (3 ∷ 0 ∷ []) $ join ! $
      done !))

  pub lends_on : (m : ℕ) → length ys ≡ m → ent 𝓤 (⋆ 𝓛 (own γ ys m ∷ ‵ (flft κ q) ∷ []))
      (H.⇛ (ex 𝓤 (λ (x : ℕ × GName). ⋆ 𝓛 (Passed m x))))
  lends_on m e = subst (λ (k : ℕ). ent 𝓤 (⋆ 𝓛 (own γ ys k ∷ ‵ (flft κ q) ∷ []))
      (H.⇛ (ex 𝓤 (λ (x : ℕ × GName). ⋆ 𝓛 (Passed k x))))) e lends_all

  -- once the callee has said the last list zs
  pub comes_home : (x : ℕ × GName) (zs : List R.Denot) (m : ℕ) → length ys ≡ m → Room R m → length zs ≡ length ys
      → ent 𝓤 (⋆ 𝓛 ((‵ (flft (x.0 ∷ []) full_share) ⊛ ‵ ftrue) ∷ ‵ (LentAgain R κ (x.0 ∷ []) q γ b o x.1 ys)
      ∷ ‵ (finally R x.1 zs) ∷ [])) (H.⇛ (⋆ 𝓛 (own γ zs m ∷ ‵ (flft κ q) ∷ [])))
  comes_home x zs m e room same =
      qed 𝓛 ((‵ (flft (x.0 ∷ []) full_share) ⊛ ‵ ftrue) ∷ ‵ (LentAgain R κ (x.0 ∷ []) q γ b o x.1 ys)
      ∷ ‵ (finally R x.1 zs) ∷ []) ∵ updating ! $ split ! $ lft_end ! tt $ move ! (0 ∷ 2 ∷ 3 ∷ []) $
      use3 𝓛 (later (own γ zs (length ys) ⊛ ‵ (flft κ q)))
      (comes_back R κ (x.0 ∷ []) q γ b o 𝓛 ℓ ℓ' ys x.1 zs (subst (Room R) (sym e) room) same) $ await ! tt $
      at_once ! $ split ! $ rewrite ! 0 (λ (k : ℕ). own γ zs k) e refl $ keep ! (0 ∷ 1 ∷ []) $ done !
