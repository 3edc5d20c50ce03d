-- A lent slice in a walk. A `&mut [T]` is opened once, and its row of elements is then the function's own; it is closed
-- at the row as it has become. A `&[T]` is looked into and shut, and a copy of it goes to each callee.
use Rattle.std.specs.Prelude.{◌≡◌, ℕ, List, [], ◌∷◌, length}
use Rattle.std.proofs.Common.{sym, ap, subst}
use seplogic.Ra.Ura.{Ura}
use base.Fraction.{full_share}
use mir.Syntax.{Lifetime}
use mir.Val.{Val}
use base.Logic.{SProp, ent, sep, ex, emp, via, id⊢, mono_r, fst∗, snd∗}
use base.Fml.{Lft, Share, GName, Fml, ftrue, feq, fsep, flft, fobs, fauth, fobor}
use contract.Monad.{fact}
use types.Logic.{Logic, sem}
use types.Kit.{Item, ‵, raw, ◌⊛◌, mean, ⋆, ◌$◌, ◌∵◌, !, qed, move, keep, use0, use1, split, join, fsplit}
use types.Kit.{fjoin, frame, updating, now as at_once, show, done}
use denote.RattleType.{RattleType, RowLaws, Denots, Valss, owns}
use denote.Shadow.{pure_l, pure_i}
use denote.Laws.{Ises, Are, Makess, owns_make}
use Rattle.std.specs.Borrow.{Bor, MutBor}
use denote.Slice.{slice_val, MutSlice, ShrSlice, Room, finally, heres, coded_holeys, shr_slice_at, mut_slice_at, shr_slice_copy}
use denote.Lend.{Held}
use denote.Opens.{Shut}
use denote.Copied.{Copied}
use denote.Index.{row, opens_slice, closes_slice, looks_slice, shuts_slice}

-- a reference to the list xs at (b, o), under the name γ
abbrev pub at : {X : Type 0} → ℕ → ℕ → GName → List X → MutBor (List X)
at b o γ xs = record { ref_ptr = (b, o); ghost_name = γ; now = xs }

-- a `&` to it, which has no name
abbrev pub at_shared : {X : Type 0} → ℕ → ℕ → List X → Bor (List X)
at_shared b o xs = record { ref_ptr = (b, o); now = xs }

module _ {M : Type 1} {𝓤 : Ura M} where
  -- what is had of a `&mut [T]` while it is open, beside the row
  abbrev pub opened : (R : RattleType) → Lft → Share → ℕ → ℕ → GName → List R.Denot → Item 𝓤
  opened R κ q b o γ xs = ‵ (fobor κ q (Held R (length xs) b o γ))
      ⊛ (‵ (fobs γ ((coded_holeys R).code (heres R xs))) ⊛ ‵ (fauth γ ((coded_holeys R).code (heres R xs))))

module _ {M : Type 1} {𝓤 : Ura M} (𝓛 : Logic 𝓤) (ℓ : Lifetime) (κ : Lft) (q : Share)
    (R : RattleType) (b o : ℕ) (γ : GName) (xs : List R.Denot) where
  -- it is opened, which takes the lifetime's token
  open 𝓛 use {H}

  pub opens : ent 𝓤 (⋆ 𝓛 (‵ ((MutSlice ℓ κ R).own_val (at b o γ xs) (slice_val (b, o) (length xs) ∷ [])) ∷ ‵ (flft κ q)
      ∷ [])) (H.⇛ (⋆ 𝓛 (opened R κ q b o γ xs ∷ ‵ (row R full_share xs b o) ∷ [])))
  opens = qed 𝓛 (‵ ((MutSlice ℓ κ R).own_val (at b o γ xs) (slice_val (b, o) (length xs) ∷ [])) ∷ ‵ (flft κ q) ∷ []) ∵
      updating ! $ fsplit ! $ pure_l ! (mut_slice_at R (at b o γ xs) (slice_val (b, o) (length xs) ∷ [])) (λ _. fsplit ! $
      opens_slice ! tt R xs b o $ at_once ! $ move ! (2 ∷ 3 ∷ []) $ join ! $ move ! (2 ∷ 0 ∷ []) $ join ! $ done !)

  -- and closed at ys, as many as they were, which gives the token back
  pub closes : (ys : List R.Denot) → length ys ≡ length xs → Room R (length xs)
      → ent 𝓤 (⋆ 𝓛 (opened R κ q b o γ xs ∷ ‵ (row R full_share ys b o) ∷ []))
      (H.⇛ (⋆ 𝓛 (‵ ((MutSlice ℓ κ R).own_val (at b o γ ys) (slice_val (b, o) (length xs) ∷ [])) ∷ ‵ (flft κ q) ∷ [])))
  closes ys e room = qed 𝓛 (opened R κ q b o γ xs ∷ ‵ (row R full_share ys b o) ∷ []) ∵
      updating ! $ split ! $ move ! (1 ∷ []) $ split ! $ move ! (3 ∷ 2 ∷ 0 ∷ 1 ∷ []) $
      closes_slice ! tt R xs ys e b o $ at_once ! $ fjoin ! $
      pure_i ! (mut_slice_at R (at b o γ ys) (slice_val (b, o) (length xs) ∷ [])) (tt, (tt, tt))
      (ap (λ (m : ℕ). slice_val (b, o) m ∷ []) (sym e), subst (Room R) (sym e) room) $ fjoin ! $ done !

-- ---- a `&[T]`
module _ {M : Type 1} {𝓤 : Ura M} (𝓛 : Logic 𝓤) (ℓ : Lifetime) (κ : Lft) (q : Share)
    (R : RattleType) (x : Bor (List R.Denot)) (s : Val) where
  open 𝓛 use {A}

  abbrev pub Lent : Item 𝓤
  Lent = ‵ ((ShrSlice ℓ κ R).own_val x (s ∷ []))

  -- a callee is passed a copy of it, and plain data after it, and is required what `asks` shows. `laws` are those of
  -- R's row, which its record doesn't hold
  pub shared : RowLaws R → (Rs : List RattleType) → Makess 𝓛 Rs (Ises Rs) → (a : Denots Rs) (vss : Valss Rs)
      → Are Rs (Ises Rs) a vss → {P : SProp 𝓤} → ent 𝓤 (emp 𝓤) P
      → ent 𝓤 (⋆ 𝓛 (Lent ∷ ‵ (flft κ q) ∷ []))
      (sep 𝓤 (sep 𝓤 (sep 𝓤 (sep 𝓤 (A.lft κ q) (emp 𝓤))
      (sem 𝓛 (owns (ShrSlice ℓ κ R ∷ Rs) (x, a) (s ∷ [], vss)))) P) (⋆ 𝓛 (Lent ∷ [])))
  shared laws Rs mk a vss are {P} asks = qed 𝓛 (Lent ∷ ‵ (flft κ q) ∷ []) ∵
      use1 𝓛 (Lent ⊛ Lent) ((shr_slice_copy 𝓛 ℓ κ R laws).twice x (s ∷ [])) $ split ! $
      use0 𝓛 (‵ (owns Rs a vss)) (owns_make 𝓛 Rs (Ises Rs) mk a vss are) $ move ! (1 ∷ 0 ∷ []) $ fjoin ! $
      use0 𝓛 (raw P) asks $ use0 𝓛 (raw (emp 𝓤)) (id⊢ 𝓤 (emp 𝓤)) $
      move ! (4 ∷ 0 ∷ []) $ join ! $ move ! (0 ∷ 2 ∷ []) $ join ! $ move ! (0 ∷ 1 ∷ []) $ join ! $ frame ! $ done !

module _ {M : Type 1} {𝓤 : Ura M} (𝓛 : Logic 𝓤) (ℓ : Lifetime) (κ : Lft) (q : Share)
    (R : RattleType) (x : MutBor (List R.Denot)) (s : Val) where
  open 𝓛 use {A}

  -- a callee is passed a `&mut [T]` at the lifetime κ, and plain data after it
  pub given_over : (Rs : List RattleType) → Makess 𝓛 Rs (Ises Rs) → (a : Denots Rs) (vss : Valss Rs)
      → Are Rs (Ises Rs) a vss → {P : SProp 𝓤} → ent 𝓤 (emp 𝓤) P
      → ent 𝓤 (⋆ 𝓛 ((‵ (flft κ q) ⊛ ‵ ftrue) ∷ ‵ ((MutSlice ℓ κ R).own_val x (s ∷ [])) ∷ []))
      (sep 𝓤 (sep 𝓤 (sep 𝓤 (sep 𝓤 (A.lft κ q) (emp 𝓤))
      (sem 𝓛 (owns (MutSlice ℓ κ R ∷ Rs) (x, a) (s ∷ [], vss)))) P) (emp 𝓤))
  given_over Rs mk a vss are {P} asks =
      qed 𝓛 ((‵ (flft κ q) ⊛ ‵ ftrue) ∷ ‵ ((MutSlice ℓ κ R).own_val x (s ∷ [])) ∷ []) ∵
      use0 𝓛 (‵ (owns Rs a vss)) (owns_make 𝓛 Rs (Ises Rs) mk a vss are) $ move ! (2 ∷ 0 ∷ []) $ fjoin ! $
      move ! (1 ∷ 0 ∷ []) $ join ! $ use0 𝓛 (raw P) asks $ move ! (1 ∷ 0 ∷ []) $ join ! $
      use0 𝓛 (raw (emp 𝓤)) (id⊢ 𝓤 (emp 𝓤)) $ move ! (1 ∷ 0 ∷ []) $ done !

-- a `&[T]` is looked into, which takes the lifetime's token: some share of its row is had, and what shuts it again
module _ {M : Type 1} {𝓤 : Ura M} (𝓛 : Logic 𝓤) (ℓ : Lifetime) (κ : Lft) (q : Share)
    {R : RattleType} (laws : RowLaws R) (copied : Copied 𝓛 R) (b o : ℕ) (xs : List R.Denot) where
  open 𝓛 use {H}

  abbrev pub looked : Share → Item 𝓤
  looked q' = Shut 𝓛 κ q (row R q' xs b o)

  abbrev slice : Item 𝓤
  slice = Lent 𝓛 ℓ κ q R (at_shared b o xs) (slice_val (b, o) (length xs))

  abbrev pub Looked : Share → List (Item 𝓤)
  Looked q' = looked q' ∷ slice ∷ ‵ (row R q' xs b o) ∷ []

  pub looks : ent 𝓤 (⋆ 𝓛 (slice ∷ ‵ (flft κ q) ∷ [])) (H.⇛ (ex 𝓤 (λ (q' : Share). ⋆ 𝓛 (Looked q'))))
  looks = qed 𝓛 (slice ∷ ‵ (flft κ q) ∷ []) ∵ updating ! $
      use1 𝓛 (slice ⊛ slice) ((shr_slice_copy 𝓛 ℓ κ R laws).twice (at_shared b o xs) (slice_val (b, o) (length xs) ∷ [])) $
      split ! $ fsplit ! $ pure_l ! (shr_slice_at R (at_shared b o xs) (slice_val (b, o) (length xs) ∷ [])) (λ _.
      move ! (0 ∷ 2 ∷ []) $ looks_slice ! tt R copied xs b o (λ q'.
      at_once ! $ show ! (λ (s : Share). ⋆ 𝓛 (Looked s)) q' $ keep ! (1 ∷ 3 ∷ 0 ∷ []) $ done !))

  pub shuts : (q' : Share) → ent 𝓤 (⋆ 𝓛 (looked q' ∷ ‵ (row R q' xs b o) ∷ [])) (H.⇛ (⋆ 𝓛 (‵ (flft κ q) ∷ [])))
  shuts q' = qed 𝓛 (looked q' ∷ ‵ (row R q' xs b o) ∷ []) ∵ updating ! $ move ! (1 ∷ 0 ∷ []) $
      shuts_slice ! tt R q' xs b o $ at_once ! $ done !

-- ---- what a callee says of a `&mut [T]` that it was passed for good: its last list w, as long as it was, n. Ps stand
-- before it in what is said of the parameters, and Q after it
module _ {M : Type 1} {𝓤 : Ura M} (𝓛 : Logic 𝓤) (R : RattleType) (γ : GName) (w : List R.Denot) (n : ℕ)
  where
    abbrev pub lastly : List Fml → Fml → Fml
    lastly [] Q = fsep (fsep (finally R γ w) (feq ℕ (length w) n)) Q
    lastly (P ∷ Ps) Q = fsep P (lastly Ps Q)

    abbrev Both : SProp 𝓤
    Both = sep 𝓤 (sem 𝓛 (finally R γ w)) (sem 𝓛 (feq ℕ (length w) n))

    said : (Ps : List Fml) (Q : Fml) → ent 𝓤 (sem 𝓛 (lastly Ps Q)) Both
    said [] Q = fst∗ 𝓤 Both (sem 𝓛 Q)
    said (P ∷ Ps) Q = via 𝓤 (sem 𝓛 (lastly Ps Q)) (snd∗ 𝓤 (sem 𝓛 P) (sem 𝓛 (lastly Ps Q))) (said Ps Q)

    pub last_long : (Ps : List Fml) (Q : Fml) → ent 𝓤 (sem 𝓛 (lastly Ps Q)) (fact 𝓤 (length w ≡ n))
    last_long Ps Q = via 𝓤 Both (said Ps Q)
        (snd∗ 𝓤 (sem 𝓛 (finally R γ w)) (sem 𝓛 (feq ℕ (length w) n)))

    pub last_list : (Ps : List Fml) (Q : Fml) (i : Item 𝓤)
        → ent 𝓤 (sep 𝓤 (mean 𝓛 i) (sem 𝓛 (lastly Ps Q))) (⋆ 𝓛 (i ∷ ‵ (finally R γ w) ∷ []))
    last_list Ps Q i = mono_r 𝓤 (mean 𝓛 i) (via 𝓤 Both (said Ps Q)
        (fst∗ 𝓤 (sem 𝓛 (finally R γ w)) (sem 𝓛 (feq ℕ (length w) n))))
