-- What a walk over a row needs of lists: ps are done, and the element after them is replaced.
use Rattle.std.specs.Prelude.{◌≡◌, List, [], ◌∷◌, ◌++◌, ℕ, suc, ◌+◌, ◌<◌, length, get_or, set, drop}
use Rattle.std.proofs.Common.{sym, ◌∙◌, ap, append_assoc, arith, length-append, length-drop, drop-cons}
use mathlib.Core.WellFounded.InvImage
use mathlib.Core.WellFounded.{WellFounded}
use Rattle.std.proofs.Math.Seq.{set-append_seam}
use lib.WfN.{lt-wf_rel}

-- one more is done
pub snoc_length : {X : Type 0} (ps : List X) (y : X) → length ps + 1 ≡ length (ps ++ (y ∷ []))
snoc_length ps y = simp length-append (omega arith)

pub mid_within : {X : Type 0} (z : X) (zs ps : List X) → length ps < length (ps ++ (z ∷ zs))
mid_within z zs ps = simp length-append (omega arith)

-- the first of what is left of xs is replaced
pub set_next : {X : Type 0} (xs ps : List X) (y : X) → length ps < length xs
    → set (ps ++ drop (length ps) xs) (length ps) y ≡ (ps ++ (y ∷ [])) ++ drop (length (ps ++ (y ∷ []))) xs
set_next {X} xs ps y l =
    let more : suc (length ps) ≡ length (ps ++ (y ∷ [])) = omega (arith, snoc_length ps y) in
    ap (λ (r : List X). set (ps ++ r) (length ps) y) (drop-cons xs (length ps) y l)
    ∙ set-append_seam ps (get_or xs (length ps) y) (drop (suc (length ps)) xs) y
    ∙ sym (append_assoc ps (y ∷ []) (drop (suc (length ps)) xs))
    ∙ ap (λ (k : ℕ). (ps ++ (y ∷ [])) ++ drop k xs) more

pub row_within : {X : Type 0} (xs ps : List X) → length ps < length xs → length ps < length (ps ++ drop (length ps) xs)
row_within xs ps l = simp (length-append, length-drop) (omega arith)

-- ---- the order of a loop that ends because fewer are left at each turn
module _ {S X : Type 0} (left : S → List X) where
  abbrev pub Nearer : S → S → Type 0
  Nearer u v = length (left u) < length (left v)

  pub nearer_ends : WellFounded Nearer
  nearer_ends = InvImage.wf (λ (u : S). length (left u)) lt-wf_rel.wf
