-- The statements of a walk whose context begins with the locals, `_i` at entry i: no position is written.
use Rattle.std.specs.Prelude.{◌≡◌, ℕ, ◌+◌, ◌<◌, ◌≤◌, true, false, List, [], ◌∷◌, T, ltb}
use Rattle.std.proofs.Common.{sym, ap, subst, lt-ltb, le-ltb}
use Rattle.std.proofs.Math.Option.{some}
use seplogic.Ra.Ura.{Ura}
use base.Fraction.{full_share}
use mir.Syntax.{Sym, Ty, Tys, ty_struct, field, Place, place, copy, Rv as RValue, Body, seq, assign}
use mir.Val.{Val, Vals, vbool, vstruct, WT, has_ty}
use mir.Fields.{get_v, set_v}
use base.Fml.{Share, fat, froom}
use prog.Memory.{field_at, field_of}
use prog.Wp.{next, Env, Calls, Loops, spot_of}
use types.Logic.{Logic}
use types.Kit.{Item, ‵, nth, put, Post, post, prop, runs, lands, settles, Seq, Step, step}
use types.Run.{Opd, Opds, Rv, look, store, init, stop, fld, from, load, and_then, no_more, assigns, assigns_last}
use types.Run.{land, land_last}
use types.Part.{Part, whole, sub, look_in}

module _ {M : Type 1} {𝓤 : Ura M} {𝓛 : Logic 𝓤} {K : Type 0} {Γ : List (Item 𝓤)}
    {E : Env 𝓤 𝓛.H} where
  -- a local is read
  open 𝓛 use {H}

  pub var : K → {i : ℕ} {q : Share} {v : Val}
      → nth 𝓛 i Γ ≡ ‵ (fat q (spot_of 𝓤 H E i).0 (spot_of 𝓤 H E i).1 (spot_of 𝓤 H E i).2 v)
      → Opd K 𝓛 Γ E (copy (place i [])) v
  var t {i} e = load t (from t (stop t)) (look t i e)

  -- one, two or three locals are passed to a callee
  pub args1 : K → {i : ℕ} {q : Share} {v : Val}
      → nth 𝓛 i Γ ≡ ‵ (fat q (spot_of 𝓤 H E i).0 (spot_of 𝓤 H E i).1 (spot_of 𝓤 H E i).2 v)
      → Opds K 𝓛 Γ E (copy (place i []) ∷ []) (v ∷ [])
  args1 t e = and_then t (var t e) (no_more t)

  pub args2 : K → {i j : ℕ} {q r : Share} {v w : Val}
      → nth 𝓛 i Γ ≡ ‵ (fat q (spot_of 𝓤 H E i).0 (spot_of 𝓤 H E i).1 (spot_of 𝓤 H E i).2 v)
      → nth 𝓛 j Γ ≡ ‵ (fat r (spot_of 𝓤 H E j).0 (spot_of 𝓤 H E j).1 (spot_of 𝓤 H E j).2 w)
      → Opds K 𝓛 Γ E (copy (place i []) ∷ copy (place j []) ∷ []) (v ∷ w ∷ [])
  args2 t e f = and_then t (var t e) (args1 t f)

  pub args3 : K → {i j k : ℕ} {q r s : Share} {v w x : Val}
      → nth 𝓛 i Γ ≡ ‵ (fat q (spot_of 𝓤 H E i).0 (spot_of 𝓤 H E i).1 (spot_of 𝓤 H E i).2 v)
      → nth 𝓛 j Γ ≡ ‵ (fat r (spot_of 𝓤 H E j).0 (spot_of 𝓤 H E j).1 (spot_of 𝓤 H E j).2 w)
      → nth 𝓛 k Γ ≡ ‵ (fat s (spot_of 𝓤 H E k).0 (spot_of 𝓤 H E k).1 (spot_of 𝓤 H E k).2 x)
      → Opds K 𝓛 Γ E (copy (place i []) ∷ copy (place j []) ∷ copy (place k []) ∷ []) (v ∷ w ∷ x ∷ [])
  args3 t e f g = and_then t (var t e) (args2 t f g)

  -- a field of a local is read
  pub field_of_lem : K → {i k d : ℕ} {q : Share} {ν : Sym} {τs : Tys} {vs : Vals} {τ : Ty}
      → nth 𝓛 i Γ ≡ ‵ (fat q (ty_struct ν τs) (spot_of 𝓤 H E i).1 (spot_of 𝓤 H E i).2 (vstruct vs))
      → field_of (spot_of 𝓤 H E i).0 k ≡ some (τ, d) → field_at 0 τs k ≡ some (τ, d)
      → Opd K 𝓛 Γ E (copy (place i (field k ∷ []))) (get_v vs k)
  field_of_lem t {i} {k} {d} {q} {ν} {τs} {vs} {τ} at_i in_type e =
      let b : ℕ = (spot_of 𝓤 H E i).1 in
      let o : ℕ = (spot_of 𝓤 H E i).2 in
      load t (from t (fld t in_type (stop t))) (look_in t i
      (subst (λ (j : Item 𝓤). Part K 𝓛 j q τ b (o + d) (get_v vs k) (λ u. ‵ (fat q (ty_struct ν τs) b o
      (vstruct (set_v vs k u))))) (sym at_i) (sub t k e (whole t))))

  -- the value of a right side, put another way: so a test that is known, and a number that is counted on
  pub equals : K → {rv : RValue} {v v' : Val} → v ≡ v' → Rv K 𝓛 Γ E rv v → Rv K 𝓛 Γ E rv v'
  equals t {rv} e r = subst (λ (u : Val). Rv K 𝓛 Γ E rv u) e r

  pub holds : K → {rv : RValue} {m n : ℕ} → m < n → Rv K 𝓛 Γ E rv (vbool (ltb m n)) → Rv K 𝓛 Γ E rv (vbool true)
  holds t {m = m} {n = n} l = equals t (ap vbool (lt-ltb m n l))

  pub fails : K → {rv : RValue} {m n : ℕ} → n ≤ m → Rv K 𝓛 Γ E rv (vbool (ltb m n)) → Rv K 𝓛 Γ E rv (vbool false)
  fails t {m = m} {n = n} l = equals t (ap vbool (le-ltb m n l))

  module _ {C : Calls 𝓤 H} {Λ : Loops 𝓤 H} {p : Post 𝓤 H} {rest : Body} {i : ℕ} {v : Val} where
    -- an empty local is given a value, and one that has a value another
    pub fills : K → {rv : RValue} → Rv K 𝓛 Γ E rv v
        → nth 𝓛 i Γ ≡ ‵ (froom (spot_of 𝓤 H E i).0 (spot_of 𝓤 H E i).1 (spot_of 𝓤 H E i).2)
        → T (has_ty (spot_of 𝓤 H E i).0 v) × WT v
        → Step K 𝓛 (put 𝓛 i (‵ (fat full_share (spot_of 𝓤 H E i).0 (spot_of 𝓤 H E i).1 (spot_of 𝓤 H E i).2 v)) Γ)
        (runs C Λ E rest p) Γ (runs C Λ E (seq (assign (place i []) rv) rest) p)
    fills t r e wt = assigns t r (from t (stop t)) (init t i e wt)

    pub sets : K → {rv : RValue} {v₀ : Val} → Rv K 𝓛 Γ E rv v
        → nth 𝓛 i Γ ≡ ‵ (fat full_share (spot_of 𝓤 H E i).0 (spot_of 𝓤 H E i).1 (spot_of 𝓤 H E i).2 v₀)
        → T (has_ty (spot_of 𝓤 H E i).0 v) × WT v
        → Step K 𝓛 (put 𝓛 i (‵ (fat full_share (spot_of 𝓤 H E i).0 (spot_of 𝓤 H E i).1 (spot_of 𝓤 H E i).2 v)) Γ)
        (runs C Λ E rest p) Γ (runs C Λ E (seq (assign (place i []) rv) rest) p)
    sets t r e wt = assigns t r (from t (stop t)) (store t i e wt)

    -- the same with what a call returned
    pub keeps : K → nth 𝓛 i Γ ≡ ‵ (froom (spot_of 𝓤 H E i).0 (spot_of 𝓤 H E i).1 (spot_of 𝓤 H E i).2)
        → T (has_ty (spot_of 𝓤 H E i).0 v) × WT v
        → Step K 𝓛 (put 𝓛 i (‵ (fat full_share (spot_of 𝓤 H E i).0 (spot_of 𝓤 H E i).1 (spot_of 𝓤 H E i).2 v)) Γ)
        (runs C Λ E rest p) Γ (lands C Λ E (place i []) v rest p)
    keeps t e wt = land t (from t (stop t)) (init t i e wt)

    pub keeps_over : K → {v₀ : Val}
        → nth 𝓛 i Γ ≡ ‵ (fat full_share (spot_of 𝓤 H E i).0 (spot_of 𝓤 H E i).1 (spot_of 𝓤 H E i).2 v₀)
        → T (has_ty (spot_of 𝓤 H E i).0 v) × WT v
        → Step K 𝓛 (put 𝓛 i (‵ (fat full_share (spot_of 𝓤 H E i).0 (spot_of 𝓤 H E i).1 (spot_of 𝓤 H E i).2 v)) Γ)
        (runs C Λ E rest p) Γ (lands C Λ E (place i []) v rest p)
    keeps_over t e wt = land t (from t (stop t)) (store t i e wt)

  -- the same as the last statement of a turn
  module _ {p : Post 𝓤 H} {i : ℕ} {v v₀ : Val} where
    pub sets_last : K → {C : Calls 𝓤 H} {Λ : Loops 𝓤 H} {rv : RValue} → Rv K 𝓛 Γ E rv v
        → nth 𝓛 i Γ ≡ ‵ (fat full_share (spot_of 𝓤 H E i).0 (spot_of 𝓤 H E i).1 (spot_of 𝓤 H E i).2 v₀)
        → T (has_ty (spot_of 𝓤 H E i).0 v) × WT v
        → Step K 𝓛 (put 𝓛 i (‵ (fat full_share (spot_of 𝓤 H E i).0 (spot_of 𝓤 H E i).1 (spot_of 𝓤 H E i).2 v)) Γ)
        (prop (post 𝓤 H p next)) Γ (runs C Λ E (assign (place i []) rv) p)
    sets_last t r e wt = assigns_last t r (from t (stop t)) (store t i e wt)

    pub keeps_last : K
        → nth 𝓛 i Γ ≡ ‵ (fat full_share (spot_of 𝓤 H E i).0 (spot_of 𝓤 H E i).1 (spot_of 𝓤 H E i).2 v₀)
        → T (has_ty (spot_of 𝓤 H E i).0 v) × WT v
        → Step K 𝓛 (put 𝓛 i (‵ (fat full_share (spot_of 𝓤 H E i).0 (spot_of 𝓤 H E i).1 (spot_of 𝓤 H E i).2 v)) Γ)
        (prop (post 𝓤 H p next)) Γ (settles E (place i []) v p)
    keeps_last t e wt = land_last t (from t (stop t)) (store t i e wt)

  -- what a call returned, put another way
  pub lands_as : K → {C : Calls 𝓤 H} {Λ : Loops 𝓤 H} {p : Post 𝓤 H} {rest : Body} {d : Place} {v v' : Val} → v ≡ v'
      → Step K 𝓛 Γ (lands C Λ E d v' rest p) Γ (lands C Λ E d v rest p)
  lands_as t {C} {Λ} {p} {rest} {d} e = step (λ s.
      subst (λ (u : Val). Seq K 𝓛 Γ (lands C Λ E d u rest p)) (sym e) s)

  pub settles_as : K → {p : Post 𝓤 H} {d : Place} {v v' : Val} → v ≡ v'
      → Step K 𝓛 Γ (settles E d v' p) Γ (settles E d v p)
  settles_as t {p} {d} e = step (λ s. subst (λ (u : Val). Seq K 𝓛 Γ (settles E d u p)) (sym e) s)
