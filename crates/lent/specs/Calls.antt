-- A call in a walk: the operands are read in the context as it stands, what the callee asks is taken out of it, and
-- what the callee tells is heard. Of the result the relation is kept, which makes anew what plain data owns.
use Rattle.std.specs.Prelude.{◌≡◌, ℕ, List, [], ◌∷◌, ◌++◌}
use Rattle.std.proofs.Common.{sym, ap, subst}
use seplogic.Ra.Ura.{Ura}
use mir.Syntax.{Callee as Called, Place, Opd as Operand, Body, seq, call}
use mir.Val.{Val}
use base.Logic.{SProp, ent, sep, emp, via, id⊢, assoc∗, mono_l, fst∗}
use prog.Wp.{Env, Calls, Loops, eval_opds}
use types.Logic.{Logic, sem}
use contract.Conj.{top}
use sound.WpLaws.{FmC}
use types.Kit.{Item, ‵, raw, ◌⊛◌, some, given, later, learn, ⋆, ++⊢, Post, Goal, runs, lands, settles, Soaks}
use types.Kit.{aim, Seq, ◌$◌, ◌∵◌, !, qed, use1, use2, await, pick, split, move, done}
use types.Run.{Opds}
use Rattle.std.specs.Borrow.{RattleType}
use denote.Laws.{Is, Ises, Are, Makess, shows, owns_make}
use denote.Steps.{only as one, facts}
use denote.Triple.Statement.{Triple}
use denote.Triple.Entry.{alive}
use denote.Triple.Bound.{passed}
use denote.Triple.Clauses.{Ended, Clauses, at_exit, lasts, ensured}
use Rattle.lent.specs.Contexts.{taken, others, relative, apart}
use Rattle.lent.specs.Callees.{tokens, each_token, Spelt, learnt, made, Callee, Answer, Left, Row, Passes, Tells}
use Rattle.lent.specs.Callees.{Ensures, by_ensures, GivesBack}

module _ {M : Type 1} {𝓤 : Ura M} {𝓛 : Logic 𝓤} {K : Type 0} {Γ : List (Item 𝓤)}
    {E : Env 𝓤 𝓛.H} {C : Calls 𝓤 𝓛.H} {f : Called} {xs : List Operand} where
  -- the rule itself: the entries at π become what the callee asks, and `kept`; `after v` runs once it has returned v
  open 𝓛 use {H}

  module _ (t : K) (fm : FmC 𝓤 H 𝓛.laws C) (T : Ended) (c : Clauses 𝓤 T) (known : Triple 𝓤 (C f) (Callee 𝓛 T c))
      (y : (Callee 𝓛 T c).Ghost) (os : Opds K 𝓛 Γ E xs (passed 𝓛 T.signature y.0)) (π : List ℕ)
      (kept : List (Item 𝓤))
      (goes : ent 𝓤 (⋆ 𝓛 (taken 𝓛 π Γ)) (sep 𝓤 ((Callee 𝓛 T c).pre y) (⋆ 𝓛 kept)))
      (Φ : Answer 𝓛 T c y → Left 𝓛 T c y → Type 0) (told : Tells 𝓛 T c y Φ)
      (back : Left 𝓛 T c y → List (Item 𝓤)) (backs : GivesBack 𝓛 T c y back)
      (spelt : Spelt (Row 𝓛 T c y)) (after : Val → Goal 𝓤 H) (soaks : (v : Val) → Soaks (after v))
      (k : (r : Answer 𝓛 T c y) (ws : Left 𝓛 T c y) → Φ r ws → Is (Row 𝓛 T c y) r (spelt.val r ∷ [])
      → Seq K 𝓛 (others 𝓛 π Γ ++ (kept ++ back ws)) (after (spelt.val r))) where
    abbrev R : RattleType
    R = Row 𝓛 T c y

    returned : (v : Val) → Seq K 𝓛 (raw ((Callee 𝓛 T c).post y v)
        ∷ raw (⋆ 𝓛 kept) ∷ raw (⋆ 𝓛 (others 𝓛 π Γ)) ∷ []) (after v)
    returned v =
        use1 𝓛 (later (some (λ (r : R.Denot). (raw (alive 𝓛 T.signature y.0.0 y.0.1)
        ⊛ ‵ (R.own_val r (v ∷ []))) ⊛ raw (ensured 𝓛 T c y.0.0 y.0.3 y.1 r)))) (id⊢ 𝓤 _) $
        await t (soaks v) $ pick t (λ r. split t $ move t (1 ∷ []) $
        use1 𝓛 (some (λ (ws : Left 𝓛 T c y). ‵ (lasts T y.0.0 y.0.3 ws)
        ⊛ raw ((c y.0.0 y.0.3).ensures y.1 r (at_exit T y.0.0 y.0.3 ws)))) (id⊢ 𝓤 _) $
        pick t (λ ws. split t $
        use2 𝓛 (given (Φ r ws) (‵ (lasts T y.0.0 y.0.3 ws)))
        (learnt 𝓤 (sem 𝓛 (lasts T y.0.0 y.0.3 ws))
        ((c y.0.0 y.0.3).ensures y.1 r (at_exit T y.0.0 y.0.3 ws)) (Φ r ws) (told r ws)) $
        learn t (λ φ. move t (1 ∷ []) $ split t $ move t (1 ∷ []) $
        facts t R (Is R) (shows 𝓛 R) r (v ∷ []) (λ is.
        let is_val : v ∷ [] ≡ spelt.val r ∷ [] = spelt.tells r (v ∷ []) is in
        let then : Seq K 𝓛 (others 𝓛 π Γ ++ (kept ++ back ws)) (after v) = subst
        (λ (u : Val). Seq K 𝓛 (others 𝓛 π Γ ++ (kept ++ back ws)) (after u)) (sym (ap one is_val))
        (k r ws φ (subst (Is R r) is_val is)) in
        use2 𝓛 (raw (⋆ 𝓛 (back ws))) (backs ws) $ record {
          prf = via 𝓤 (⋆ 𝓛 (others 𝓛 π Γ ++ (kept ++ back ws)))
              (qed 𝓛 (raw (⋆ 𝓛 (back ws)) ∷ raw (⋆ 𝓛 kept) ∷ raw (⋆ 𝓛 (others 𝓛 π Γ)) ∷ []) ∵
              move ! (1 ∷ 0 ∷ []) $ use2 𝓛 (raw (⋆ 𝓛 (kept ++ back ws))) (++⊢ 𝓛 kept (back ws)) $
              move ! (1 ∷ 0 ∷ []) $ use2 𝓛 (raw (⋆ 𝓛 (others 𝓛 π Γ ++ (kept ++ back ws))))
              (++⊢ 𝓛 (others 𝓛 π Γ) (kept ++ back ws)) $ done !)
              then.prf;
        }))))

    called : ent 𝓤 (⋆ 𝓛 Γ) (H.⇛ (eval_opds 𝓤 H E xs (λ us. C f us (λ r. aim 𝓤 H (after r)))))
    called =
        let P : SProp 𝓤 = (Callee 𝓛 T c).pre y in
        let Q : Val → SProp 𝓤 = (Callee 𝓛 T c).post y in
        let S : SProp 𝓤 = ⋆ 𝓛 kept in
        let O : SProp 𝓤 = ⋆ 𝓛 (others 𝓛 π Γ) in
        let vs : List Val = passed 𝓛 T.signature y.0 in
        via 𝓤 (eval_opds 𝓤 H E xs (λ us. C f us (λ r. aim 𝓤 H (after r))))
        (os.go (λ us. C f us (λ r. aim 𝓤 H (after r)))
        (via 𝓤 (sep 𝓤 (⋆ 𝓛 (taken 𝓛 π Γ)) O) (apart 𝓛 (relative [] π) Γ)
        (via 𝓤 (sep 𝓤 (sep 𝓤 P S) O) (mono_l 𝓤 O goes)
        (via 𝓤 (sep 𝓤 P (sep 𝓤 S O)) (assoc∗ 𝓤 P S O)
        (via 𝓤 (sep 𝓤 (C f vs Q) (sep 𝓤 S O)) (mono_l 𝓤 (sep 𝓤 S O) (known y))
        (fm f vs Q (λ r. aim 𝓤 H (after r)) (sep 𝓤 S O) (λ v. (returned v).prf)))))))
        (𝓛.laws.⇛_intro _)

  -- a call, and then the rest
  pub calls_with : K → FmC 𝓤 H 𝓛.laws C → {Λ : Loops 𝓤 H} {q : Post 𝓤 H} {d : Place} {rest : Body} (T : Ended)
      (c : Clauses 𝓤 T) → Triple 𝓤 (C f) (Callee 𝓛 T c) → (y : (Callee 𝓛 T c).Ghost)
      → Opds K 𝓛 Γ E xs (passed 𝓛 T.signature y.0) → (π : List ℕ) (kept : List (Item 𝓤))
      → ent 𝓤 (⋆ 𝓛 (taken 𝓛 π Γ)) (sep 𝓤 ((Callee 𝓛 T c).pre y) (⋆ 𝓛 kept))
      → (Φ : Answer 𝓛 T c y → Left 𝓛 T c y → Type 0) → Tells 𝓛 T c y Φ
      → (back : Left 𝓛 T c y → List (Item 𝓤)) → GivesBack 𝓛 T c y back
      → (spelt : Spelt (Row 𝓛 T c y))
      → ((r : Answer 𝓛 T c y) (ws : Left 𝓛 T c y) → Φ r ws → Is (Row 𝓛 T c y) r (spelt.val r ∷ [])
      → Seq K 𝓛 (others 𝓛 π Γ ++ (kept ++ back ws)) (lands C Λ E d (spelt.val r) rest q))
      → Seq K 𝓛 Γ (runs C Λ E (seq (call f xs d) rest) q)
  calls_with t fm {Λ} {q} {d} {rest} T c known y os π kept goes Φ told back backs spelt k = record {
    prf = called t fm T c known y os π kept goes Φ told back backs spelt (λ v. lands C Λ E d v rest q) (λ v. tt) k;
  }

  -- the same of a call that ends a turn
  pub calls_with_last : K → FmC 𝓤 H 𝓛.laws C → {Λ : Loops 𝓤 H} {q : Post 𝓤 H} {d : Place} (T : Ended)
      (c : Clauses 𝓤 T) → Triple 𝓤 (C f) (Callee 𝓛 T c) → (y : (Callee 𝓛 T c).Ghost)
      → Opds K 𝓛 Γ E xs (passed 𝓛 T.signature y.0) → (π : List ℕ) (kept : List (Item 𝓤))
      → ent 𝓤 (⋆ 𝓛 (taken 𝓛 π Γ)) (sep 𝓤 ((Callee 𝓛 T c).pre y) (⋆ 𝓛 kept))
      → (Φ : Answer 𝓛 T c y → Left 𝓛 T c y → Type 0) → Tells 𝓛 T c y Φ
      → (back : Left 𝓛 T c y → List (Item 𝓤)) → GivesBack 𝓛 T c y back
      → (spelt : Spelt (Row 𝓛 T c y))
      → ((r : Answer 𝓛 T c y) (ws : Left 𝓛 T c y) → Φ r ws → Is (Row 𝓛 T c y) r (spelt.val r ∷ [])
      → Seq K 𝓛 (others 𝓛 π Γ ++ (kept ++ back ws)) (settles E d (spelt.val r) q))
      → Seq K 𝓛 Γ (runs C Λ E (call f xs d) q)
  calls_with_last t fm {Λ} {q} {d} T c known y os π kept goes Φ told back backs spelt k = record {
    prf = called t fm T c known y os π kept goes Φ told back backs spelt (λ v. settles E d v q) (λ v. tt) k;
  }

  -- a callee that leaves nothing in lent memory: the tokens come back
  pub calls_lent : K → FmC 𝓤 H 𝓛.laws C → {Λ : Loops 𝓤 H} {q : Post 𝓤 H} {d : Place} {rest : Body} (T : Ended)
      (c : Clauses 𝓤 T) → Triple 𝓤 (C f) (Callee 𝓛 T c) → (y : (Callee 𝓛 T c).Ghost)
      → Opds K 𝓛 Γ E xs (passed 𝓛 T.signature y.0) → (π : List ℕ) (kept : List (Item 𝓤))
      → ent 𝓤 (⋆ 𝓛 (taken 𝓛 π Γ)) (sep 𝓤 ((Callee 𝓛 T c).pre y) (⋆ 𝓛 kept))
      → (Φ : Answer 𝓛 T c y → Type 0) → Ensures 𝓛 T c y Φ
      → (spelt : Spelt (Row 𝓛 T c y))
      → ((r : Answer 𝓛 T c y) → Φ r → Is (Row 𝓛 T c y) r (spelt.val r ∷ [])
      → Seq K 𝓛 (others 𝓛 π Γ ++ (kept ++ tokens 𝓛 T.signature.lifetimes y.0.0 y.0.1))
      (lands C Λ E d (spelt.val r) rest q))
      → Seq K 𝓛 Γ (runs C Λ E (seq (call f xs d) rest) q)
  calls_lent t fm T c known y os π kept goes Φ told spelt k =
      calls_with t fm T c known y os π kept goes (λ r ws. Φ r) (by_ensures 𝓛 T c y Φ told)
      (λ ws. tokens 𝓛 T.signature.lifetimes y.0.0 y.0.1)
      (λ ws. via 𝓤 (alive 𝓛 T.signature y.0.0 y.0.1)
      (fst∗ 𝓤 (alive 𝓛 T.signature y.0.0 y.0.1) (sem 𝓛 (lasts T y.0.0 y.0.3 ws)))
      (each_token 𝓛 T.signature.lifetimes y.0.0 y.0.1))
      spelt (λ r ws φ is. k r φ is)

  -- a callee that is passed plain data alone: nothing is taken, and nothing comes back but the result
  pub calls_plain : K → FmC 𝓤 H 𝓛.laws C → {Λ : Loops 𝓤 H} {q : Post 𝓤 H} {d : Place} {rest : Body} (T : Ended)
      (c : Clauses 𝓤 T) → Triple 𝓤 (C f) (Callee 𝓛 T c) → (y : (Callee 𝓛 T c).Ghost)
      → Opds K 𝓛 Γ E xs (passed 𝓛 T.signature y.0)
      → ent 𝓤 (emp 𝓤) (alive 𝓛 T.signature y.0.0 y.0.1)
      → Makess 𝓛 (Passes 𝓛 T c y) (Ises (Passes 𝓛 T c y))
      → Are (Passes 𝓛 T c y) (Ises (Passes 𝓛 T c y)) y.0.3 y.0.4
      → ent 𝓤 (emp 𝓤) ((c y.0.0 y.0.3).requires y.1)
      → (Φ : Answer 𝓛 T c y → Type 0) → Ensures 𝓛 T c y Φ
      → (spelt : Spelt (Row 𝓛 T c y))
      → ((r : Answer 𝓛 T c y) → Φ r → Is (Row 𝓛 T c y) r (spelt.val r ∷ [])
      → Seq K 𝓛 (Γ ++ []) (lands C Λ E d (spelt.val r) rest q))
      → Seq K 𝓛 Γ (runs C Λ E (seq (call f xs d) rest) q)
  calls_plain t fm T c known y os lives mk are asks Φ told spelt k =
      calls_with t fm T c known y os [] []
      (made 𝓤 lives (owns_make 𝓛 (Passes 𝓛 T c y) (Ises (Passes 𝓛 T c y)) mk y.0.3 y.0.4 are) asks)
      (λ r ws. Φ r) (by_ensures 𝓛 T c y Φ told) (λ ws. []) (λ ws. top 𝓤 _) spelt (λ r ws φ is. k r φ is)
