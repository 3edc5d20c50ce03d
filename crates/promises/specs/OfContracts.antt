-- What a contract asks and tells, what it is that no second answer fits it, and that the forms of contract used here
-- have it.
-- A contract is the `clauses` of a function: its `requires` and `ensures` as they stand in the source.
use Rattle.std.specs.Prelude.{◌≡◌, refl, List}
use Rattle.std.proofs.Common.{sym, ◌∙◌, ap}
use Rattle.arrayvec.specs.ArrayVec.{ArrayVec}
use Rattle.std.specs.Borrow.{Bor}
use seplogic.Ra.Ura.{Ura}
use base.Logic.{SProp, ent, sep, emp, via, id⊢, fst∗, snd∗, emp∗, mono_l, both⊢}
use contract.Monad.{conj, conj_l, conj_r, fact, fact_i, fact_mono, fact_use}
use contract.Lifetimes.{Lfts}
use denote.Triple.Entry.{Args, Res}
use denote.Triple.Clauses.{Ended, AtExit, Clauses}

module _ {M : Type 1} (𝓤 : Ura M) (T : Ended) (contract : Clauses 𝓤 T) where
  -- whatever is passed, nothing is required
  abbrev pub AsksNothing : Type 2
  AsksNothing = (κs : Lfts T.signature.lifetimes) (passed : Args T.signature κs)
      (g : (contract κs passed).ghost)
      → (contract κs passed).requires g ≡ emp 𝓤

  -- whatever is passed, the `ensures` tells this of it, of the result and of the parameters at exit
  abbrev pub Tells : ((κs : Lfts T.signature.lifetimes) → Args T.signature κs → Res T.signature κs
      → AtExit T κs → Type 0) → Type 1
  Tells claim = (κs : Lfts T.signature.lifetimes) (passed : Args T.signature κs)
      (g : (contract κs passed).ghost) (r : Res T.signature κs) (x : AtExit T κs)
      → ent 𝓤 ((contract κs passed).ensures g r x) (fact 𝓤 (claim κs passed r x))

  -- whatever is passed: two results for which the `ensures` holds are the same
  abbrev pub OneAnswer : Type 1
  OneAnswer = (κs : Lfts T.signature.lifetimes) (passed : Args T.signature κs)
      (g : (contract κs passed).ghost) (r s : Res T.signature κs) (x y : AtExit T κs)
      → ent 𝓤 (conj 𝓤 ((contract κs passed).ensures g r x) ((contract κs passed).ensures g s y)) (fact 𝓤 (r ≡ s))

  -- and so is what the function leaves in lent memory: `content` of the parameters at exit
  abbrev pub OneAnswerAndContent : {X : Type 0} → ((κs : Lfts T.signature.lifetimes) → AtExit T κs → X) → Type 1
  OneAnswerAndContent content = (κs : Lfts T.signature.lifetimes) (passed : Args T.signature κs)
      (g : (contract κs passed).ghost) (r s : Res T.signature κs) (x y : AtExit T κs)
      → ent 𝓤 (conj 𝓤 ((contract κs passed).ensures g r x) ((contract κs passed).ensures g s y))
      (fact 𝓤 ((r ≡ s) × (content κs x ≡ content κs y)))

  -- and, of a result that is lent, what it shows: where it stands no contract says
  abbrev pub OneShown : {X : Type 0} → ((κs : Lfts T.signature.lifetimes) → Res T.signature κs → X) → Type 1
  OneShown shown = (κs : Lfts T.signature.lifetimes) (passed : Args T.signature κs)
      (g : (contract κs passed).ghost) (r s : Res T.signature κs) (x y : AtExit T κs)
      → ent 𝓤 (conj 𝓤 ((contract κs passed).ensures g r x) ((contract κs passed).ensures g s y))
      (fact 𝓤 (shown κs r ≡ shown κs s))

module _ {M : Type 1} (𝓤 : Ura M) where
  -- what follows from what is told is told
  pub so_told : {P : SProp 𝓤} {φ ψ : Type 0} → ent 𝓤 P (fact 𝓤 φ) → (φ → ψ) → ent 𝓤 P (fact 𝓤 ψ)
  so_told {φ = φ} {ψ = ψ} h f = via 𝓤 (fact 𝓤 φ) h (fact_mono 𝓤 φ ψ f)

  -- and so is what follows from two things told
  pub both_told : {P : SProp 𝓤} {p q r : Type 0} → ent 𝓤 P (fact 𝓤 p) → ent 𝓤 P (fact 𝓤 q) → (p → q → r)
      → ent 𝓤 P (fact 𝓤 r)
  both_told {P = P} {p = p} {q = q} {r = r} h k f =
      fact_use 𝓤 p h (λ x. fact_use 𝓤 q k (λ y. fact_i 𝓤 r P (f x y)))

  -- a fact that holds asks nothing
  pub nothing_but : {φ : Type 0} → φ → sep 𝓤 (fact 𝓤 φ) (emp 𝓤) ≡ emp 𝓤
  nothing_but {φ} h = both⊢ 𝓤 (snd∗ 𝓤 (fact 𝓤 φ) (emp 𝓤))
      (via 𝓤 (sep 𝓤 (emp 𝓤) (emp 𝓤)) (emp∗ 𝓤 (emp 𝓤)) (mono_l 𝓤 (emp 𝓤) (fact_i 𝓤 φ (emp 𝓤) h)))

  -- by two clauses of one contract
  pub clauses_told : {p q r : Type 0} → (p → q → r) → ent 𝓤 (sep 𝓤 (fact 𝓤 p) (fact 𝓤 q)) (fact 𝓤 r)
  clauses_told {p = p} {q = q} f = both_told (fst∗ 𝓤 (fact 𝓤 p) (fact 𝓤 q)) (snd∗ 𝓤 (fact 𝓤 p) (fact 𝓤 q)) f

  -- by two assertions, and by three
  pub together : {P Q : SProp 𝓤} {p q r : Type 0} → ent 𝓤 P (fact 𝓤 p) → ent 𝓤 Q (fact 𝓤 q)
      → (p → q → r) → ent 𝓤 (conj 𝓤 P Q) (fact 𝓤 r)
  together {P = P} {Q = Q} h k f = both_told (via 𝓤 P (conj_l 𝓤 P Q) h) (via 𝓤 Q (conj_r 𝓤 P Q) k) f

  pub all_together : {P Q R : SProp 𝓤} {p q r s : Type 0}
      → ent 𝓤 P (fact 𝓤 p) → ent 𝓤 Q (fact 𝓤 q) → ent 𝓤 R (fact 𝓤 r)
      → (p → q → r → s) → ent 𝓤 (conj 𝓤 P (conj 𝓤 Q R)) (fact 𝓤 s)
  all_together {q = q} {r = r} h k l f =
      together h (together {r = q × r} k l (λ y z. (y, z))) (λ x yz. f x yz.0 yz.1)

  -- two assertions that tell of v and of w that they are the rule's
  told_one : {W : Type 0} {P Q : SProp 𝓤} (v w rule : W)
      → ent 𝓤 P (fact 𝓤 (v ≡ rule)) → ent 𝓤 Q (fact 𝓤 (w ≡ rule)) → ent 𝓤 (conj 𝓤 P Q) (fact 𝓤 (v ≡ w))
  told_one v w rule h k = together h k (λ p q. p ∙ sym q)

  told_each : {W X : Type 0} {P Q : SProp 𝓤} (v w rule : W) (a b after : X)
      → ent 𝓤 P (fact 𝓤 (v ≡ rule)) → ent 𝓤 P (fact 𝓤 (a ≡ after))
      → ent 𝓤 Q (fact 𝓤 (w ≡ rule)) → ent 𝓤 Q (fact 𝓤 (b ≡ after))
      → ent 𝓤 (conj 𝓤 P Q) (fact 𝓤 ((v ≡ w) × (a ≡ b)))
  told_each v w rule a b after h h' k k' = both_told (told_one v w rule h k) (told_one a b after h' k') (λ p q. (p, q))

  -- `⌜ r ≡ rule ⌝`
  pub one : {W : Type 0} (v w rule : W)
      → ent 𝓤 (conj 𝓤 (fact 𝓤 (v ≡ rule)) (fact 𝓤 (w ≡ rule))) (fact 𝓤 (v ≡ w))
  one v w rule = told_one v w rule (id⊢ 𝓤 (fact 𝓤 (v ≡ rule))) (id⊢ 𝓤 (fact 𝓤 (w ≡ rule)))

  -- `⌜ (r ≡ rule) × more ⌝`
  pub one_and : {W : Type 0} (v w rule : W) (more more' : Type 0)
      → ent 𝓤 (conj 𝓤 (fact 𝓤 ((v ≡ rule) × more)) (fact 𝓤 ((w ≡ rule) × more'))) (fact 𝓤 (v ≡ w))
  one_and v w rule more more' = told_one v w rule
      (fact_mono 𝓤 ((v ≡ rule) × more) (v ≡ rule) (λ p. p.0))
      (fact_mono 𝓤 ((w ≡ rule) × more') (w ≡ rule) (λ p. p.0))

  -- `⌜ (r ≡ rule) × (now p.exit ≡ after) ⌝`
  pub one_both : {W X : Type 0} (v w rule : W) (a b after : X)
      → ent 𝓤 (conj 𝓤 (fact 𝓤 ((v ≡ rule) × (a ≡ after))) (fact 𝓤 ((w ≡ rule) × (b ≡ after))))
      (fact 𝓤 ((v ≡ w) × (a ≡ b)))
  one_both v w rule a b after = told_each v w rule a b after
      (fact_mono 𝓤 ((v ≡ rule) × (a ≡ after)) (v ≡ rule) (λ p. p.0))
      (fact_mono 𝓤 ((v ≡ rule) × (a ≡ after)) (a ≡ after) (λ p. p.1))
      (fact_mono 𝓤 ((w ≡ rule) × (b ≡ after)) (w ≡ rule) (λ p. p.0))
      (fact_mono 𝓤 ((w ≡ rule) × (b ≡ after)) (b ≡ after) (λ p. p.1))

  -- two clauses, `⌜ r ≡ rule ⌝` and `⌜ now p.exit ≡ after ⌝`
  pub one_each : {W X : Type 0} (v w rule : W) (a b after : X)
      → ent 𝓤 (conj 𝓤 (sep 𝓤 (fact 𝓤 (v ≡ rule)) (fact 𝓤 (a ≡ after))) (sep 𝓤 (fact 𝓤 (w ≡ rule)) (fact 𝓤 (b ≡ after))))
      (fact 𝓤 ((v ≡ w) × (a ≡ b)))
  one_each v w rule a b after = told_each v w rule a b after
      (fst∗ 𝓤 (fact 𝓤 (v ≡ rule)) (fact 𝓤 (a ≡ after))) (snd∗ 𝓤 (fact 𝓤 (v ≡ rule)) (fact 𝓤 (a ≡ after)))
      (fst∗ 𝓤 (fact 𝓤 (w ≡ rule)) (fact 𝓤 (b ≡ after))) (snd∗ 𝓤 (fact 𝓤 (w ≡ rule)) (fact 𝓤 (b ≡ after)))

  -- `⌜ now p.exit ≡ after ⌝`, of a function that answers nothing
  pub one_content : {X : Type 0} (u v : Unit {0}) (a b after : X)
      → ent 𝓤 (conj 𝓤 (fact 𝓤 (a ≡ after)) (fact 𝓤 (b ≡ after))) (fact 𝓤 ((u ≡ v) × (a ≡ b)))
  one_content u v a b after = so_told (one a b after) (λ p. (refl, p))

  -- `⌜ now p.exit ≡ after ⌝` and another clause, of a function that answers nothing
  pub content_of_two : {X p q : Type 0} (u v : Unit {0}) (a b after : X)
      → ent 𝓤 (conj 𝓤 (sep 𝓤 (fact 𝓤 (a ≡ after)) (fact 𝓤 p)) (sep 𝓤 (fact 𝓤 (b ≡ after)) (fact 𝓤 q)))
      (fact 𝓤 ((u ≡ v) × (a ≡ b)))
  content_of_two {p = p} {q = q} u v a b after = so_told
      (told_one a b after (fst∗ 𝓤 (fact 𝓤 (a ≡ after)) (fact 𝓤 p)) (fst∗ 𝓤 (fact 𝓤 (b ≡ after)) (fact 𝓤 q)))
      (λ e. (refl, e))

  -- `⌜ r ≡ rule ⌝` and another clause
  pub one_of_two : {W p q : Type 0} (v w rule : W)
      → ent 𝓤 (conj 𝓤 (sep 𝓤 (fact 𝓤 (v ≡ rule)) (fact 𝓤 p)) (sep 𝓤 (fact 𝓤 (w ≡ rule)) (fact 𝓤 q))) (fact 𝓤 (v ≡ w))
  one_of_two {p = p} {q = q} v w rule =
      told_one v w rule (fst∗ 𝓤 (fact 𝓤 (v ≡ rule)) (fact 𝓤 p)) (fst∗ 𝓤 (fact 𝓤 (w ≡ rule)) (fact 𝓤 q))

  -- `⌜ r.items ≡ rule ⌝`, of a text: it is no more than its items
  pub one_text : {X : Type 0} (v w : ArrayVec X) (rule : List X)
      → ent 𝓤 (conj 𝓤 (fact 𝓤 (v.items ≡ rule)) (fact 𝓤 (w.items ≡ rule))) (fact 𝓤 (v ≡ w))
  one_text {X} v w rule = so_told (one v.items w.items rule)
      (λ e. ap (λ (xs : List X). let text : ArrayVec X = record { items = xs } in text) e)

  -- `⌜ r.now ≡ rule ⌝`, of a result that is lent
  pub one_shown : {X : Type 0} (v w : Bor X) (rule : X)
      → ent 𝓤 (conj 𝓤 (fact 𝓤 (v.now ≡ rule)) (fact 𝓤 (w.now ≡ rule))) (fact 𝓤 (v.now ≡ w.now))
  one_shown v w rule = one v.now w.now rule
