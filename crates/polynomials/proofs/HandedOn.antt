-- An answer at an instant that `in_range` gives or refuses is the rule's, where the refusal is handed on by `?`.
use Rattle.std.specs.Prelude.{◌≡◌, Bool, true, false, cond, Result, Ok, Err}
use Rattle.std.proofs.Common.{ap, sym}
use Rattle.rules.specs.declared.Refusal.{Refusal}

abbrev refused : Bool → {A : Type 0} → A → Result A Refusal
refused b a = cond b (Err Refusal.Instant) (Ok a)

-- `Err` is one to one
same_refusal : {A : Type 0} {e r : Refusal} → ◌≡◌ {A = Result A Refusal} (Err e) (Err r) → e ≡ r
same_refusal {A} {e} h = ap of h
  where
    of : Result A Refusal → Refusal
    of (Ok x) = e
    of (Err r) = r

never : {P : Type 0} {A : Type 0} {x : A} {r : Refusal} → ◌≡◌ {A = Result A Refusal} (Ok x) (Err r) → P
never h = absurd cc

-- a refusal, of whatever would have been answered
pub still_refused : {T A : Type 0} (b : Bool) (t : T) (a : A) {e : Refusal} → Err e ≡ refused b t → Err e ≡ refused b a
still_refused true t a h = ap Err (same_refusal h)
still_refused false t a h = never (sym h)

-- an answer, made of the instant that was given
pub made : {T A : Type 0} (f : T → A) (b : Bool) (t : T) {x : T} → Ok x ≡ refused b t → Ok (f x) ≡ refused b (f t)
made f true t h = never h
made {T} f false t {x} h = ap (λ r. Ok (f (of r))) h
  where
    of : Result T Refusal → T
    of (Ok y) = y
    of (Err r) = x
