-- The test of refusal 7: a direction is refused exactly when its squared length is not accepted.
use Rattle.std.specs.Prelude.{◌≡◌, refl, Bool, true, false, not, ◌&&◌, ◌+◌, ◌^◌, leb}
use Rattle.std.proofs.Common.{le-leb, leb-true}
use Rattle.std.proofs.lemmas.Bool.{not-false}
use Rattle.rules.specs.declared.Direction.{Direction}
use Rattle.rules.specs.Length.{squares}
use Rattle.rules.specs.Turning.{Accepted, direction_refused}
use Rattle.laws.specs.Ranges.{both_true}

pub accepted_not_refused : (v : Direction) → Accepted (squares v) → direction_refused v ≡ false
unfolding direction_refused
accepted_not_refused v h =
    rw (le-leb (2 ^ 60) (squares v + 2 ^ 32) h.low, le-leb (squares v) (2 ^ 60 + 2 ^ 32) h.high)

pub accepted_of_not_refused : (v : Direction) → direction_refused v ≡ false → Accepted (squares v)
unfolding direction_refused
accepted_of_not_refused v e =
    let low = leb (2 ^ 60) (squares v + 2 ^ 32) in
    let high = leb (squares v) (2 ^ 60 + 2 ^ 32) in
    let h = both_true low high (not-false (low && high) e) in
    record {
      low = leb-true (2 ^ 60) (squares v + 2 ^ 32) h.0;
      high = leb-true (squares v) (2 ^ 60 + 2 ^ 32) h.1;
    }

-- a test that says whether the squared length is accepted is the opposite of the refusal
pub accepted_test : (v : Direction) (b : Bool) → (b ≡ true → Accepted (squares v)) → (Accepted (squares v) → b ≡ true)
    → b ≡ not (direction_refused v)
accepted_test v b f g = by b (direction_refused v) f g (accepted_of_not_refused v) (accepted_not_refused v)
  where
    by : (b r : Bool) → (b ≡ true → Accepted (squares v)) → (Accepted (squares v) → b ≡ true)
        → (r ≡ false → Accepted (squares v)) → (Accepted (squares v) → r ≡ false)
        → b ≡ not r
    by true true f g h k = k (f refl)
    by true false f g h k = refl
    by false true f g h k = refl
    by false false f g h k = g (h refl)
