-- `length::accepted` meets its contract: a part out of reach is refused, and else no square passes the word.
use Rattle.std.specs.Prelude.{◌≡◌, true, IsTrue, All, Bool, ◌↔◌, [], ◌∷◌, ℕ, ◌+◌, ◌-◌, ◌^◌, ℤ, pos}
use Rattle.std.proofs.Common.{arith, rules, sym, ◌∙◌, SFits, of_z, to_z, to_z-of_z}
use Rattle.std.specs.Int.{w64}
use Rattle.std.proofs.lemmas.List.Elements.{All-nil, All-cons, All-head, All-tail}
use native.Mathlib.Nat.{mul-le-mul}
use borrow.Author.Tests.{le-ltb}
use Rattle.rules.specs.declared.Direction.{Direction}
use Rattle.rules.specs.Units.{unit, between, within}
use Rattle.rules.specs.Length.{square, squares}
use Rattle.rules.specs.Turning.{Accepted}
use Rattle.laws.specs.Ranges.{true_not_false}
use Rattle.laws.specs.Units.{within_le, within_of, between_of, between_parts}
use Rattle.laws.specs.Directions.{accepted_parts}
use Rattle.laws.specs.Accepted.{accepted_test}
use Rattle.words.specs.Fits.{held64}
use Rattle.length.proofs.accepted.Goals as goal

-- the ends of what is accepted
abbrev least : ℕ
least = 2 ^ 60 - 2 ^ 32

abbrev most : ℕ
most = 2 ^ 60 + 2 ^ 32

accepted_of_between : (n : ℕ) → between (pos least) (pos most) (pos n) ≡ true → Accepted n
accepted_of_between n e =
    let k = between_parts (pos least) (pos most) (pos n) e in
    record { low = omega arith; high = omega arith }

between_of_accepted : (n : ℕ) → Accepted n → between (pos least) (pos most) (pos n) ≡ true
between_of_accepted n h = between_of (pos least) (pos most) (pos n)
    (le-ltb n least (omega (arith, h.low))) (le-ltb most n h.high)

abbrev InReach : ℤ → Type 0
InReach part = within (unit + 1) part ≡ true

-- the parts of an accepted direction are in reach
reached : (v : Direction) → Accepted (squares v) → All InReach (v.x ∷ v.y ∷ v.z ∷ [])
reached v h =
    let p = accepted_parts v h in
    All-cons InReach v.x (v.y ∷ v.z ∷ []) (within_of (unit + 1) v.x p.x)
    (All-cons InReach v.y (v.z ∷ []) (within_of (unit + 1) v.y p.y)
    (All-cons InReach v.z [] (within_of (unit + 1) v.z p.z) (All-nil InReach)))

-- what the test of the parts tells of the direction that they were taken from
told : (v : Direction) (b : Bool) → SFits w64 v.x → SFits w64 v.y → SFits w64 v.z
    → (IsTrue b ↔ All InReach (to_z w64 (of_z w64 v.x) ∷ to_z w64 (of_z w64 v.y) ∷ to_z w64 (of_z w64 v.z) ∷ []))
    → (IsTrue b ↔ All InReach (v.x ∷ v.y ∷ v.z ∷ []))
told v b f g h t = rw (to_z-of_z f, to_z-of_z g, to_z-of_z h) at t

pub squares_sum-requires : goal.squares_sum-requires
unfolding squares square
squares_sum-requires c =
    let v = c.args.v in
    let all = (told v _ (search rules) (search rules) (search rules) c.in_reach.ensures).0 c.if-in_reach.true in
    let after = All-tail InReach v.x (v.y ∷ v.z ∷ []) all in
    let x_le = within_le (unit + 1) v.x (All-head InReach v.x (v.y ∷ v.z ∷ []) all) in
    let y_le = within_le (unit + 1) v.y (All-head InReach v.y (v.z ∷ []) after) in
    let z_le = within_le (unit + 1) v.z (All-head InReach v.z [] (All-tail InReach v.y (v.z ∷ []) after)) in
    omega (arith, mul-le-mul x_le x_le, mul-le-mul y_le y_le, mul-le-mul z_le z_le)

pub returns-then-in_reach : goal.returns-then-in_reach
returns-then-in_reach c =
    let v = c.args.v in
    let sum : to_z w64 (of_z w64 c.squares_sum.result) ≡ pos (squares v) =
    held64 c.squares_sum.result c.squares_sum.type_inv ∙ c.squares_sum.ensures in
    let tested : c.is_between.result ≡ between (pos least) (pos most) (pos (squares v)) = rw sum at c.is_between.ensures in
    accepted_test v c.is_between.result
    (λ t. accepted_of_between (squares v) (sym tested ∙ t))
    (λ h. tested ∙ between_of_accepted (squares v) h)

pub returns-else-in_reach : goal.returns-else-in_reach
returns-else-in_reach c =
    accepted_test c.args.v c.in_reach.result
    (λ t. true_not_false (sym t ∙ c.if-in_reach.false))
    (λ h. (told c.args.v _ (search rules) (search rules) (search rules) c.in_reach.ensures).1 (reached c.args.v h))
