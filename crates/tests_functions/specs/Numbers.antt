-- What the tests' exports of whole-number work answer: the rule's answer where its conditions hold. Definitions only.
use Rattle.std.specs.Prelude.{◌+◌, ◌/◌, ◌^◌, Bool, cond, not, ◌&&◌, ℤ, pos, nat_abs, ◌*ℤ◌}
use Rattle.std.specs.Int.Signed.{lt_z}
use Rattle.rules.specs.Units.{circle, +◌, between, within}
use Rattle.rules.specs.Rounding.{rnd, modulo}
use Rattle.rules.specs.Length.{root}
use Rattle.tests_functions.specs.declared.numbers.Tried.{Tried}

-- the answer where the conditions hold, else nothing
unfoldable pub tried : Bool → ℤ → Tried
tried met z = cond met (record { met = pos 1; value = z }) (record { met = pos 0; value = pos 0 })

unfoldable pub rnd_quotient_tried : ℤ → ℤ → Tried
rnd_quotient_tried a b = tried (between (+ 1) (pos (2 ^ 62)) b) (rnd a (nat_abs b))

-- each size, and the answer's: |b| ≤ 2^61 / (|a / d| + 1) keeps |a b / d| at most 2^61
unfoldable pub product_tried : ℤ → ℤ → ℤ → Bool
product_tried a b d = between (+ 1) (pos (2 ^ 42)) d && within (2 ^ 42) a && within (2 ^ 60) b
    && within (2 ^ 61 / (nat_abs a / nat_abs d + 1)) b

unfoldable pub rnd_product_quotient_tried : ℤ → ℤ → ℤ → Tried
rnd_product_quotient_tried a b d = tried (product_tried a b d) (rnd (a *ℤ b) (nat_abs d))

unfoldable pub whole_root_tried : ℤ → Tried
whole_root_tried n = tried (not (lt_z n (pos 0))) (pos (root (nat_abs n)))

unfoldable pub on_circle_tried : ℤ → Tried
on_circle_tried a = record { met = pos 1; value = pos (modulo a circle) }
