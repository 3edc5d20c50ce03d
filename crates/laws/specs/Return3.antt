-- The opposite turn about axis 3: of what lies near a turned direction, it lies near the direction itself.
use Rattle.std.specs.Prelude.{ℕ, neg_ℤ}
use Rattle.rules.specs.declared.Pair.{Pair}

-- the pair of the opposite angle
abbrev pub opposite_pair : Pair → Pair
opposite_pair p = record { cosine = p.cosine; sine = neg_ℤ p.sine }

-- how far the distance may have grown, so that a turn and its opposite add no more than 24
abbrev pub farthest : ℕ
farthest = 268435442
