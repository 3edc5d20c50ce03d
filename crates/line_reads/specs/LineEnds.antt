-- The lines of an input, from its first byte on.
use Rattle.std.specs.Prelude.{◌≡◌, refl, false, List, [], ◌∷◌, ◌++◌, ℕ, eqb}
use Rattle.rules.specs.Times.{newline, before, lines_of}

-- no byte of a line is its end
abbrev pub Unended : List ℕ → Type 0
Unended [] = Unit {0}
Unended (b ∷ line) = (eqb b newline ≡ false) × Unended line

pub unended_more : (line : List ℕ) (b : ℕ) → Unended line → eqb b newline ≡ false → Unended (line ++ b ∷ [])
unended_more [] b u e = (e, tt)
unended_more (c ∷ line) b u e = (u.0, unended_more line b u.1 e)

end_before : (lines : List (List ℕ)) → before newline lines ≡ [] ∷ lines
unfolding before
end_before [] = refl
end_before (line ∷ lines) = refl

-- a line with its end, and more
pub lines_ended : (line rest : List ℕ) → Unended line → lines_of (line ++ newline ∷ rest) ≡ line ∷ lines_of rest
unfolding lines_of before
lines_ended [] rest u = end_before (lines_of rest)
lines_ended (b ∷ line) rest u = rw (lines_ended line rest u.1, u.0)

-- a last line without its end
pub lines_last : (b : ℕ) (line : List ℕ) → Unended (b ∷ line) → lines_of (b ∷ line) ≡ (b ∷ line) ∷ []
unfolding lines_of before
lines_last b [] u = rw u.0
lines_last b (c ∷ line) u = rw (lines_last c line u.1, u.0)
