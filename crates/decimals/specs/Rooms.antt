-- What of a text is put into a room that may be too small. Definitions only.
use Rattle.std.specs.Prelude.{ℕ, cond, List, [], ltb, length}

-- nothing, where the room has fewer bytes than such a text may have
unfoldable pub held_in : ℕ → List ℕ → List ℕ → List ℕ
held_in most room text = cond (ltb (length room) most) [] text
