-- What is read of an input. Definitions only.
use Rattle.std.specs.Prelude.{ℕ, ◌+◌, ◌≤◌, ◌≡◌, cond, List, [], ◌∷◌, eqb, length, take, drop, IsOk, Result, Ok, Err}
use Rattle.rules.specs.Times.{newline}

-- the first line of an input, with its end where it has one
unfoldable pub line_with_end : List ℕ → List ℕ
line_with_end [] = []
line_with_end (b ∷ bs) = b ∷ cond (eqb b newline) [] (line_with_end bs)

module _ {E : Type 0} where
  -- how many bytes were read: none where the read failed
  abbrev pub read_length : Result ℕ E → ℕ
  read_length (Ok n) = n
  read_length (Err e) = 0

  -- of a file a reader keeps what the room holds
  pub record FileRead (r : Result ℕ E) (room : List ℕ) : Type 0 where
    pub within : read_length r ≤ length room

  -- of an input it keeps the first line, or what the room holds of it: no LF stands before the last byte that was read
  pub record LineRead (r : Result ℕ E) (before room : List ℕ) : Type 0 where
    pub within : read_length r ≤ length room
    pub line : line_with_end (take (read_length r) room) ≡ take (read_length r) room
    pub kept : IsOk r → drop (read_length r + 1) room ≡ drop (read_length r + 1) before
