-- Lines with their ends, as bytes: one after another, and put into a room.
use Rattle.std.specs.Prelude.{◌≡◌, refl, List, [], ◌∷◌, ◌++◌, ℕ, ◌+◌, length, set}
use Rattle.std.proofs.Common.{sym, ap, ◌∙◌, append_assoc, length-append}
use Rattle.std.proofs.lemmas.List.Edits.{sets}
use Rattle.rules.specs.Times.{newline, ended}
use Rattle.laws.specs.PuttingBytes.{sets_append}

pub ended_append : (xs ys : List (List ℕ)) → ended (xs ++ ys) ≡ ended xs ++ ended ys
unfolding ended
ended_append [] ys = refl
ended_append (x ∷ xs) ys =
    ap (λ rest. x ++ newline ∷ rest) (ended_append xs ys) ∙ sym (append_assoc x (newline ∷ ended xs) (ended ys))

pub ended_one : (line : List ℕ) → ended (line ∷ []) ≡ line ++ newline ∷ []
unfolding ended
ended_one line = refl

pub ended_length : (line : List ℕ) → length (ended (line ∷ [])) ≡ length line + 1
ended_length line = ap length (ended_one line) ∙ length-append line (newline ∷ [])

pub ended_cons : (line : List ℕ) (lines : List (List ℕ)) → ended (line ∷ lines) ≡ ended (line ∷ []) ++ ended lines
ended_cons line lines = ended_append (line ∷ []) lines

-- a line put into a room, and its end after it
pub line_put : (room line : List ℕ) (at end : ℕ) → end ≡ at + length line
    → set (sets room at line) end newline ≡ sets room at (ended (line ∷ []))
line_put room line at end e = rw (e, ended_one line) (sym (sets_append room at line (newline ∷ [])))
