-- `decimals::put_at` meets its contract.
use Rattle.std.specs.Prelude.{◌≡◌, List, ◌++◌, ℕ, ◌+◌, ◌≤◌, length, take, drop}
use Rattle.std.proofs.Common.{sym, ◌∙◌, append_assoc, arith}
use Rattle.std.proofs.lemmas.List.{drop-drop}
use Rattle.std.proofs.lemmas.List.Edits.{sets, sets-eq}
use Rattle.decimals.proofs.put_at.Goals as goal

-- bytes that stand between the front of a room and the rest of it
placed : (room text put : List ℕ) (at n : ℕ) → put ≡ text → n ≡ length text → at + length text ≤ length room
    → take at room ++ (put ++ drop n (drop at room)) ≡ sets room at text
placed room text put at n e f h =
    rw (e, f, drop-drop (length text) at room)
    (sym (sets-eq text room at h ∙ append_assoc (take at room) text (drop (at + length text) room)))

pub returns-clause-out_after : goal.returns-clause-out_after
returns-clause-out_after c =
    placed _ _ _ _ _ c.copy_from_slice.ensures.after (omega arith) c.requires
