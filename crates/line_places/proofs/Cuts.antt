-- What the program keeps of a file decides as the whole would: what rests on the room of the longest file.
use Rattle.std.specs.Prelude.{◌≡◌, refl, Bool, true, false, cond, List, ℕ, ◌≤◌, ltb, length, take, Result, Err, Option}
use Rattle.std.proofs.Common.{sym, ap, ◌∙◌, arith, length-take, take_all, ltb-true, ltb-false}
use Rattle.rules.specs.declared.Refusal.{Refusal}
use Rattle.rules.specs.ListReading.{mark_refused, list_count}
use Rattle.line_entries.specs.declared.air.Air.{Air}
use Rattle.line_places.specs.Program.{places}
use Rattle.line_places.specs.Printed.{file_refused}
use Rattle.line_places.specs.Cuts.{file_kept, mark_cut, long_count}

-- so a longer file is refused 9 or 10
long_refused : (file : List ℕ) → file_kept ≤ length file
    → list_count file ≡ Err (cond (mark_refused file) Refusal.Mark Refusal.Count)
unfolding list_count
long_refused file h = rw (long_count file h) (go (mark_refused file))
  where
    go : (t : Bool) → cond {A = Result ℕ Refusal} t (Err Refusal.Mark) (Err Refusal.Count)
        ≡ Err (cond t Refusal.Mark Refusal.Count)
    go true = refl
    go false = refl

-- and by what is kept of it as by the whole
pub file_cut : (people : Bool) (air : Option Air) (file input : List ℕ)
    → places people air (take file_kept file) input ≡ places people air file input
file_cut people air file input = go (ltb file_kept (length file)) refl
  where
    go : (t : Bool) → ltb file_kept (length file) ≡ t
        → places people air (take file_kept file) input ≡ places people air file input
    go false e =
        ap (λ bytes. places people air bytes input) (take_all file_kept file (ltb-false file_kept (length file) e))
    go true e =
        let long = ltb-true file_kept (length file) e in
        let same = mark_cut file_kept file (omega arith) (omega arith) in
        file_refused people air (take file_kept file) input (cond (mark_refused file) Refusal.Mark Refusal.Count)
        (long_refused (take file_kept file) (omega (arith, length-take file_kept file))
        ∙ ap (λ t. Err (cond t Refusal.Mark Refusal.Count)) same)
        ∙ sym (file_refused people air file input (cond (mark_refused file) Refusal.Mark Refusal.Count)
        (long_refused file (omega arith)))
