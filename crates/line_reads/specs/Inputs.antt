-- An input, cut into reads. Definitions only.
use Rattle.std.specs.Prelude.{◌≡◌, List, [], ◌∷◌, ◌++◌, ℕ}
use Rattle.line_reads.specs.declared.Program.{Program}
use Rattle.line_reads.specs.declared.starts.Start.{Start}
use Rattle.line_reads.specs.Reads.{answers_of, start_of_next}

-- none is empty but the last, which is the end of the input
unfoldable pub ToTheEnd : List (List ℕ) → Type 0
ToTheEnd [] = ⊥
ToTheEnd ([] ∷ reads) = reads ≡ []
ToTheEnd ((b ∷ bytes) ∷ reads) = ToTheEnd reads

-- none is empty: the input goes on
unfoldable pub GoingOn : List (List ℕ) → Type 0
GoingOn [] = Unit {0}
GoingOn ([] ∷ reads) = ⊥
GoingOn ((b ∷ bytes) ∷ reads) = GoingOn reads

-- the answers of reads, one after another
unfoldable pub answers_of_all : Program → Start → List (List ℕ) → List ℕ
answers_of_all p s [] = []
answers_of_all p s (read ∷ reads) = answers_of p s read ++ answers_of_all p (start_of_next s read) reads
