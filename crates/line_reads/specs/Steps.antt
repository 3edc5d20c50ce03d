-- The bytes of a read answered one after another: what holds after the first of them.
use Rattle.std.specs.Prelude.{◌≡◌, refl, List, [], ◌∷◌, ◌++◌, ℕ, ◌+◌, ◌*◌, ◌≤◌, ◌<◌, drop, get_or}
use Rattle.std.proofs.Math.Path.{sym}
use Rattle.std.proofs.Common.{◌∙◌, add-one, arith, drop-cons, append_assoc}
use Rattle.std.proofs.Math.ListN.{length, length-append}
use Rattle.std.proofs.Math.Seq.{drop-length}
use Rattle.std.proofs.lemmas.List.{append-nil}
use Rattle.line_reads.specs.declared.Program.{Program}
use Rattle.line_reads.specs.declared.starts.Start.{Start}
use Rattle.line_reads.specs.Reads.{start_after, answer_at, start_after_all, answers_to, answers_of, start_of_next}
use Rattle.line_reads.specs.Lengths.{answer_at_le}

-- ---- one byte more

-- after i bytes: the line that has begun, and the room
pub record After (p : Program) (start : Start) (bytes room : List ℕ) (line : Start) (now : List ℕ) (i : ℕ)
    : Type 0 where
  pub within : i ≤ length bytes
  pub low : length now ≤ length room + 64 * i
  pub begun : start_after_all line (drop i bytes) ≡ start_after_all start bytes
  pub content : now ++ answers_to p line (drop i bytes) ≡ room ++ answers_to p start bytes

pub after_none : (p : Program) (start : Start) (bytes room : List ℕ) → After p start bytes room start room 0
after_none p start bytes room = record { within = omega arith; low = omega arith; begun = refl; content = refl }

module _ (p : Program) (start : Start) (bytes room : List ℕ) (line : Start) (now : List ℕ) (i : ℕ)
    (h : i < length bytes) (a : After p start bytes room line now i) where
  abbrev byte : ℕ
  byte = get_or bytes i 0

  rest : drop i bytes ≡ byte ∷ drop (i + 1) bytes
  rest = drop-cons bytes i 0 h ∙ rw (add-one i)

  pub after_more : After p start bytes room (start_after line byte) (now ++ answer_at p line byte) (i + 1)
  unfolding start_after_all answers_to
  after_more = record {
    within = omega arith;
    low = omega (arith, answer_at_le p line byte, a.low, length-append now (answer_at p line byte));
    begun = rw rest at a.begun;
    content = append_assoc now (answer_at p line byte) (answers_to p (start_after line byte) (drop (i + 1) bytes))
        ∙ (rw rest at a.content);
  }

-- after all of them
pub after_all : (p : Program) (start : Start) (bytes room : List ℕ) (line : Start) (now : List ℕ) (i : ℕ)
    → length bytes ≤ i → After p start bytes room line now i
    → (line ≡ start_after_all start bytes) × (now ≡ room ++ answers_to p start bytes)
unfolding start_after_all answers_to
after_all p start bytes room line now i h a =
    let e : i ≡ length bytes = omega (arith, a.within) in
    let d : drop i bytes ≡ [] = rw e (drop-length bytes) in
    (rw d at a.begun, sym (append-nil now) ∙ (rw d at a.content))

-- ---- a read that is not empty

pub answers_of_some : (p : Program) (s : Start) (bytes : List ℕ) → 0 < length bytes
    → answers_of p s bytes ≡ answers_to p s bytes
unfolding answers_of
answers_of_some p s [] h = absurd (omega arith)
answers_of_some p s (b ∷ bytes) h = refl

pub next_of_some : (s : Start) (bytes : List ℕ) → 0 < length bytes → start_of_next s bytes ≡ start_after_all s bytes
unfolding start_of_next
next_of_some s [] h = absurd (omega arith)
next_of_some s (b ∷ bytes) h = refl
