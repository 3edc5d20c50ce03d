-- The start of a line: it keeps the first 32 bytes, which tell the line's answer.
use Rattle.std.specs.Prelude.{◌≡◌, Bool, List, [], ◌∷◌, ◌++◌, ℕ, ◌+◌, ◌≤◌, min}
use Rattle.std.proofs.Math.Path.{refl, sym, ap}
use Rattle.std.proofs.Common.{◌∙◌, arith, lit≤, length-append}
use Rattle.std.proofs.Math.Bool.{true, false}
use Rattle.std.proofs.Math.Dec.{ltb}
use Rattle.std.proofs.Math.ListN.{length, take}
use Rattle.std.proofs.Math.Seq.{take_all}
use Rattle.std.proofs.lemmas.List.{take-append-le}
use borrow.Author.Tests.{ltb-true, ltb-false}
use Rattle.rules.specs.Times.{printed, newline}
use Rattle.laws.specs.Lines.{line_cut}
use Rattle.line_dates.specs.DateLaws.{date_cut}
use Rattle.line_reads.specs.declared.Program.{Program}
use Rattle.line_reads.specs.declared.starts.Start.{Start}
use Rattle.line_reads.specs.Reads.{answered_by, none, with_byte, answered}

-- s keeps the line so far: all of it, or its first 32 bytes
pub record Keeps (s : Start) (line : List ℕ) : Type 0 where
  pub count : length s ≡ min 32 (length line)
  pub front : s ≡ take 32 line

pub keeps_none : Keeps none []
keeps_none = record { count = refl; front = refl }

module _ (s : Start) (line : List ℕ) (k : Keeps s line) (b : ℕ) where
  longer : length (line ++ b ∷ []) ≡ length line + 1
  longer = length-append line (b ∷ [])

  pub keeps_more : Keeps (with_byte s b) (line ++ b ∷ [])
  unfolding with_byte
  keeps_more = go (ltb (length s) 32) refl
    where
      go : (t : Bool) → ltb (length s) 32 ≡ t → Keeps (with_byte s b) (line ++ b ∷ [])
      go true e =
          let l = ltb-true (length s) 32 e in
          let f : s ++ b ∷ [] ≡ take 32 (line ++ b ∷ []) =
          ap (λ l. l ++ b ∷ []) (k.front ∙ take_all 32 line (omega (arith, k.count)))
          ∙ sym (take_all 32 (line ++ b ∷ []) (omega (arith, longer, k.count))) in
          rw e record {
            count = length-append s (b ∷ []) ∙ (omega (arith, longer, k.count));
            front = f;
          }
      go false e =
          let l = ltb-false (length s) 32 e in
          let h : 32 ≤ length line = omega (arith, k.count) in
          rw e record {
            count = omega (arith, longer, k.count);
            front = k.front ∙ sym (take-append-le 32 line (b ∷ []) h);
          }

-- a longer line is of another form, and so are its first 32 bytes
answer_cut : (p : Program) (line : List ℕ) → answered_by p (take 32 line) ≡ answered_by p line
unfolding answered_by
answer_cut Program.Times line = ap printed (line_cut line 32 (lit≤ tt))
answer_cut Program.Dates line = date_cut line 32 (lit≤ tt)

pub keeps_answer : (p : Program) (s : Start) (line : List ℕ) → Keeps s line
    → answered p s ≡ answered_by p line ++ newline ∷ []
unfolding answered
keeps_answer p s line k = ap (λ l. l ++ newline ∷ []) (ap (answered_by p) k.front ∙ answer_cut p line)
