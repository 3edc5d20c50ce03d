-- Our own program `places`. What it hands to standard output is what the contract of `answer_text` tells; what it
-- keeps of the file and of standard input decides as all of their bytes would. No function that it calls asks anything.
use Rattle.std.specs.Prelude.{◌≡◌, refl, Bool, true, false, cond, List, [], ◌∷◌, ℕ, suc, ◌≤◌, eqb, length, take, Option}
use Rattle.std.proofs.Common.{ap, ◌∙◌, arith, take_all, length-take-le}
use seplogic.Ra.Ura.{Ura}
use base.Logic.{SProp, id⊢}
use prog.Memory.{Memory}
use prog.Routine.{Routine}
use types.Logic.{Logic}
use contract.Monad.{Fun}
use contract.Lifetimes.{Lfts, lft_at}
use contract.BorrowLft.{◌⊑◌, ⊑_static}
use denote.RattleType.{RattleType}
use mir.Syntax.{Dict}
use Rattle.std.specs.declared.io.traits.Read.{Ghosts}
use Rattle.std.specs.contracts.fs.File.{the_row as File}
use Rattle.std.specs.contracts.rt.Stdin.{the_row as Stdin}
use Rattle.rules.specs.Times.{newline, overlaid}
use Rattle.laws.specs.PuttingBytes.{front_of}
use Rattle.line_asked.specs.Asking.{length_before}
use Rattle.input.specs.Input.{line_with_end, read_length}
use Rattle.line_entries.specs.declared.air.Air.{Air}
use Rattle.line_places.specs.Program.{first_line, places}
use Rattle.line_places.specs.Cuts.{file_kept, line_kept, input_cut}
use Rattle.line_places.proofs.Cuts.{file_cut}
use Rattle.promises.specs.OfContracts.{AsksNothing, Tells, clauses_told, so_told, nothing_but}
use Rattle.input.specs.contracts.read_file as read_file
use Rattle.input.specs.contracts.read_line as read_line
use Rattle.entries_listing.specs.contracts.read as read
use Rattle.line_places.specs.contracts.answer_text as answer_text
use Rattle.line_places.specs.contracts.print_answer as print_answer
use Rattle.line_places.specs.contracts.command.command_of as command_of_lem

-- ---- what is kept, and that it is enough

-- of a file: its front, as much as the room holds
abbrev pub kept_of_file : List ℕ → List ℕ
kept_of_file file = take file_kept file

-- of standard input: its first line with the end, as much of it as the room holds
abbrev pub kept_of_input : List ℕ → List ℕ
kept_of_input input = take line_kept (line_with_end input)

first_line_same : (input : List ℕ) → first_line (line_with_end input) ≡ first_line input
unfolding first_line length_before line_with_end
first_line_same [] = refl
first_line_same (b ∷ bs) = go (eqb b newline) (first_line_same bs)
  where
    go : (t : Bool) → first_line (line_with_end bs) ≡ first_line bs
        → take (cond t 0 (suc (length_before newline (cond t [] (line_with_end bs))))) (b ∷ cond t [] (line_with_end bs))
        ≡ take (cond t 0 (suc (length_before newline bs))) (b ∷ bs)
    go true e = refl
    go false e = ap (λ rest. b ∷ rest) e

pub kept_decides : (people : Bool) (air : Option Air) (file input : List ℕ)
    → places people air (kept_of_file file) (kept_of_input input) ≡ places people air file input
unfolding places
kept_decides people air file input =
    file_cut people air file (kept_of_input input) ∙ input_cut people air file (line_with_end input)
    ∙ rw (first_line_same input)

printed : (n : ℕ) (bytes room out : List ℕ) → n ≡ length bytes → out ≡ overlaid bytes room → take n out ≡ bytes
printed n bytes room out e f = rw (e, f) (front_of bytes room)

kept_whole : (n : ℕ) (room : List ℕ) (k : ℕ) → n ≤ length room → length room ≡ k → take k (take n room) ≡ take n room
kept_whole n room k h e = take_all k (take n room) (omega (arith, length-take-le n room h))

module _ {M : Type 1} {𝓤 : Ura M} (𝓛 : Logic 𝓤) (mem : Memory → SProp 𝓤) (run : Routine → Fun 𝓤) where
  -- ---- what is handed to standard output: all that stands in the room

  -- file, input, the command, the text
  pub answer_text_tells : Tells 𝓤 answer_text.ended (answer_text.clauses 𝓛 mem run)
      (λ κs passed a x. x.1.1.1.0.now.items
      ≡ places passed.1.1.0.people passed.1.1.0.air passed.0.now passed.1.0.now)
  answer_text_tells κs passed g a x = id⊢ 𝓤 _

  -- and so of all bytes of the file and of standard input, where what is passed was kept of them
  pub places_tells : Tells 𝓤 answer_text.ended (answer_text.clauses 𝓛 mem run)
      (λ κs passed a x. (file input : List ℕ)
      → passed.0.now ≡ kept_of_file file → passed.1.0.now ≡ kept_of_input input
      → x.1.1.1.0.now.items ≡ places passed.1.1.0.people passed.1.1.0.air file input)
  unfolding places
  places_tells κs passed g a x = so_told 𝓤 (answer_text_tells κs passed g a x) (λ e file input h k.
      let people = passed.1.1.0.people in
      let air = passed.1.1.0.air in
      let decides : places people air (kept_of_file file) (kept_of_input input) ≡ places people air file input =
      file_cut people air file (kept_of_input input) ∙ input_cut people air file (line_with_end input)
      ∙ rw (first_line_same input) in
      e ∙ rw (h, k) decides)

  -- ---- and in lent memory: so many first bytes of the room as the answer says

  -- file, input, whether for people, the air, the room
  pub print_answer_tells : Tells 𝓤 print_answer.ended (print_answer.clauses 𝓛 mem run)
      (λ κs passed a x. take a x.1.1.1.1.0.now
      ≡ places passed.1.1.0 passed.1.1.1.0 passed.0.now passed.1.0.now)
  print_answer_tells κs passed g a x = clauses_told 𝓤 (λ e f. printed a _ _ _ e f)

  pub print_answer_places : Tells 𝓤 print_answer.ended (print_answer.clauses 𝓛 mem run)
      (λ κs passed a x. (file input : List ℕ)
      → passed.0.now ≡ kept_of_file file → passed.1.0.now ≡ kept_of_input input
      → take a x.1.1.1.1.0.now ≡ places passed.1.1.0 passed.1.1.1.0 file input)
  unfolding places
  print_answer_places κs passed g a x = so_told 𝓤 (print_answer_tells κs passed g a x) (λ e file input h k.
      let people = passed.1.1.0 in
      let air = passed.1.1.1.0 in
      let decides : places people air (kept_of_file file) (kept_of_input input) ≡ places people air file input =
      file_cut people air file (kept_of_input input) ∙ input_cut people air file (line_with_end input)
      ∙ rw (first_line_same input) in
      e ∙ rw (h, k) decides)

  -- ---- what is read: no more than the room holds, and of a line what would be kept of it again

  -- of every type of reader: the file, the room
  pub read_file_tells : (F : RattleType) (reads : Ghosts F.Denot) (dict : Dict)
      → Tells 𝓤 (read_file.ended F reads dict) (read_file.clauses F reads dict 𝓛 mem run)
      (λ κs passed r x. length x.1.0.now ≡ file_kept
      → kept_of_file (take (read_length r) x.1.0.now) ≡ take (read_length r) x.1.0.now)
  read_file_tells F reads dict κs passed g r x = clauses_told 𝓤 (λ read bytes e.
      kept_whole (read_length r) x.1.0.now file_kept read.within e)

  pub read_line_tells : (I : RattleType) (reads : Ghosts I.Denot) (dict : Dict)
      → Tells 𝓤 (read_line.ended I reads dict) (read_line.clauses I reads dict 𝓛 mem run)
      (λ κs passed r x. length x.1.0.now ≡ line_kept
      → kept_of_input (take (read_length r) x.1.0.now) ≡ take (read_length r) x.1.0.now)
  read_line_tells I reads dict κs passed g r x = clauses_told 𝓤 (λ read bytes e.
      ap (take line_kept) read.line ∙ kept_whole (read_length r) x.1.0.now line_kept read.within e)

  -- ---- no function asks anything

  pub read_asks_nothing : AsksNothing 𝓤 read.ended (read.clauses 𝓛 mem run)
  read_asks_nothing κs passed g = refl

  pub answer_text_asks_nothing : AsksNothing 𝓤 answer_text.ended (answer_text.clauses 𝓛 mem run)
  answer_text_asks_nothing κs passed g = refl

  pub print_answer_asks_nothing : AsksNothing 𝓤 print_answer.ended (print_answer.clauses 𝓛 mem run)
  print_answer_asks_nothing κs passed g = refl

  pub command_of_asks_nothing : AsksNothing 𝓤 command_of_lem.ended (command_of_lem.clauses 𝓛 mem run)
  command_of_asks_nothing κs passed g = refl

  -- of every type of reader that outlives its loan, as the type `&mut F` itself wants of F
  pub read_file_asks_nothing : (F : RattleType) (reads : Ghosts F.Denot) (dict : Dict)
      → ((κs : Lfts 3) → lft_at 3 2 tt κs ⊑ F.lives)
      → AsksNothing 𝓤 (read_file.ended F reads dict) (read_file.clauses F reads dict 𝓛 mem run)
  read_file_asks_nothing F reads dict lives κs passed g = nothing_but 𝓤 (lives κs)

  pub read_line_asks_nothing : (I : RattleType) (reads : Ghosts I.Denot) (dict : Dict)
      → ((κs : Lfts 3) → lft_at 3 2 tt κs ⊑ I.lives)
      → AsksNothing 𝓤 (read_line.ended I reads dict) (read_line.clauses I reads dict 𝓛 mem run)
  read_line_asks_nothing I reads dict lives κs passed g = nothing_but 𝓤 (lives κs)

  -- and so of what the program reads: a file, and standard input
  pub read_of_a_file_asks_nothing : (reads : Ghosts File.Denot) (dict : Dict)
      → AsksNothing 𝓤 (read_file.ended File reads dict) (read_file.clauses File reads dict 𝓛 mem run)
  read_of_a_file_asks_nothing reads dict = read_file_asks_nothing File reads dict (λ κs. ⊑_static _)

  pub read_of_standard_input_asks_nothing : (reads : Ghosts Stdin.Denot) (dict : Dict)
      → AsksNothing 𝓤 (read_line.ended Stdin reads dict) (read_line.clauses Stdin reads dict 𝓛 mem run)
  read_of_standard_input_asks_nothing reads dict = read_line_asks_nothing Stdin reads dict (λ κs. ⊑_static _)
