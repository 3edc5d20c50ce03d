-- Rows of bytes put into a room one after another: what stands there, and where the next begins.
use Rattle.std.specs.Prelude.{◌≡◌, refl, List, [], ◌++◌, ℕ, ◌+◌, length}
use Rattle.std.proofs.Common.{sym, ap, ◌∙◌, arith, length-append}
use Rattle.std.proofs.lemmas.List.Edits.{sets}
use Rattle.std.proofs.Math.Seq.{length-sets}
use Rattle.laws.specs.PuttingBytes.{sets_append}

-- `out` is the room with `row` put at a place, and `next` is the place after it
pub record Put (room : List ℕ) (at : ℕ) (row out : List ℕ) (next : ℕ) : Type 0 where
  pub bytes : out ≡ sets room at row
  pub end : next ≡ at + length row

pub none_put : (room : List ℕ) (at : ℕ) → Put room at [] room at
none_put room at = record { bytes = refl; end = omega arith }

-- one row more
pub more : {room : List ℕ} {at : ℕ} {row out : List ℕ} {next : ℕ} → Put room at row out next
    → (next' : ℕ) (further out' : List ℕ) → out' ≡ sets out next further → next' ≡ next + length further
    → Put room at (row ++ further) out' next'
more {room} {at} {row} {out} {next} p next' further out' e f = record {
  bytes = e ∙ ap (λ l. sets l next further) p.bytes
      ∙ ap (λ k. sets (sets room at row) k further) p.end ∙ sym (sets_append room at row further);
  end = let q = p.end in omega (arith, length-append row further);
}

-- the room keeps its length
pub put_length : {room : List ℕ} {at : ℕ} {row out : List ℕ} {next : ℕ} → Put room at row out next
    → length out ≡ length room
put_length {room} {at} {row} p = ap length p.bytes ∙ length-sets room at row
