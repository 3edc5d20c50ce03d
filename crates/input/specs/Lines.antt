-- A line read byte by byte: what has been passed, and how it ends; and what a reader leaves.
use Rattle.std.specs.Prelude.{Result, Ok, Err, IsErr, ◌≡◌, refl, Bool, true, false, cond, List, [], ◌∷◌, ℕ, zero, suc, ◌+◌, ◌-◌, ◌≤◌, ◌<◌, eqb, length, take, drop, get_or}
use Rattle.std.proofs.Common.{sym, ap, ◌∙◌, arith, drop-drop, get_or-take, below_more, ne_eqb}
use Rattle.std.proofs.lemmas.Bool.{false≢true}
use borrow.Rule.Slice.PartMut.{mid_of, put_mid, same_len_mid, mid_len, take_put, drop_put}
use Rattle.rules.specs.Times.{newline}
use Rattle.input.specs.Input.{line_with_end, FileRead, LineRead}

-- no LF among so many first bytes
abbrev pub NoneIn : ℕ → List ℕ → Type 0
NoneIn n bytes = (k : ℕ) → k < n → get_or bytes k 0 ≡ newline → ⊥

-- ---- an LF stands at the end alone

one_byte : (t : Bool) (b : ℕ) → ◌≡◌ {A = List ℕ} (b ∷ cond t [] []) (b ∷ [])
one_byte true b = refl
one_byte false b = refl

pub line_is : (n : ℕ) (bytes : List ℕ) → ((k : ℕ) → k + 1 < n → get_or bytes k 0 ≡ newline → ⊥)
    → line_with_end (take n bytes) ≡ take n bytes
unfolding line_with_end
line_is zero bytes none = refl
line_is (suc n) [] none = refl
line_is (suc zero) (b ∷ bytes) none = one_byte (eqb b newline) b
line_is (suc (suc n)) (b ∷ bytes) none =
    rw (ne_eqb b newline (none 0 (omega arith)))
    (ap (λ rest. b ∷ rest) (line_is (suc n) bytes (λ k h. none (suc k) (omega arith))))

-- ---- what has been passed

-- so many bytes have been read, none of them an LF, and the rest of the room is as it was
pub record Passed (done : ℕ) (before room : List ℕ) : Type 0 where
  pub same : length room ≡ length before
  pub within : done ≤ length room
  pub none : NoneIn done room
  pub kept : drop done room ≡ drop done before

pub later : (n : ℕ) (a b : List ℕ) → drop n a ≡ drop n b → drop (n + 1) a ≡ drop (n + 1) b
later n a b e = sym (drop-drop 1 n a) ∙ ap (drop 1) e ∙ drop-drop 1 n b

-- one byte more has been put into the room
module _ (done : ℕ) (before room byte : List ℕ) (passed : Passed done before room)
    (room_left : done < length room) (one : length byte ≡ length (mid_of done (done + 1 - done) room)) where
  abbrev after : List ℕ
  after = put_mid done (done + 1 - done) room byte

  pub put_same : length after ≡ length before
  put_same = same_len_mid done (done + 1 - done) room byte one ∙ passed.same

  pub put_none : NoneIn done after
  put_none k h e = passed.none k h
      (sym (get_or-take done room k 0 h)
      ∙ ap (λ bytes. get_or bytes k 0) (sym (take_put done (done + 1 - done) room byte (omega arith)))
      ∙ get_or-take done after k 0 h ∙ e)

  pub put_kept : drop (done + 1) after ≡ drop (done + 1) before
  put_kept =
      drop_put done (done + 1) room byte (omega arith) (omega arith)
      (one ∙ mid_len done (done + 1) room (omega arith))
      ∙ later done room before passed.kept

  pub put_passed : (get_or after done 0 ≡ newline → ⊥) → Passed (done + 1) before after
  put_passed other = record {
    same = put_same;
    within = omega (arith, put_same, passed.same);
    none = below_more _ _ put_none other;
    kept = put_kept;
  }

-- ---- a line that was read, and one that could not be

module _ {E : Type 0} where
  pub line_read : (n : ℕ) (before room : List ℕ) → n ≤ length room
      → ((k : ℕ) → k + 1 < n → get_or room k 0 ≡ newline → ⊥)
      → drop (n + 1) room ≡ drop (n + 1) before
      → LineRead {E = E} (Ok n) before room
  line_read n before room h none kept = record { within = h; line = line_is n room none; kept = λ e. kept }

  pub line_failed : (r : Result ℕ E) (before room : List ℕ) → IsErr r → LineRead r before room
  unfolding line_with_end
  line_failed (Ok n) before room e = absurd (false≢true e)
  line_failed (Err e) before room f = record { within = omega arith; line = refl; kept = λ g. absurd (false≢true g) }

  -- ---- the same of a file

  pub file_read : (n : ℕ) (room : List ℕ) → n ≤ length room → FileRead {E = E} (Ok n) room
  file_read n room h = record { within = h }

  pub file_failed : (r : Result ℕ E) (room : List ℕ) → IsErr r → FileRead r room
  file_failed (Ok n) room e = absurd (false≢true e)
  file_failed (Err e) room f = record { within = omega arith }
