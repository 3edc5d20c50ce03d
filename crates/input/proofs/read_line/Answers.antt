-- `input::read_line` meets its contract: none of the bytes passed is an LF, they are what the input has given, and the
-- rest of the room is as it was.
use Rattle.std.proofs.Common.{◌≡◌, ℕ, ◌+◌, ◌-◌, ◌<◌, ◌≤◌, arith, length, drop, List, sym, ap, ◌∙◌, subst, take, Option, get_or}
use Rattle.std.proofs.lemmas.List.{get_or-set_same}
use borrow.Rule.Slice.PartMut.{mid_of, put_mid, mid_len}
use Rattle.rules.specs.Times.{newline}
use Rattle.std.specs.Io.KnownBytes.{Consumes}
use Rattle.input.specs.Lines.{NoneIn, Passed, later, put_same, put_none, put_kept, put_passed, line_read, line_failed}
use Rattle.input.proofs.Consumed.{read_after, consumed_more, single_put}
use Rattle.std.proofs.Math.ListN.{set}
use Rattle.input.proofs.read_line.Goals as goal

-- the room after a read of one byte
module _ (at : ℕ) (before room byte : List ℕ) (passed : Passed at before room) (within : at < length room)
    (single : length byte ≡ 1) where
  one : length byte ≡ length (mid_of at (at + 1 - at) room)
  one = single ∙ sym (mid_len at (at + 1) room (omega (arith, within)) ∙ omega arith)

  abbrev value : ℕ
  value = get_or byte 0 (get_or room at 0)

  abbrev after : List ℕ
  after = set room at value

  put : put_mid at (at + 1 - at) room byte ≡ after
  put = single_put at room byte (get_or room at 0) within single

  inside : at + 1 ≤ length after
  inside = rw (← put) (omega (arith, put_same at before room byte passed within one, passed.same, within))

  none : NoneIn at after
  none = subst (NoneIn at) put (put_none at before room byte passed within one)

  kept : drop (at + 1) after ≡ drop (at + 1) before
  kept = sym (ap (drop (at + 1)) put) ∙ put_kept at before room byte passed within one

  next : (value ≡ newline → ⊥) → Passed (at + 1) before after
  next other =
      subst (Passed (at + 1) before) put
      (put_passed at before room byte passed within one
      (λ e. other (sym (ap (λ bytes. get_or bytes at 0) put ∙ get_or-set_same room at value 0 within) ∙ e)))

  -- what it has given, as the byte stands after those before it
  given : (old mid new : Option (List ℕ)) → Consumes old mid (take at room) → Consumes mid new (take 1 byte)
      → Consumes old new (take (at + 1) after)
  given old mid new c d =
      subst (Consumes old new)
      (sym (read_after at (at + 1 - at) 1 room byte (omega (arith, within)) (omega (arith, single))) ∙ ap (take (at + 1)) put)
      (consumed_more old mid new _ _ c d)

-- a read gives one byte or none
is_one : (n : ℕ) (byte : List ℕ) → n ≤ length byte → length byte ≡ 1 → (n ≡ 0 → ⊥) → n ≡ 1
is_one n byte h e f = omega (arith, h, e, f)

pub returns-in_err-n-clause-read : goal.returns-in_err-n-clause-read
returns-in_err-n-clause-read g c = line_failed _ _ _ c.from_residual.ensures.0

pub returns-then-n-eq0-clause-read : goal.returns-then-n-eq0-clause-read
returns-then-n-eq0-clause-read g c =
    let l = c.loop-at in
    let within : l.at < length l.room = omega (arith, l.invariant.passed.same, c.loop-at-test.true) in
    let single = c.read.auto.buf ∙ c.from_mut.ensures.len in
    let i = inside l.at c.args.room.now l.room c.read.new.buf l.invariant.passed within single in
    let n = none l.at c.args.room.now l.room c.read.new.buf l.invariant.passed within single in
    line_read l.at c.args.room.now _ (omega (arith, i)) (λ j h. n j (omega arith))
    (kept l.at c.args.room.now l.room c.read.new.buf l.invariant.passed within single)

pub returns-then-byte-eq10-clause-read : goal.returns-then-byte-eq10-clause-read
returns-then-byte-eq10-clause-read g c =
    let l = c.loop-at in
    let within : l.at < length l.room = omega (arith, l.invariant.passed.same, c.loop-at-test.true) in
    let single = c.read.auto.buf ∙ c.from_mut.ensures.len in
    let i = inside l.at c.args.room.now l.room c.read.new.buf l.invariant.passed within single in
    let n = none l.at c.args.room.now l.room c.read.new.buf l.invariant.passed within single in
    line_read (l.at + 1) c.args.room.now _ i (λ j h. n j (omega arith))
    (later (l.at + 1) _ _ (kept l.at c.args.room.now l.room c.read.new.buf l.invariant.passed within single))

pub returns-then-byte-eq10-clause-bytes : goal.returns-then-byte-eq10-clause-bytes
returns-then-byte-eq10-clause-bytes g c =
    let l = c.loop-at in
    let within : l.at < length l.room = omega (arith, l.invariant.passed.same, c.loop-at-test.true) in
    let single = c.read.auto.buf ∙ c.from_mut.ensures.len in
    let e = is_one c.in_ok-n.n c.read.new.buf c.in_ok-n.ensures.bound.0 single c.if-n-eq0.false in
    given l.at c.args.room.now l.room c.read.new.buf l.invariant.passed within single
    _ _ _ l.invariant.bytes (rw e at c.in_ok-n.ensures.bytes.0)

pub loop-at-preserved : goal.loop-at-preserved
loop-at-preserved g c =
    let l = c.loop-at in
    let within : l.at < length l.room = omega (arith, l.invariant.passed.same, c.loop-at-test.true) in
    let single = c.read.auto.buf ∙ c.from_mut.ensures.len in
    let e = is_one c.in_ok-n.n c.read.new.buf c.in_ok-n.ensures.bound.0 single c.if-n-eq0.false in
    record {
      passed = next l.at c.args.room.now l.room c.read.new.buf l.invariant.passed within single c.if-byte-eq10.false;
      bytes = given l.at c.args.room.now l.room c.read.new.buf l.invariant.passed within single
          _ _ _ l.invariant.bytes (rw e at c.in_ok-n.ensures.bytes.0);
    }

pub returns-clause-read : goal.returns-clause-read
returns-clause-read g c =
    let l = c.loop-at in
    let p = l.invariant.passed in
    let e : length l.room ≡ l.at = omega (arith, p.within, p.same, c.loop-at-test.false) in
    line_read (length l.room) c.args.room.now l.room (omega arith)
    (λ k h. p.none k (omega (arith, e)))
    (rw e (later l.at l.room c.args.room.now p.kept))
