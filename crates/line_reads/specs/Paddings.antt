-- The fields of a start: its bytes tell them, and what they hold with one byte more.
use Rattle.std.specs.Prelude.{◌≡◌, ℕ, ◌+◌, ◌-◌, ◌≤◌, ◌<◌, ◌++◌, length, drop, set, replicate}
use Rattle.std.proofs.Common.{sym, ap, ◌∙◌, arith, lt-ltb, le-ltb, take-append-drop, length-take-le}
use Rattle.std.proofs.lemmas.List.{take_more_set, length-set, drop-set-lt, drop-drop, drop-replicate}
use Rattle.line_reads.specs.declared.starts.Start.{Start}
use Rattle.line_reads.specs.declared.starts.Start.TheInside.{Inside}
use Rattle.line_reads.specs.Reads.{held, Padded, fields_of, with_byte}

length_held : (s : Inside) → Padded s → length (held s) ≡ s.len
length_held s h = length-take-le s.len s.bytes (omega (arith, h.0, h.1))

pub fields_back : (s : Inside) → Padded s → fields_of (held s) ≡ s
fields_back s h =
    let n : length (held s) ≡ s.len = length_held s h in
    let b : held s ++ replicate (32 - length (held s)) 0 ≡ s.bytes =
    rw (n, sym h.2) (take-append-drop s.len s.bytes) in λ i. record { bytes = b i; len = n i }

-- ---- one byte more

abbrev longer : Inside → ℕ → Inside
longer s b = record { bytes = set s.bytes s.len b; len = s.len + 1 }

pub padded_longer : (s : Inside) (b : ℕ) → Padded s → s.len < 32 → Padded (longer s b)
padded_longer s b h l =
    let n : 32 - s.len - 1 ≡ 32 - (s.len + 1) = omega arith in
    let rest : drop (s.len + 1) (set s.bytes s.len b) ≡ replicate (32 - (s.len + 1)) 0 =
    drop-set-lt (s.len + 1) s.bytes s.len b (omega arith)
    ∙ sym (drop-drop 1 s.len s.bytes)
    ∙ ap (drop 1) h.2
    ∙ drop-replicate 1 (32 - s.len) 0
    ∙ ap (λ n. replicate n 0) n in
    (omega arith, length-set s.bytes s.len b ∙ h.1, rest)

module _ (s : Inside) (line : Start) (e : held s ≡ line) (h : Padded s) (b : ℕ) where
  pub held_longer : s.len < 32 → held (longer s b) ≡ with_byte line b
  unfolding with_byte
  held_longer l =
      rw (sym e, lt-ltb (length (held s)) 32 (omega (arith, length_held s h)))
      (take_more_set s.bytes s.len b (omega (arith, h.1)))

  pub held_full : 32 ≤ s.len → line ≡ with_byte line b
  unfolding with_byte
  held_full l = rw (sym e, le-ltb (length (held s)) 32 (omega (arith, length_held s h)))
