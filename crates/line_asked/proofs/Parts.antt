-- A line cut after its 24 first bytes, and then at the first space.
use Rattle.std.specs.Prelude.{◌≡◌, List, ℕ, ◌+◌, ◌<◌, length, take, drop, Some, None}
use Rattle.std.proofs.Common.{ap, ◌∙◌, arith, length-take-le}
use Rattle.std.proofs.lemmas.List.{drop-drop}
use Rattle.rules.specs.declared.Moment.{Moment}
use Rattle.rules.specs.Lines.{line_of}
use Rattle.line_asked.specs.Asking.{word_length, with_site, asked_in, moment_end, asked_of}

module _ (line word site : List ℕ) (h : word_length (drop 24 line) < length (drop 24 line))
    (w : word ≡ take (word_length (drop 24 line)) (drop 24 line))
    (r : site ≡ drop (word_length (drop 24 line) + 1) (drop 24 line)) where
  end_is : 24 + length word ≡ moment_end line
  unfolding moment_end
  end_is = ap (λ l. 24 + length l) w
      ∙ ap (λ k. 24 + k) (length-take-le (word_length (drop 24 line)) (drop 24 line) (omega arith))

  site_is : site ≡ drop (moment_end line + 1) line
  unfolding moment_end
  site_is =
      let k = word_length (drop 24 line) in
      let q : 24 + k + 1 ≡ 24 + (k + 1) = omega arith in
      r ∙ rw q (drop-drop (k + 1) 24 line)

  pub asked_none : None ≡ line_of (take (24 + length word) line) → asked_of line ≡ None
  unfolding asked_of asked_in
  asked_none e = rw (← end_is, ← e)

  pub asked_told : (m : Moment) → Some m ≡ line_of (take (24 + length word) line) → asked_of line ≡ with_site m site
  unfolding asked_of asked_in
  asked_told m e = rw (site_is, ← end_is, ← e)
