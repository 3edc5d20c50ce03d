-- A moment with the bytes of a site, by whether they are two numbers.
use Rattle.std.specs.Prelude.{◌≡◌, List, ℕ, ℤ, ◌≤◌, length, Some, None}
use Rattle.rules.specs.declared.Moment.{Moment}
use Rattle.rules.specs.Numerals.{of_number}
use Rattle.numerals.specs.Numbers.{number_in, number_some, number_none}
use Rattle.line_asked.specs.Asking.{asked_for, word_length, first_word, after_word, of_site, site_in, with_site}
use Rattle.line_asked.specs.Words.{site_short, both_false}

module _ (m : Moment) (bs : List ℕ) where
  pub no_site : length bs ≤ word_length bs → with_site m bs ≡ None
  unfolding with_site
  no_site h = rw (site_short bs h)

  pub no_latitude : number_in 12 (first_word bs) ≡ None → with_site m bs ≡ None
  unfolding with_site of_site
  no_latitude e = rw (number_none 12 (first_word bs) e)

  pub no_longitude : number_in 12 (after_word bs) ≡ None → with_site m bs ≡ None
  unfolding with_site of_site
  no_longitude e =
      rw (both_false (of_number 12 (first_word bs)) (of_number 12 (after_word bs)) (number_none 12 (after_word bs) e))

  pub site_told : (x y : ℤ) → number_in 12 (first_word bs) ≡ Some x → number_in 12 (after_word bs) ≡ Some y
      → with_site m bs ≡ Some (asked_for m (record { latitude = x; longitude = y }))
  unfolding with_site of_site site_in
  site_told x y e f =
      let p = number_some 12 (first_word bs) x e in
      let q = number_some 12 (after_word bs) y f in
      rw (p.0, q.0, p.1, q.1)
