-- What the loop of `write_list` needs: it stays within the room, and what each turn and all of them leave.
use Rattle.std.proofs.Common.{◌≡◌, sym, ◌∙◌, ap, append_assoc, append-nil, List, [], ◌∷◌, ◌++◌, map, ℕ, ◌+◌, ◌-◌, ◌<◌, ◌≤◌, arith, length, get_or, take, drop, Ok}
use Rattle.std.proofs.lemmas.List.{map-append, length-take-le}
use Rattle.std.proofs.lemmas.Grind.{take_at_read}
use borrow.Rule.Slice.PartMut.{put_mid}
use Rattle.rules.specs.declared.Entry.{Entry}
use Rattle.rules.specs.declared.Star.{Star}
use Rattle.rules.specs.ListFile.{head_length, most_records, file_length, record_of, record_at}
use Rattle.rules.specs.ListReading.{leaving}
use Rattle.rules.specs.ListWriting.{stars_of, list_written, room_after_write}
use Rattle.laws.specs.FileLength.{records, record_length_lem, records_length, head_of, stars_of_length}
use Rattle.laws.specs.ListWriting.{WriteAccepted, write_accepted}
use Rattle.list_bytes.specs.Puts.{put, put_put}
use Rattle.list_records.specs.Records.{file_put}
use Rattle.list_records.proofs.Parts.{put_rest}

-- one record more
records_snoc : (ss : List Star) (s : Star) → records ss ++ record_of s ≡ records (ss ++ (s ∷ []))
records_snoc [] s = sym (append-nil (record_of s))
records_snoc (t ∷ ss) s =
    append_assoc (record_of t) (records ss) (record_of s) ∙ ap (λ r. record_of t ++ r) (records_snoc ss s)

stars_more : (xs : List Entry) (i : ℕ) (d : Entry) → i < length xs
    → stars_of (take i xs) ++ ((get_or xs i d).star ∷ []) ≡ stars_of (take (i + 1) xs)
unfolding stars_of
stars_more xs i d l =
    let star = λ (e : Entry). e.star in
    sym (ap (map star) (take_at_read xs i d l).1 ∙ map-append star (take i xs) (get_or xs i d ∷ []))

put_more : (room : List ℕ) (xs : List Entry) (i : ℕ) (d : Entry) → i < length xs → record_at (length xs) ≤ length room
    → put (put room head_length (records (stars_of (take i xs)))) (record_at i) (record_of (get_or xs i d).star)
    ≡ put room head_length (records (stars_of (take (i + 1) xs)))
put_more room xs i d l h =
    let before = stars_of (take i xs) in
    let star = (get_or xs i d).star in
    let count : length before ≡ i = stars_of_length (take i xs) ∙ length-take-le i xs (omega (arith, l)) in
    put_put room head_length (record_at i) (records before) (record_of star)
    (omega (arith, records_length before, count))
    (omega (arith, records_length before, count, record_length_lem star, l, h))
    ∙ ap (put room head_length) (records_snoc before star ∙ ap records (stars_more xs i d l))

-- a turn of the loop, which puts into the rest of the room
pub put_turn : (room cur new : List ℕ) (xs : List Entry) (i : ℕ) (d : Entry) → i < length xs → record_at (length xs) ≤ length room
    → length cur ≡ length room → cur ≡ put room head_length (records (stars_of (take i xs)))
    → new ≡ put (take (length cur - record_at i) (drop (record_at i) cur)) 0 (record_of (get_or xs i d).star)
    → put_mid (record_at i) (length cur - record_at i) cur new ≡ put room head_length (records (stars_of (take (i + 1) xs)))
put_turn room cur new xs i d l h same e f =
    ap (put_mid (record_at i) (length cur - record_at i) cur) f
    ∙ put_rest cur (record_of (get_or xs i d).star) (record_at i) (omega (arith, h, same, l))
    ∙ ap (λ r. put r (record_at i) (record_of (get_or xs i d).star)) e
    ∙ put_more room xs i d l h

-- what an answer that is a length says
module _ (xs : List Entry) (room : List ℕ) (size : ℕ) (answer : list_written xs room ≡ Ok size) where
  accepted : WriteAccepted xs room size
  accepted = write_accepted xs room size answer

  pub write_few : length xs ≤ most_records
  write_few = accepted.few

  pub write_fits : record_at (length xs) ≤ length room
  unfolding file_length
  write_fits = accepted.fits

  -- what the loop and the head leave is what the rule says
  pub write_after : put (put room head_length (records (stars_of xs))) 0 (head_of (length xs)) ≡ room_after_write xs room
  unfolding room_after_write leaving
  write_after = rw answer (file_put (stars_of xs) room (length xs) (stars_of_length xs) accepted.fits)
