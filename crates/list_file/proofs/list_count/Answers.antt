-- `list_file::list_count` meets its contract.
use Rattle.std.proofs.Common.{rules, ◌≡◌, sym, ◌∙◌, ap, true, false, List, ℕ, ◌-◌, ◌/◌, ◌≤◌, arith, length, take, drop, length-drop, Ok}
use Rattle.std.proofs.lemmas.List.{take_rest}
use Rattle.rules.specs.ListFile.{head_length, record_length, most_records, record_at, count_in, file_length, stars_in, stars, any_refused}
use Rattle.rules.specs.ListReading.{count_refused}
use Rattle.laws.specs.FileTests.{headed, count_many, count_fails, count_passes}
use Rattle.laws.specs.ListFile.{file_refused_9, file_refused_10, file_refused_5, file_counted}
use Rattle.list_file.proofs.Words.{word_at}
use Rattle.list_file.proofs.list_count.Goals as goal

-- the bytes after the head
abbrev records : List ℕ → List ℕ
records file = take (length file - head_length) (drop head_length file)

module _ (file : List ℕ) (count : ℕ) (count_is : count ≡ count_in file) (few : count ≤ most_records) where
  other : (length file ≡ record_at count → ⊥) → count_refused file ≡ true
  unfolding file_length
  other h = (count_fails file (omega (arith, few, count_is)) (λ e. h (e ∙ sym (ap record_at count_is))))

  module _ (size : length file ≡ record_at count) where
    passed : count_refused file ≡ false
    unfolding file_length
    passed = count_passes file (omega (arith, few, count_is)) (size ∙ ap record_at count_is)

    all : any_refused (stars_in (length (records file) / record_length) (records file)) ≡ any_refused (stars file)
    unfolding stars
    all =
        let many : length (drop head_length file) / record_length ≡ count = omega (arith, length-drop head_length file, size) in
        ap (λ r. any_refused (stars_in (length r / record_length) r)) (take_rest file head_length)
        ∙ ap (λ n. any_refused (stars_in n (drop head_length file))) (many ∙ count_is)

pub returns-then-mark_refused : goal.returns-then-mark_refused
returns-then-mark_refused c = sym (file_refused_9 c.args.file.now (sym c.mark_refused.ensures ∙ c.if-mark_refused.true))

pub slice_bounds-word_in-count : goal.slice_bounds-word_in-count
slice_bounds-word_in-count c =
    omega (arith, (headed c.args.file.now (sym c.mark_refused.ensures ∙ c.if-mark_refused.false)).long)

pub slice_bounds-word_in-start : goal.slice_bounds-word_in-start
slice_bounds-word_in-start c =
    let long : head_length ≤ length c.args.file.now = (headed c.args.file.now (sym c.mark_refused.ensures ∙ c.if-mark_refused.false)).long in
    search rules

pub word_in-requires : goal.word_in-requires
word_in-requires c =
    let file = c.args.file.now in
    let long = (headed file (sym c.mark_refused.ensures ∙ c.if-mark_refused.false)).long in
    rw (take_rest file 5) (omega (arith, length-drop 5 file, long))

pub returns-then-count-gt-MOST_RECORDS : goal.returns-then-count-gt-MOST_RECORDS
unfolding count_in
returns-then-count-gt-MOST_RECORDS c =
    let file = c.args.file.now in
    let is : c.from-count.result ≡ count_in file = c.from-count.ensures ∙ c.word_in.ensures ∙ word_at 5 file in
    sym (file_refused_10 file (sym c.mark_refused.ensures ∙ c.if-mark_refused.false)
    (count_many file (omega (arith, is, c.if-count-gt-MOST_RECORDS.true))))

pub returns-then-file-count : goal.returns-then-file-count
unfolding count_in
returns-then-file-count c =
    let file = c.args.file.now in
    let is : c.from-count.result ≡ count_in file = c.from-count.ensures ∙ c.word_in.ensures ∙ word_at 5 file in
    sym (file_refused_10 file (sym c.mark_refused.ensures ∙ c.if-mark_refused.false)
    (other file c.from-count.result is c.if-count-gt-MOST_RECORDS.false c.if-file-count.true))

pub returns-then-any_refused : goal.returns-then-any_refused
unfolding count_in
returns-then-any_refused c =
    let file = c.args.file.now in
    let count = c.from-count.result in
    let is : count ≡ count_in file = c.from-count.ensures ∙ c.word_in.ensures ∙ word_at 5 file in
    let few = c.if-count-gt-MOST_RECORDS.false in
    let size = c.if-file-count.false in
    sym (file_refused_5 file (sym c.mark_refused.ensures ∙ c.if-mark_refused.false) (passed file count is few size)
    (sym (c.any_refused.ensures ∙ all file count is few size) ∙ c.if-any_refused.true))

pub returns : goal.returns
unfolding count_in
returns c =
    let file = c.args.file.now in
    let count = c.from-count.result in
    let is : count ≡ count_in file = c.from-count.ensures ∙ c.word_in.ensures ∙ word_at 5 file in
    let few = c.if-count-gt-MOST_RECORDS.false in
    let size = c.if-file-count.false in
    ap Ok is
    ∙ sym (file_counted file (sym c.mark_refused.ensures ∙ c.if-mark_refused.false) (passed file count is few size)
    (sym (c.any_refused.ensures ∙ all file count is few size) ∙ c.if-any_refused.false))
