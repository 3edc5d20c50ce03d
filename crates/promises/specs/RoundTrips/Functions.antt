-- The round trips of the functions themselves: what the contracts tell of two calls one after the other, where the
-- second is given what the first answered or left.
use Rattle.std.specs.Prelude.{◌≡◌, ◌++◌, map, ℕ, ◌≤◌, length, take, drop, ℤ, neg_ℤ, Ok}
use Rattle.std.proofs.Common.{sym, ap, ◌∙◌}
use seplogic.Ra.Ura.{Ura}
use base.Logic.{SProp, ent, id⊢}
use prog.Memory.{Memory}
use prog.Routine.{Routine}
use types.Logic.{Logic}
use contract.Monad.{Fun, conj, fact}
use Rattle.rules.specs.Calendar.{date_of}
use Rattle.rules.specs.ListReading.{fresh_entry}
use Rattle.rules.specs.ListWriting.{stars_of}
use Rattle.laws.specs.Bytes.{Bytes}
use Rattle.laws.specs.Angles as angles
use Rattle.promises.specs.OfContracts.{together}
use Rattle.promises.specs.Calls.{Call, told}
use Rattle.promises.specs.RoundTrips as rules
use Rattle.entries_read.specs.contracts.read_list as read_list
use Rattle.entries_write.specs.contracts.write_list as write_list
use Rattle.calendar.specs.contracts.day_of as day_of_lem
use Rattle.calendar.specs.contracts.date_of as date_of_lem
use Rattle.circle.specs.contracts.pair as pair

module _ {M : Type 1} {𝓤 : Ura M} (𝓛 : Logic 𝓤) (mem : Memory → SProp 𝓤) (run : Routine → Fun 𝓤) where
  -- ---- the list file

  abbrev pub Reading : Type 0
  Reading = Call 𝓤 read_list.ended (read_list.clauses 𝓛 mem run)

  abbrev pub reading_told : Reading → SProp 𝓤
  reading_told = told 𝓤 read_list.ended (read_list.clauses 𝓛 mem run)

  abbrev pub Writing : Type 0
  Writing = Call 𝓤 write_list.ended (write_list.clauses 𝓛 mem run)

  abbrev pub writing_told : Writing → SProp 𝓤
  writing_told = told 𝓤 write_list.ended (write_list.clauses 𝓛 mem run)

  -- a file read, and the entries that were read written into room for it
  pub read_list_then_write_list : (reads : Reading) (writes : Writing) (count : ℕ)
      → Bytes reads.passed.0.now → reads.answer ≡ Ok count
      → writes.passed.0.now ≡ take count reads.exit.1.0.now
      → length reads.passed.0.now ≤ length writes.passed.1.0.now
      → ent 𝓤 (conj 𝓤 (reading_told reads) (writing_told writes))
      (fact 𝓤 ((writes.answer ≡ Ok (length reads.passed.0.now))
      × (writes.exit.1.0.now
      ≡ reads.passed.0.now ++ drop (length reads.passed.0.now) writes.passed.1.0.now)))
  read_list_then_write_list reads writes count byte e f l = together 𝓤 (id⊢ 𝓤 _) (id⊢ 𝓤 _) (λ p q.
      let file = reads.passed.0.now in
      let given = f ∙ ap (take count) p.1 in
      let back = rules.read_then_written file byte reads.passed.1.0.now count (sym p.0 ∙ e)
      writes.passed.1.0.now l in
      (q.0 ∙ rw given back.0, q.1 ∙ rw given back.1))

  -- entries written, and the file that was written read into room for them
  pub write_list_then_read_list : (writes : Writing) (reads : Reading) (size : ℕ)
      → writes.answer ≡ Ok size
      → reads.passed.0.now ≡ take size writes.exit.1.0.now
      → length writes.passed.0.now ≤ length reads.passed.1.0.now
      → ent 𝓤 (conj 𝓤 (writing_told writes) (reading_told reads))
      (fact 𝓤 ((reads.answer ≡ Ok (length writes.passed.0.now))
      × (reads.exit.1.0.now
      ≡ map fresh_entry (stars_of writes.passed.0.now)
      ++ drop (length writes.passed.0.now) reads.passed.1.0.now)))
  write_list_then_read_list writes reads size e f l = together 𝓤 (id⊢ 𝓤 _) (id⊢ 𝓤 _) (λ p q.
      let entries = writes.passed.0.now in
      let given = f ∙ ap (take size) p.1 in
      let back = rules.written_then_read entries writes.passed.1.0.now size (sym p.0 ∙ e)
      reads.passed.1.0.now l in
      (q.0 ∙ rw given back.0, q.1 ∙ rw given back.1))

  -- ---- day number and date

  abbrev pub DayCall : Type 0
  DayCall = Call 𝓤 day_of_lem.ended (day_of_lem.clauses 𝓛 mem run)

  abbrev pub DateCall : Type 0
  DateCall = Call 𝓤 date_of_lem.ended (date_of_lem.clauses 𝓛 mem run)

  abbrev pub day_told : DayCall → SProp 𝓤
  day_told = told 𝓤 day_of_lem.ended (day_of_lem.clauses 𝓛 mem run)

  abbrev pub date_told : DateCall → SProp 𝓤
  date_told = told 𝓤 date_of_lem.ended (date_of_lem.clauses 𝓛 mem run)

  pub day_of_then_date_of : (day : DayCall) (date : DateCall) (n : ℤ)
      → day.answer ≡ Ok n → date.passed.0 ≡ n
      → ent 𝓤 (conj 𝓤 (day_told day) (date_told date)) (fact 𝓤 (date.answer ≡ Ok day.passed.0))
  day_of_then_date_of day date n e f = together 𝓤 (id⊢ 𝓤 _) (id⊢ 𝓤 _) (λ p q.
      q ∙ rw f (rules.day_then_date day.passed.0 n (sym p ∙ e)))

  pub date_of_then_day_of : (date : DateCall) (day : DayCall) (n : ℤ)
      → date.passed.0 ≡ n → date.answer ≡ Ok day.passed.0
      → ent 𝓤 (conj 𝓤 (date_told date) (day_told day)) (fact 𝓤 (day.answer ≡ Ok n))
  date_of_then_day_of date day n e f = together 𝓤 (id⊢ 𝓤 _) (id⊢ 𝓤 _) (λ p q.
      q ∙ rules.date_then_day n day.passed.0 (ap date_of (sym e) ∙ sym p ∙ f))

  -- ---- the opposite angle

  abbrev pub PairCall : Type 0
  PairCall = Call 𝓤 pair.ended (pair.clauses 𝓛 mem run)

  abbrev pub pair_told : PairCall → SProp 𝓤
  pair_told = told 𝓤 pair.ended (pair.clauses 𝓛 mem run)

  pub pair_of_the_opposite : (one opposite : PairCall) → opposite.passed.0 ≡ neg_ℤ one.passed.0
      → ent 𝓤 (conj 𝓤 (pair_told one) (pair_told opposite))
      (fact 𝓤 (opposite.answer ≡ record { cosine = one.answer.cosine; sine = neg_ℤ one.answer.sine }))
  pair_of_the_opposite one opposite e = together 𝓤 (id⊢ 𝓤 _) (id⊢ 𝓤 _) (λ p q.
      q ∙ rw e (angles.pair_opposite one.passed.0)
      ∙ ap (λ c. record { cosine = c.cosine; sine = neg_ℤ c.sine }) (sym p))
