-- Demand 1 of what C calls: each function of `module` gives a struct whose first number is the refusal's, with noughts
-- after it, exactly when that refusal is the first of its checks that is given; else it is 0, with the rule's values.
-- `turbelicus_reading` refuses nothing and has no such number.
use Rattle.std.specs.Prelude.{◌≡◌, refl, ◌↔◌, List, ℕ, ℤ, pos}
use Rattle.std.proofs.Common.{ap, ◌∙◌}
use Rattle.rules.specs.declared.Star.{Star}
use Rattle.rules.specs.declared.Place.{Place}
use Rattle.rules.specs.declared.Direction.{Direction}
use Rattle.rules.specs.declared.Refusal.{Refusal}
use Rattle.rules.specs.Checks.{first}
use Rattle.rules.specs.Refusals.{number, given, refused}
use Rattle.rules.specs.Answers.{or_nought, flag, turned_answer, listed_answer, listed_star_answer}
use Rattle.rules.specs.Turning.{turn, turned}
use Rattle.rules.specs.ListFile.{file_length}
use Rattle.rules.specs.ListReading.{list_star}
use Rattle.rules.specs.ListWriting.{count_from, numbers_written}
use Rattle.laws.specs.Checks.{FirstGiven, NoneGiven}
use Rattle.answers.specs.declared.places.TurbelicusPlaced.{TurbelicusPlaced}
use Rattle.answers.specs.declared.turns.TurbelicusTurned.{TurbelicusTurned}
use Rattle.answers.specs.declared.lists.TurbelicusCounted.{TurbelicusCounted}
use Rattle.answers.specs.declared.lists.TurbelicusStarred.{TurbelicusStarred}
use Rattle.answers.specs.declared.lists.TurbelicusWritten.{TurbelicusWritten}
use Rattle.answers.specs.Answers.{turned_out, starred_out, written_out}
use Rattle.promises.specs.Demand1.Checks.{turn_checks, star_checks, row_checks}
use Rattle.promises.specs.Demand1.InOrder.{first_map, refused_exactly, answered_exactly}
use Rattle.promises.specs.Demand1.Turns.{turn_answer}
use Rattle.promises.specs.Demand1.Lists.{star_of_record, star_answer}
use Rattle.promises.specs.Demand1.Writing.{row_answer}

-- ---- turbelicus_place

abbrev pub place_refused : Refusal → TurbelicusPlaced
place_refused r = record {
  refused = pos (number r);
  ra = pos 0;
  declination = pos 0;
  azimuth = pos 0;
  altitude = pos 0;
  has_ra = pos 0;
  has_azimuth = pos 0;
}

abbrev pub place_given : Place → TurbelicusPlaced
place_given p = record {
  refused = pos 0;
  ra = or_nought p.ra;
  declination = p.declination;
  azimuth = or_nought p.azimuth;
  altitude = p.altitude;
  has_ra = flag p.ra;
  has_azimuth = flag p.azimuth;
}

-- ---- turbelicus_turn

abbrev pub turn_refused : Refusal → TurbelicusTurned
turn_refused r = record { refused = pos (number r); x = pos 0; y = pos 0; z = pos 0 }

abbrev pub turn_given : Direction → TurbelicusTurned
turn_given v = record { refused = pos 0; x = v.x; y = v.y; z = v.z }

turbelicus_turn_checked : (axis angle : ℤ) (v : Direction)
    → turned_out (turned_answer (turned axis angle v))
    ≡ first (turn_checks axis angle v) turn_refused (turn_given (turn axis angle v))
unfolding turned_out given refused
turbelicus_turn_checked axis angle v = ap turned_out (turn_answer axis angle v)
    ∙ first_map turned_out (turn_checks axis angle v) (λ r. refused r 3) _

pub turbelicus_turn_refused : (axis angle : ℤ) (v : Direction) (r : Refusal)
    → (turned_out (turned_answer (turned axis angle v)) ≡ turn_refused r) ↔ FirstGiven (turn_checks axis angle v) r
turbelicus_turn_refused axis angle v r = rw (turbelicus_turn_checked axis angle v)
    (refused_exactly (λ a. a.refused) turn_refused _ (λ _. refl) refl (turn_checks axis angle v) r)

pub turbelicus_turn_given : (axis angle : ℤ) (v : Direction)
    → (turned_out (turned_answer (turned axis angle v)) ≡ turn_given (turn axis angle v))
    ↔ NoneGiven (turn_checks axis angle v)
turbelicus_turn_given axis angle v = rw (turbelicus_turn_checked axis angle v)
    (answered_exactly (λ a. a.refused) turn_refused _ (λ _. refl) refl (turn_checks axis angle v))

-- ---- turbelicus_list_count

abbrev pub count_refused : Refusal → TurbelicusCounted
count_refused r = record { refused = pos (number r); count = 0 }

abbrev pub count_given : ℕ → TurbelicusCounted
count_given n = record { refused = pos 0; count = n }

-- ---- turbelicus_list_star

abbrev pub star_refused : Refusal → TurbelicusStarred
star_refused r = record {
  refused = pos (number r);
  ra = pos 0;
  declination = pos 0;
  ra_motion = pos 0;
  declination_motion = pos 0;
}

abbrev pub star_given : Star → TurbelicusStarred
star_given s = record {
  refused = pos 0;
  ra = s.ra;
  declination = s.declination;
  ra_motion = s.ra_motion;
  declination_motion = s.declination_motion;
}

turbelicus_list_star_checked : (file : List ℕ) (index : ℕ)
    → starred_out (listed_star_answer (list_star file index))
    ≡ first (star_checks file index) star_refused (star_given (star_of_record file index))
unfolding starred_out given refused
turbelicus_list_star_checked file index = ap starred_out (star_answer file index)
    ∙ first_map starred_out (star_checks file index) (λ r. refused r 4) _

pub turbelicus_list_star_refused : (file : List ℕ) (index : ℕ) (r : Refusal)
    → (starred_out (listed_star_answer (list_star file index)) ≡ star_refused r) ↔ FirstGiven (star_checks file index) r
turbelicus_list_star_refused file index r = rw (turbelicus_list_star_checked file index)
    (refused_exactly (λ a. a.refused) star_refused _ (λ _. refl) refl (star_checks file index) r)

pub turbelicus_list_star_given : (file : List ℕ) (index : ℕ)
    → (starred_out (listed_star_answer (list_star file index)) ≡ star_given (star_of_record file index))
    ↔ NoneGiven (star_checks file index)
turbelicus_list_star_given file index = rw (turbelicus_list_star_checked file index)
    (answered_exactly (λ a. a.refused) star_refused _ (λ _. refl) refl (star_checks file index))

-- ---- turbelicus_list_write; of the room `Writing.row_content` and `Writing.row_kept` speak

abbrev pub write_refused : Refusal → TurbelicusWritten
write_refused r = record { refused = pos (number r); length = 0 }

abbrev pub write_given : ℕ → TurbelicusWritten
write_given n = record { refused = pos 0; length = n }

turbelicus_list_write_checked : (numbers : List ℤ) (room : List ℕ)
    → written_out (listed_answer (numbers_written numbers room))
    ≡ first (row_checks numbers room) write_refused (write_given (file_length (count_from numbers)))
unfolding written_out given refused
turbelicus_list_write_checked numbers room = ap written_out (row_answer numbers room)
    ∙ first_map written_out (row_checks numbers room) (λ r. refused r 1) _

pub turbelicus_list_write_refused : (numbers : List ℤ) (room : List ℕ) (r : Refusal)
    → (written_out (listed_answer (numbers_written numbers room)) ≡ write_refused r) ↔ FirstGiven (row_checks numbers room) r
turbelicus_list_write_refused numbers room r = rw (turbelicus_list_write_checked numbers room)
    (refused_exactly (λ a. a.refused) write_refused _ (λ _. refl) refl (row_checks numbers room) r)

pub turbelicus_list_write_given : (numbers : List ℤ) (room : List ℕ)
    → (written_out (listed_answer (numbers_written numbers room)) ≡ write_given (file_length (count_from numbers)))
    ↔ NoneGiven (row_checks numbers room)
turbelicus_list_write_given numbers room = rw (turbelicus_list_write_checked numbers room)
    (answered_exactly (λ a. a.refused) write_refused _ (λ _. refl) refl (row_checks numbers room))
