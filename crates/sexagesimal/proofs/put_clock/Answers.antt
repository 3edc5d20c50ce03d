-- `sexagesimal::put_clock` meets its contract.
use Rattle.std.specs.Prelude.{◌≡◌, ◌/◌, ◌%◌, ℤ, pos, nat_abs}
use Rattle.std.proofs.Common.{ap, ◌∙◌, append_assoc, lit<, SFits, to_z, to_z-of_z}
use Rattle.std.specs.Int.Signed.{quot_z, rem_z, lt_z_yes}
use Rattle.std.specs.Int.{w64}
use Rattle.integers.specs.Quotient.{abs_quot, abs_rem}
use Rattle.words.specs.Holds.{bits}
use Rattle.words.specs.Fits.{quot_fits, rem_fits}
use Rattle.sexagesimal.specs.Sexagesimal.{marked, clock}
use Rattle.sexagesimal.specs.Quotients.{divided, divided_size}
use Rattle.sexagesimal.proofs.put_clock.Goals as goal

module _ (s : ℤ) (f : SFits w64 s) where
  -- minutes within an hour, and seconds within a minute, in 64 bits
  minutes_is : nat_abs (to_z w64 (bits (rem_z (to_z w64 (bits (quot_z (to_z w64 (bits s)) (pos 60)))) (pos 60))))
      ≡ nat_abs s / 60 % 60
  minutes_is =
      let q : SFits w64 (quot_z s (pos 60)) = quot_fits s (pos 60) f (lt_z_yes tt) in
      rw (divided s 60 f (lit< tt))
      (ap nat_abs (to_z-of_z (rem_fits (quot_z s (pos 60)) (pos 60) q))
      ∙ abs_rem (quot_z s (pos 60)) (pos 60) ∙ ap (λ n. n % 60) (abs_quot s (pos 60)))

  seconds_is : nat_abs (to_z w64 (bits (rem_z (to_z w64 (bits s)) (pos 60)))) ≡ nat_abs s % 60
  seconds_is = rw (to_z-of_z f) (ap nat_abs (to_z-of_z (rem_fits s (pos 60) f)) ∙ abs_rem s (pos 60))

pub returns-clause-items : goal.returns-clause-items
unfolding clock marked
returns-clause-items g c =
    let s = c.args.seconds in
    let f = c.ranges.seconds in
    rw (
      c.put_marked.ensures.items,
      c.append_digits.ensures.items,
      divided_size s 3600 f (lit< tt),
      minutes_is s f,
      seconds_is s f,
    ) at c.put_marked-2.ensures.items
    ∙ simp append_assoc
