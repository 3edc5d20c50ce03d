-- Sizes of quotients in 64 bits.
use Rattle.std.specs.Prelude.{◌≡◌, ℕ, ◌/◌, ◌<◌, ℤ, pos, nat_abs}
use Rattle.std.proofs.Common.{ap, ◌∙◌, lt→ltb, SFits, to_z, to_z-of_z}
use Rattle.std.specs.Int.Signed.{quot_z}
use Rattle.std.specs.Int.{w64}
use Rattle.integers.specs.Quotient.{abs_quot}
use Rattle.words.specs.Holds.{bits}
use Rattle.words.specs.Fits.{quot_fits}

pub divided_ok : (x : ℤ) (d : ℕ) → SFits w64 x → 0 < d
    → (0 < d) × SFits w64 (quot_z (to_z w64 (bits x)) (pos d))
divided_ok x d f p = (p, rw (to_z-of_z f) (quot_fits x (pos d) f (record { lt = lt→ltb 0 d p })))

pub divided : (x : ℤ) (d : ℕ) → SFits w64 x → 0 < d
    → to_z w64 (bits (quot_z (to_z w64 (bits x)) (pos d))) ≡ quot_z x (pos d)
divided x d f p = rw (to_z-of_z f) (to_z-of_z (quot_fits x (pos d) f (record { lt = lt→ltb 0 d p })))

pub divided_size : (x : ℤ) (d : ℕ) → SFits w64 x → 0 < d
    → nat_abs (to_z w64 (bits (quot_z (to_z w64 (bits x)) (pos d)))) ≡ nat_abs x / d
divided_size x d f p = ap nat_abs (divided x d f p) ∙ abs_quot x (pos d)
