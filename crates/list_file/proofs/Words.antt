-- The word that the bytes from a place on begin with.
use Rattle.std.proofs.Common.{◌≡◌, refl, ◌∙◌, ap, List, ℕ, ◌-◌, length, take, drop}
use Rattle.std.proofs.lemmas.List.{take_rest}
use Rattle.rules.specs.Bytes.{unsigned_at, part}

from : (at : ℕ) (bytes : List ℕ) → unsigned_at 0 2 (drop at bytes) ≡ unsigned_at at 2 bytes
unfolding unsigned_at part
from at bytes = refl

pub word_at : (at : ℕ) (bytes : List ℕ) → unsigned_at 0 2 (take (length bytes - at) (drop at bytes)) ≡ unsigned_at at 2 bytes
word_at at bytes = ap (unsigned_at 0 2) (take_rest bytes at) ∙ from at bytes
