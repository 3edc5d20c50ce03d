-- `list_file::star_in` meets its contract.
use Rattle.std.proofs.Common.{◌≡◌, ◌∙◌, ap, arith, List, ℕ, ◌+◌, ◌≤◌, length, take, drop, length-drop, ℤ, to_z, of_z, w32}
use Rattle.std.proofs.lemmas.List.{length-take-le, take-take}
use Rattle.words.specs.Fits.{held64, held32}
use Rattle.rules.specs.Bytes.{signed_at}
use Rattle.rules.specs.ListFile.{star_in}
use Rattle.rules.specs.Bytes.{signed_of, unsigned_at, of_bytes, part}
use Rattle.list_file.proofs.star_in.Goals as goal

module _ (at count : ℕ) (bytes : List ℕ) (l : at + count ≤ length bytes) where
  long : length (take count (drop at bytes)) ≡ count
  long = length-take-le count (drop at bytes) (omega (arith, l, length-drop at bytes))

  -- the number of some bytes is that of the file at their place
  number_is : signed_at 0 (length (take count (drop at bytes))) (take count (drop at bytes)) ≡ signed_at at count bytes
  unfolding signed_at unsigned_at part
  number_is =
      ap (λ n. signed_of n (of_bytes (take n (take count (drop at bytes))))) long
      ∙ ap (λ r. signed_of count (of_bytes r)) (take-take count count (drop at bytes) (omega arith))

pub returns : goal.returns
unfolding star_in
returns c =
    let bytes = c.args.bytes.now in
    let r₁ = c.number_in in
    let r₂ = c.number_in-2 in
    let r₃ = c.number_in-3 in
    let r₄ = c.number_in-4 in
    let third : 16 + 4 ≤ length bytes = omega (arith, c.requires) in
    let fourth : 20 + 4 ≤ length bytes = omega (arith, c.requires) in
    let ra = held64 r₁.result r₁.type_inv ∙ r₁.ensures.0 ∙ number_is 0 8 bytes (omega (arith, c.requires)) in
    let declination = held64 r₂.result r₂.type_inv ∙ r₂.ensures.0 ∙ number_is 8 8 bytes (omega (arith, c.requires)) in
    let ra_motion = ap (λ (z : ℤ). to_z w32 (of_z w32 z)) (held64 r₃.result r₃.type_inv)
    ∙ held32 r₃.result (rw (long 16 4 bytes third) at r₃.ensures.1) ∙ r₃.ensures.0 ∙ number_is 16 4 bytes third in
    let declination_motion = ap (λ (z : ℤ). to_z w32 (of_z w32 z)) (held64 r₄.result r₄.type_inv)
    ∙ held32 r₄.result (rw (long 20 4 bytes fourth) at r₄.ensures.1) ∙ r₄.ensures.0 ∙ number_is 20 4 bytes fourth in
    λ i. record {
      ra = ra i;
      declination = declination i;
      ra_motion = ra_motion i;
      declination_motion = declination_motion i;
    }
