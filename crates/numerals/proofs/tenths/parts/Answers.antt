-- `numerals::tenths::parts` meets its contract.
use Rattle.std.specs.Prelude.{◌≡◌, ◌-◌, ◌≤◌, ◌<◌, true, false, length, get_or}
use Rattle.std.proofs.Common.{sym, ◌∙◌, rules, eq-eqb, ne_eqb}
use Rattle.numerals.specs.Tenths.{has_point}
use Rattle.numerals.specs.TenthsParts.{point_none, point_at, before_is, after_is}
use Rattle.numerals.proofs.tenths.parts.Goals.{in_default-via-then-s-lt2, in_default-via-else-s-lt2+in_default-1}
use Rattle.numerals.proofs.tenths.parts.Goals as goal

pub returns-in-46 : goal.returns-in-46
returns-in-46 c =
    let s = c.args.s.now in
    let e : get_or s (length s - 2) 0 ≡ 46 = search rules in
    let p : has_point s ≡ true = sym (point_at s c.in-46.len_at_least) ∙ eq-eqb (get_or s (length s - 2) 0) 46 e in
    record { before = sym (before_is s true p); after = sym (after_is s true p) }

pub returns-in_default : goal.returns-in_default
returns-in_default c =
    let s = c.args.s.now in
    let p : has_point s ≡ false =
    elim c.in_default.branch [
      | in_default-via-then-s-lt2 w ↦ (let h : length s < 2 = search rules in sym (point_none s h))
      | in_default-via-else-s-lt2+in_default-1 w ↦ (
          let h : 2 ≤ length s = search rules in
          let e : get_or s (length s - 2) 0 ≡ 46 → ⊥ = search rules in
          sym (point_at s h) ∙ ne_eqb (get_or s (length s - 2) 0) 46 e
          )
    ] in
    record { before = sym (before_is s false p); after = sym (after_is s false p) }
