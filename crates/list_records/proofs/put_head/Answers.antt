-- `list_records::put_head` meets its contract.
use Rattle.std.proofs.Common.{◌≡◌, refl, ◌∙◌, ap, List, [], ◌∷◌, ◌++◌, ℕ, arith, drop, ◌/◌, ◌%◌}
use borrow.Rule.Slice.PartMut.{put_mid}
use Rattle.list_records.proofs.Parts.{part_first, part_next}
use Rattle.list_records.proofs.put_head.Goals as goal

pub returns : goal.returns
returns c =
    let room = c.args.room.now in
    let count = c.args.count in
    let mark : List ℕ = 83 ∷ 76 ∷ 84 ∷ [] in
    let version : List ℕ = 1 ∷ 0 ∷ [] in
    let number : List ℕ = count % 256 ∷ count / 256 % 256 ∷ [] in
    let first = c.copy_from_slice.ensures.after in
    let second : c.copy_from_slice-2.new.self ≡ version = c.copy_from_slice-2.ensures.after ∙ c.to_le_bytes.ensures in
    let third : c.copy_from_slice-3.new.self ≡ number = c.copy_from_slice-3.ensures.after ∙ c.to_le_bytes-2.ensures in
    (λ i. put_mid 5 2 (put_mid 3 2 (first i ++ drop 3 room) (second i)) (third i))
    ∙ ap (λ r. put_mid 5 2 (put_mid 3 2 r version) number) (part_first room mark 3 refl)
    ∙ ap (λ r. put_mid 5 2 r number) (part_next room mark version 3 2 refl refl (omega (arith, c.requires.0)))
    ∙ part_next room (mark ++ version) number 5 2 refl refl (omega (arith, c.requires.0))
