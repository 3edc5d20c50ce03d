-- `line_places::command::command_of` meets its contract.
use Rattle.std.proofs.Common.{◌≡◌, sym, ◌∙◌, arith, rules}
use Rattle.line_places.specs.Commands.{command_of_2, command_of_3, command_of_4, command_of_5}
use Rattle.line_places.specs.Commands.{command_of_another, command_else}
use Rattle.line_places.proofs.Words.{people_is}
use Rattle.line_places.proofs.command.command_of.Goals as goal

pub returns-in-2 : goal.returns-in-2
returns-in-2 c = sym (command_of_2 _ _ _ _ c.in-2.is)

pub returns-in-3 : goal.returns-in-3
returns-in-3 c =
    let w = people_is _ _ _ c.eq-people.ensures c.as_slice.ensures in
    rw c.if-people.true (sym (command_of_3 _ _ _ _ c.in-3.is (w ∙ c.if-people.true)))

pub returns-in-4 : goal.returns-in-4
returns-in-4 c = c.with_air.ensures ∙ sym (command_of_4 _ _ _ _ c.in-4.is)

pub returns-in-5 : goal.returns-in-5
returns-in-5 c =
    let w = people_is _ _ _ c.eq-people.ensures c.as_slice.ensures in
    (rw c.if-people-2.true at c.with_air-in-5.ensures) ∙ sym (command_of_5 _ _ _ _ c.in-5.is (w ∙ c.if-people-2.true))

pub returns-in_default : goal.returns-in_default
returns-in_default c =
    let w = people_is _ _ _ c.eq-people.ensures c.as_slice.ensures in
    sym (command_of_another c.args.words c.args.third.now c.args.fourth.now c.args.fifth.now
    (λ e. absurd (omega (arith, e, c.in-3.is))) (λ e. absurd (omega (arith, e, c.in-3.is))) (w ∙ c.if-people.false))

pub returns-in_default-2 : goal.returns-in_default-2
returns-in_default-2 c =
    let w = people_is _ _ _ c.eq-people.ensures c.as_slice.ensures in
    sym (command_of_another c.args.words c.args.third.now c.args.fourth.now c.args.fifth.now
    (λ e. absurd (omega (arith, e, c.in-5.is))) (λ e. absurd (omega (arith, e, c.in-5.is))) (w ∙ c.if-people-2.false))

pub returns-in_default-3 : goal.returns-in_default-3
returns-in_default-3 c =
    let two : c.args.words ≡ 2 → ⊥ = search rules in
    let four : c.args.words ≡ 4 → ⊥ = search rules in
    let three : c.args.words ≡ 3 → ⊥ = search rules in
    let five : c.args.words ≡ 5 → ⊥ = search rules in
    sym (command_else c.args.words c.args.third.now c.args.fourth.now c.args.fifth.now two four three five)
