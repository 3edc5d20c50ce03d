-- Number and values of what a command says, and of what a file and a line come to, are one-to-one, as those of document
-- 01's answers are.
use Rattle.std.specs.Prelude.{◌≡◌, refl, Bool, true, false, cond, [], nat_abs, drop, Ok, Option, Some, None}
use Rattle.std.proofs.Common.{sym, ap, ◌∙◌, arith, lit<}
use Rattle.rules.specs.declared.Night.{Night}
use Rattle.rules.specs.Units.{+◌}
use Rattle.rules.specs.Refusals.{given, other_form}
use Rattle.rules.specs.Answers.{prepared_answer}
use Rattle.laws.specs.Refusals.{at, never, same_refusal, same_values, other_never, prepared_one}
use Rattle.line_entries.specs.declared.air.Air.{Air}
use Rattle.line_places.specs.declared.command.Command.{Command}
use Rattle.line_places.specs.Air.{air_answer, command_answer}
use Rattle.line_places.specs.Answers.{Begun, begun_answer}
use Rattle.line_places.specs.Air.{command_for, air_of}

-- ---- what a command says

pub air_one : (a b : Option Air) → air_answer a ≡ air_answer b → a ≡ b
unfolding air_answer other_form
air_one None None e = refl
air_one None (Some b) e = other_never _ (lit< tt) (sym e)
air_one (Some a) None e = other_never _ (lit< tt) e
air_one (Some a) (Some b) e = ap (λ zs. Some (air_of (at zs 0) (at zs 1))) (same_values _ _ e)

people_one : (a b : Bool) → nat_abs (cond a (+ 1) (+ 0)) ≡ nat_abs (cond b (+ 1) (+ 0)) → a ≡ b
people_one true true e = refl
people_one true false e = absurd (omega (arith, e))
people_one false true e = absurd (omega (arith, e))
people_one false false e = refl

-- the values of an air are those of its answer
values_one : (a b : Option Air) → (air_answer a).values ≡ (air_answer b).values → a ≡ b
unfolding air_answer given
values_one a b e = air_one a b (given_is a ∙ ap given e ∙ sym (given_is b))
  where
    given_is : (a : Option Air) → air_answer a ≡ given (air_answer a).values
    given_is None = refl
    given_is (Some air) = refl

pub command_one : (a b : Option Command) → command_answer a ≡ command_answer b → a ≡ b
unfolding command_answer
command_one (Some c) (Some d) e =
    let v = same_values _ _ e in
    let people : c.people ≡ d.people = people_one c.people d.people (ap (λ zs. nat_abs (at zs 0)) v) in
    let air : c.air ≡ d.air = values_one c.air d.air (ap (drop 1) v) in
    (λ i. Some (command_for (people i) (air i)))
command_one (Some c) None e = other_never _ (omega arith) e
command_one None (Some d) e = other_never _ (omega arith) (sym e)
command_one None None e = refl

-- ---- what a file and a line come to

-- a night by its 20 numbers
night_one : (n m : Night) → (prepared_answer (Ok n)).values ≡ (prepared_answer (Ok m)).values → n ≡ m
unfolding prepared_answer given
night_one n m e = let p = prepared_one (Ok n) (Ok m) (ap given e) in cc

pub begun_one : (a b : Begun) → begun_answer a ≡ begun_answer b → a ≡ b
unfolding begun_answer other_form
begun_one (Begun.For c n) (Begun.For d m) e =
    let v = same_values _ _ e in
    let count : c ≡ d = ap (λ zs. nat_abs (at zs 0)) v in
    let night : n ≡ m = night_one n m (ap (drop 1) v) in
    (λ i. Begun.For (count i) (night i))
begun_one (Begun.For c n) (Begun.Refused s) e = never s 21 _ e
begun_one (Begun.For c n) Begun.Other e = other_never _ (omega arith) e
begun_one (Begun.Refused r) (Begun.For d m) e = never r 21 _ (sym e)
begun_one (Begun.Refused r) (Begun.Refused s) e = ap Begun.Refused (same_refusal r s 21 e)
begun_one (Begun.Refused r) Begun.Other e = never r 21 [] (sym e)
begun_one Begun.Other (Begun.For d m) e = other_never _ (omega arith) (sym e)
begun_one Begun.Other (Begun.Refused s) e = never s 21 [] e
begun_one Begun.Other Begun.Other e = refl
