-- Demand 3 of the functions themselves: a chain of calls of `turning::turn`, or of `turbelicus_turn` from C. The first
-- is passed an accepted direction and each next what the call before it answered, by accepted turns out and by the
-- opposite ones in reverse order back. What the contract tells of these calls entails that every answer is a direction
-- of accepted length, and that the last leads back.
use Rattle.std.specs.Prelude.{◌≡◌, refl, List, [], ◌∷◌, ◌++◌, ◌*◌, ◌≤◌, length, pos, Result, Ok, Err}
use Rattle.std.proofs.Common.{ap, ◌∙◌, le_trans, arith}
use seplogic.Ra.Ura.{Ura}
use base.Logic.{SProp, ent, id⊢}
use prog.Memory.{Memory}
use prog.Routine.{Routine}
use types.Logic.{Logic}
use contract.Monad.{Fun, fact}
use Rattle.rules.specs.declared.Direction.{Direction}
use Rattle.rules.specs.Refusals.{given}
use Rattle.rules.specs.Answers.{turned_answer}
use Rattle.rules.specs.Length.{squares}
use Rattle.rules.specs.Turning.{Accepted, turned}
use Rattle.rules.specs.Chain.{Turn, AcceptedTurns, none, more, way_back, turned_by, Answers, Within}
use Rattle.laws.specs.WayBack.{append_accepted, way_back_accepted}
use Rattle.laws.proofs.WayBack.{turned_by_accepted, way_back_near}
use Rattle.answers.specs.Given.{direction_of}
use Rattle.answers.specs.Answers.{turned_out}
use Rattle.answers.specs.declared.turns.TurbelicusTurned.{TurbelicusTurned}
use Rattle.promises.specs.OfContracts.{Tells, so_told}
use Rattle.promises.specs.Calls.{Each, Call, all_told, all_tell}
use Rattle.promises.specs.ByContract.{turn_contract}
use Rattle.promises.specs.ByContractForC.{turbelicus_turn_contract}
use Rattle.turning.specs.contracts.turn as turn
use Rattle.module.specs.contracts.turns.turbelicus_turn as turbelicus_turn
use Rattle.rules.specs.declared.Refusal.{Refusal}

-- ---- chains of calls, in either form

-- what is read off a call of a turn
pub record Form (C : Type 0) : Type 1 where
  -- passed to it: the turn, and the direction to be turned
  pub turn : C → Turn
  pub from : C → Direction
  -- handed on by it
  pub to : C → Direction
  -- it answers a direction of accepted length, and refuses nothing
  pub Kept : C → Type 0

module _ {C : Type 0} (form : Form C) where
  -- the calls are by the turns of a list, and each is passed what the call before it hands on, the first of them v
  abbrev pub Chained : Direction → List Turn → List C → Type 0
  Chained v [] [] = Unit {0}
  Chained v [] (c ∷ cs) = ⊥
  Chained v (t ∷ ts) [] = ⊥
  Chained v (t ∷ ts) (c ∷ cs) = (form.turn c ≡ t) × (form.from c ≡ v) × Chained (form.to c) ts cs

  -- what the last of them hands on; v where there is none
  abbrev pub arrived : Direction → List C → Direction
  arrived v [] = v
  arrived v (c ∷ cs) = arrived (form.to c) cs

  -- every call is kept, and what the last hands on is within 32 times the number of turns of v
  pub record OutAndBack (v : Direction) (ts : List Turn) (cs : List C) : Type 0 where
    pub kept : Each form.Kept cs
    pub back : Within (32 * length ts) (arrived v cs) v

  -- what the rule answers is handed on and kept
  abbrev Follows : C → Type 0
  Follows c = (w : Direction) → turned (form.turn c).axis (form.turn c).angle (form.from c) ≡ Ok w
      → Accepted (squares w) → (form.to c ≡ w) × form.Kept c

  followed : (ts : List Turn) → AcceptedTurns ts → (v : Direction) → Accepted (squares v) → (cs : List C)
      → Chained v ts cs → Each Follows cs
      → Each form.Kept cs × (turned_by ts (Ok v) ≡ Ok (arrived v cs))
  followed [] none v h [] chain fs = (tt, refl)
  followed [] none v h (c ∷ cs) chain fs = absurd chain
  followed (t ∷ ts) (more k ks) v h [] chain fs = absurd chain
  followed (t ∷ ts) (more k ks) v h (c ∷ cs) chain fs =
      let a = turned_by_accepted (t ∷ []) (more k none) v h in
      let rule : turned (form.turn c).axis (form.turn c).angle (form.from c) ≡ Ok a.direction =
      rw (chain.0, chain.1) a.answer in
      let given = fs.0 a.direction rule a.holds in
      let rest = followed ts ks a.direction a.holds cs (rw given.0 at chain.2) fs.1 in
      ((given.1, rest.0), rw (a.answer, given.0) rest.1)

  led_back : (v : Direction) → Accepted (squares v) → (ts : List Turn) → AcceptedTurns ts → length ts ≤ 1000
      → (cs : List C) → Chained v (ts ++ way_back ts) cs → Each Follows cs
      → OutAndBack v ts cs
  led_back v h ts ks l cs chain fs =
      let f = followed (ts ++ way_back ts) (append_accepted ts ks (way_back_accepted ts ks)) v h cs chain fs in
      let n = way_back_near ts ks (omega arith) v h in
      let same : n.direction ≡ arrived v cs = cc (f.1, n.answer) in
      let more : 24 * length ts ≤ 32 * length ts = omega arith in
      let back : Within (32 * length ts) n.direction v = record {
        x = le_trans n.holds.x more;
        y = le_trans n.holds.y more;
        z = le_trans n.holds.z more;
      } in
      record { kept = f.0; back = rw same at back }

-- ---- turning::turn

-- the direction of an answer; noughts where it is refused
abbrev pub direction_in : Result Direction Refusal → Direction
direction_in (Ok w) = w
direction_in (Err r) = direction_of (pos 0) (pos 0) (pos 0)

module _ {M : Type 1} {𝓤 : Ura M} (𝓛 : Logic 𝓤) (mem : Memory → SProp 𝓤) (run : Routine → Fun 𝓤) where
  abbrev pub TurnCall : Type 0
  TurnCall = Call 𝓤 turn.ended (turn_contract 𝓛 mem run)

  abbrev pub turn_form : Form TurnCall
  turn_form = record {
    turn = λ c. record { axis = c.passed.1.0; angle = c.passed.1.1.0 };
    from = λ c. c.passed.0;
    to = λ c. direction_in c.answer;
    Kept = λ c. Answers (λ w. Accepted (squares w)) c.answer;
  }

  pub demand3_of_turn : (v : Direction) → Accepted (squares v) → (ts : List Turn) → AcceptedTurns ts
      → length ts ≤ 1000 → (cs : List TurnCall) → Chained turn_form v (ts ++ way_back ts) cs
      → ent 𝓤 (all_told 𝓤 turn.ended (turn_contract 𝓛 mem run) cs) (fact 𝓤 (OutAndBack turn_form v ts cs))
  demand3_of_turn v h ts ks l cs chain =
      so_told 𝓤 (all_tell 𝓤 turn.ended (turn_contract 𝓛 mem run) follows cs) (led_back turn_form v h ts ks l cs chain)
    where
      follows : Tells 𝓤 turn.ended (turn_contract 𝓛 mem run) (λ κs passed a x. (w : Direction)
          → turned passed.1.0 passed.1.1.0 passed.0 ≡ Ok w → Accepted (squares w)
          → (direction_in a ≡ w) × Answers (λ w. Accepted (squares w)) a)
      follows κs passed g a x = so_told 𝓤 (id⊢ 𝓤 _) (λ e w r k.
          (ap direction_in (e ∙ r), record { direction = w; answer = e ∙ r; holds = k }))

-- ---- turbelicus_turn

-- x, y, z of the struct that C gets
abbrev pub direction_got : TurbelicusTurned → Direction
direction_got a = direction_of a.x a.y a.z

-- `refused` is 0, and the direction has an accepted length
pub record Got (a : TurbelicusTurned) : Type 0 where
  pub answered : a.refused ≡ pos 0
  pub accepted : Accepted (squares (direction_got a))

got_of : (a : TurbelicusTurned) (t : Result Direction Refusal) (w : Direction) → a ≡ turned_out (turned_answer t) → t ≡ Ok w
    → Accepted (squares w) → (direction_got a ≡ w) × Got a
unfolding turned_out turned_answer given
got_of a t w e r k =
    let got = e ∙ ap (λ t. turned_out (turned_answer t)) r in
    let same : direction_got a ≡ w = ap direction_got got in
    (same, record { answered = ap (λ b. b.refused) got; accepted = rw same k })

module _ {M : Type 1} {𝓤 : Ura M} (𝓛 : Logic 𝓤) (mem : Memory → SProp 𝓤) (run : Routine → Fun 𝓤) where
  abbrev pub TurbelicusTurnCall : Type 0
  TurbelicusTurnCall = Call 𝓤 turbelicus_turn.ended (turbelicus_turn_contract 𝓛 mem run)

  abbrev pub turbelicus_turn_form : Form TurbelicusTurnCall
  turbelicus_turn_form = record {
    turn = λ c. record { axis = c.passed.1.1.1.0; angle = c.passed.1.1.1.1.0 };
    from = λ c. direction_of c.passed.0 c.passed.1.0 c.passed.1.1.0;
    to = λ c. direction_got c.answer;
    Kept = λ c. Got c.answer;
  }

  pub demand3_of_turbelicus_turn : (v : Direction) → Accepted (squares v) → (ts : List Turn) → AcceptedTurns ts
      → length ts ≤ 1000 → (cs : List TurbelicusTurnCall) → Chained turbelicus_turn_form v (ts ++ way_back ts) cs
      → ent 𝓤 (all_told 𝓤 turbelicus_turn.ended (turbelicus_turn_contract 𝓛 mem run) cs)
      (fact 𝓤 (OutAndBack turbelicus_turn_form v ts cs))
  demand3_of_turbelicus_turn v h ts ks l cs chain =
      so_told 𝓤 (all_tell 𝓤 turbelicus_turn.ended (turbelicus_turn_contract 𝓛 mem run) follows cs)
      (led_back turbelicus_turn_form v h ts ks l cs chain)
    where
      follows : Tells 𝓤 turbelicus_turn.ended (turbelicus_turn_contract 𝓛 mem run) (λ κs passed a x. (w : Direction)
          → turned passed.1.1.1.0 passed.1.1.1.1.0
          (direction_of passed.0 passed.1.0 passed.1.1.0) ≡ Ok w → Accepted (squares w)
          → (direction_got a ≡ w) × Got a)
      follows κs passed g a x = so_told 𝓤 (id⊢ 𝓤 _) (λ e w r k.
          got_of a _ w e r k)
