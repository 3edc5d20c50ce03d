-- `night_list::night_list` meets its contract.
use Rattle.std.proofs.Common.{rules, ◌≡◌, sym, ◌∙◌, ap, Ok, arith, map, length, take, drop, append-nil, ◌++◌}
use Rattle.std.proofs.Math.Seq.{take-length, drop-length}
use Rattle.rules.specs.Night.{night_of}
use Rattle.rules.specs.NightList.{worked, marked, night_list, entries_after_night}
use Rattle.night_list.proofs.Checked.{worked_turn, accepted, refused}
use Rattle.night_list.proofs.night_list.Goals as goal

pub returns-in_err-night : goal.returns-in_err-night
unfolding night_list entries_after_night
returns-in_err-night c =
    let entries = c.args.entries.now in
    let all = refused (night_of c.args.moment c.args.site) entries _ (sym c.in_err-night.ensures) in
    (rw all.answer (search rules), sym all.after)

pub loop-entry-preserved : goal.loop-entry-preserved
loop-entry-preserved c =
    worked_turn c.in_ok-night.night c.args.entries.now c.loop-entry.entries c.loop-entry.entry-index _ c.worked.result
    c.loop-entry-test.true c.loop-entry.auto.entries c.loop-entry.invariant c.worked.ensures

pub returns : goal.returns
unfolding night_list entries_after_night
returns c =
    let n = c.in_ok-night.night in
    let entries = c.args.entries.now in
    let all = accepted (night_of c.args.moment c.args.site) entries n (sym c.in_ok-night.ensures) in
    let last : c.loop-entry.entry-index ≡ length entries = omega arith in
    let whole : c.loop-entry.entries ≡ map (worked n) entries =
    c.loop-entry.invariant ∙ ap (λ i. map (worked n) (take i entries) ++ drop i entries) last
    ∙ (λ i. map (worked n) (take-length entries i) ++ drop-length entries i) ∙ append-nil (map (worked n) entries) in (
      ap Ok (c.filled.ensures ∙ ap marked whole) ∙ sym all.answer,
      whole ∙ sym all.after,
    )
