-- `line_places::printing::put_entries` meets its contract: after the header stand the lines of the entries passed.
use Rattle.std.proofs.Common.{◌≡◌, ap, ◌∙◌, arith, length, ◌++◌, List, [], ◌∷◌, ℕ, Option}
use Rattle.rules.specs.Times.{ended}
use Rattle.line_entries.specs.declared.air.Air.{Air}
use Rattle.line_places.specs.Program.{header_in}
use Rattle.line_places.specs.Listed.{listed_line}
use Rattle.line_places.specs.Lines.{header_le, none_put, one_more, all_put}
use Rattle.line_places.proofs.printing.put_entries.Goals as goal

-- the header stands alone before the lines
headed : (before after : List ℕ) (air : Option Air) → before ≡ [] → after ≡ before ++ ended (header_in air ∷ [])
    → after ≡ ended (header_in air ∷ [])
headed before after air e f = f ∙ ap (λ l. l ++ ended (header_in air ∷ [])) e

pub loop-index-init : goal.loop-index-init
loop-index-init c =
    let h = headed _ _ c.args.command.air c.requires.room c.put_header.ensures in
    record { lines = none_put _ _; short = omega (arith, ap length h, header_le c.args.command.air) }

pub loop-index-preserved : goal.loop-index-preserved
unfolding listed_line
loop-index-preserved c =
    let l = c.loop-index in
    record {
      lines = one_more (listed_line c.args.command.people c.args.command.air c.args.entries.now)
          c.put_header.new.out.items l.index c.put_line.new.out.items l.invariant.lines c.put_line.ensures.items;
      short = omega (arith, c.put_line.ensures.short, l.invariant.short);
    }

pub put_line-requires-clause-room : goal.put_line-requires-clause-room
put_line-requires-clause-room c =
    omega (arith, c.loop-index-test.true, c.loop-index.invariant.short, c.requires.few)

pub returns : goal.returns
returns c =
    let l = c.loop-index in
    let h = headed _ _ c.args.command.air c.requires.room c.put_header.ensures in
    let all : l.index ≡ length c.args.entries.now = omega (arith, l.auto.index-end, c.loop-index-test.false) in
    all_put (listed_line c.args.command.people c.args.command.air c.args.entries.now) c.put_header.new.out.items
    (header_in c.args.command.air) (length c.args.entries.now) l.index all h l.invariant.lines
