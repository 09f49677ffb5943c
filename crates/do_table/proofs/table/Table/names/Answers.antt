use Rattle.do_table.proofs.table.Table.names.Goals as goal
use Rattle.do_table.specs.{Entries.entry_shown, laws.TableLaws.shown_more}

pub loop-at-preserved : goal.loop-at-preserved
loop-at-preserved g c =
    shown_more (λ e. e.0) c.args.self.now c.loop-at.at (entry_shown c.entry.result)
    c.loop-at.names c.push.new.self c.in_ok-clone.field-0 c.entry.ensures c.loop-at.invariant
    c.in_ok-clone.ensures.cases c.in_ok-push.ensures.ok
