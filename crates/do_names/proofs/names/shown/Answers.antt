use Rattle.do_names.proofs.names.shown.Goals as goal
use Rattle.do_table.specs.{Entries.entry_shown, laws.TableLaws.shown_more}
use Rattle.do_names.specs.Core.{row}

pub loop-at-preserved : goal.loop-at-preserved
loop-at-preserved c =
    shown_more row c.args.ports.now c.loop-at.at (entry_shown c.entry.result) c.loop-at.rows
    c.push.new.self c.in_ok-row.field-0 c.entry.ensures c.loop-at.invariant c.in_ok-row.ensures
    c.in_ok-push.ensures.ok
