use Rattle.do_services.proofs.services.shown.Goals as goal
use Rattle.do_table.specs.{Entries.entry_shown, laws.TableLaws.shown_more}
use Rattle.do_services.specs.Core.{Entry, row}

pub loop-at-preserved : goal.loop-at-preserved
loop-at-preserved c =
    shown_more (λ (e : Entry). row e.1) c.args.services.now c.loop-at.at
    (entry_shown c.entry.result) c.loop-at.rows c.push.new.self c.in_ok-shown.field-0
    c.entry.ensures c.loop-at.invariant c.in_ok-shown.ensures c.in_ok-push.ensures.ok
