use Rattle.do_record.proofs.reading.add_shown.Goals as goal
use Rattle.do_record.proofs.records.Showing.{shown_added}

pub returns : goal.returns
returns c = shown_added c.args.line.now c.args.blocks.now c.pop.new.self c.push-2.new.self
    c.in-Some.block c.push_bytes.new.self c.push.new.self c.in-Some.ensures
    c.in_ok-push_bytes.ensures.ok c.in_ok-push.ensures.ok c.in_ok-push-2.ensures.ok
