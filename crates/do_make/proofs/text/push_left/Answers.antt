use Rattle.do_make.proofs.text.push_left.Goals as goal
use Rattle.do_make.proofs.TextsBehind.{left_behind}

-- four lines stand one behind another
pub returns : goal.returns
returns c = left_behind c.push_counted-4.result c.args.out.now c.push_counted.new.out
    c.push_counted-2.new.out c.push_counted-3.new.out c.push_counted-4.new.out c.args.sum.now
    c.in_ok-push_counted.ensures c.in_ok-push_counted-2.ensures c.in_ok-push_counted-3.ensures
    c.push_counted-4.ensures
