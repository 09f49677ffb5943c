use Rattle.do_make.proofs.text.push_summary.Goals as goal
use Rattle.std.specs.Prelude.{codes}
use Rattle.do_make.{specs.Text.{done_text, left_text}, proofs.TextsBehind.four_behind}

-- its parts stand one behind another
pub returns : goal.returns
returns c = four_behind c.push_bytes-2.result c.args.out.now c.push_bytes.new.self
    c.push_done.new.out c.push_left.new.out c.push_bytes-2.new.self (codes "make 1\n")
    (done_text c.args.sum.now) (left_text c.args.sum.now) (codes "end\n")
    c.in_ok-push_bytes.ensures.ok c.in_ok-push_done.ensures c.in_ok-push_left.ensures
    c.push_bytes-2.ensures.ok
