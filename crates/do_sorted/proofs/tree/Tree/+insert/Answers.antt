use Rattle.do_sorted.proofs.tree.Tree.+insert.Goals as goal
use Rattle.std.proofs.Common.{rules, ◌-◌}
use Rattle.do_sorted.proofs.Sides.{insert_behind}

-- put in behind the item of a node, an item is put in so far behind the first one
pub returns : goal.returns
returns g t c =
    let is = insert_behind c.in-Fork.before.value c.in-Fork.behind.value c.in-Fork.item c.args.new
    c.args.at (c.args.at - c.len-here.result - 1) in
    search rules
