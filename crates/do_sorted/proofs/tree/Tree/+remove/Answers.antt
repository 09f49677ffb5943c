use Rattle.do_sorted.proofs.tree.Tree.+remove.Goals as goal
use Rattle.std.proofs.Common.{rules, ◌-◌}
use Rattle.do_sorted.proofs.Sides.{remove_behind, remove_here, slice_get_here, first_off}

-- taken out behind the item of a node, an item is taken out so far behind the first one
pub returns-then-at-here-2-clause-rest : goal.returns-then-at-here-2-clause-rest
returns-then-at-here-2-clause-rest g t c =
    let is = remove_behind c.in-Fork.before.value c.in-Fork.behind.value c.in-Fork.item c.args.at
    (c.args.at - c.len-here.result - 1) in
    search rules

-- the item of a node with nothing behind it stands behind those before it
pub returns-then-len-eq0-clause-item : goal.returns-then-len-eq0-clause-item
returns-then-len-eq0-clause-item g t c =
    let is = slice_get_here c.in-Fork.before.value c.in-Fork.behind.value c.in-Fork.item c.args.at
    in
    search rules

-- the item of a node stands behind those before it
pub returns-clause-item : goal.returns-clause-item
returns-clause-item g t c =
    let is = slice_get_here c.in-Fork.before.value c.in-Fork.behind.value c.in-Fork.item c.args.at
    in
    search rules

-- the first item behind that of a node takes its place
pub returns-clause-rest : goal.returns-clause-rest
returns-clause-rest g t c =
    let is = remove_here c.in-Fork.before.value c.in-Fork.behind.value c.in-Fork.item c.args.at in
    let all = first_off c.deref_mut-2.result.now _ c.remove-next.ensures.item in
    search rules
