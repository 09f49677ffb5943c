-- The leaks up to here were added.
use Rattle.do_net_lost.proofs.text.push_leaks.Given as goal
use Rattle.std.proofs.Common.{◌≡◌, ◌++◌, map, take}
use Rattle.do_lines.specs.Lines.{joined}
use Rattle.do_lost.specs.Text.{leak_line}
use Rattle.do_net.specs.Net.{network}
use Rattle.do_net_named.specs.Lost.{net_class}

abbrev pub invariant-loop-leak : goal.invariant-loop-leak
invariant-loop-leak g l =
    l.out ≡ l.fn.out
    ++ joined (map (leak_line l.net.table (net_class (network g.S.Hosted.seen l.net)))
    (take l.leak-index l.leak-items))
