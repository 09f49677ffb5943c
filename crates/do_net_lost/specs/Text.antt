-- What nothing can reach in a network, as a text.
use Rattle.std.specs.Prelude.{List, ℕ}
use Rattle.do_class.specs.Class.{Class}
use Rattle.do_leaks.specs.Leaks.{leaks}
use Rattle.do_lost.specs.Text.{leaks_text}
use Rattle.do_network.specs.{Net.Net, Snapshot.net_snapshot}
use Rattle.do_net_named.specs.{Lost.{net_class, net_still}, Named.net_named}

-- the stored objects of a network that nothing can reach
abbrev pub net_lost_text : List Class → Net → List ℕ
net_lost_text table N =
    leaks_text table (net_still N) (net_class N) (leaks (net_snapshot N) (net_named table N))
