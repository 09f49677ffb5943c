-- What is told beside what nothing can reach in a network: classes, and whether all is still.
use Rattle.std.specs.Prelude.{Bool, List, None, Option, Some, length, option_and_then, true, ℕ}
use Rattle.std.specs.{Prelude.{◌==◌, ◌≡◌}, List.list_all}
use Rattle.do_base.specs.names.Names.{ObjectName}
use Rattle.do_class.specs.declared.ids.ClassId.{ClassId}
use Rattle.do_leaks.specs.declared.leak.Leak.{Leak}
use Rattle.do_machine.specs.{Context.own_class, State.class_of, World.others}
use Rattle.do_machine.specs.declared.state.State.{State}
use Rattle.do_network.specs.Net.{Channel, Net, channel, net_ports, part_at}

-- the class of an object that is stored at its home
abbrev pub net_class : Net → ObjectName → Option ClassId
net_class N o = option_and_then (λ p. own_class p.own.node o.serial) (part_at N o.node)

-- nothing stands in a channel, if there is one
abbrev pub is_still : Option Channel → Bool
is_still None = true
is_still (Some c) = length c.waiting == 0

-- nothing is under way from one node to these
abbrev pub is_still_from : Net → ℕ → List ℕ → Bool
is_still_from N from peers = list_all (λ to. is_still (channel N from to)) peers

-- nothing is under way in a network
abbrev pub net_still : Net → Bool
net_still N =
    list_all (λ from. is_still_from N from (others (net_ports N) from)) (net_ports N)

-- the classes of a leak and of its holder in a network are those of a state
abbrev pub HasClassesOf : Net → State → Leak → Type 0
HasClassesOf N S l =
    (net_class N l.oid ≡ class_of S l.oid) × (net_class N l.holder ≡ class_of S l.holder)
