-- Which entries there are.
use Rattle.std.{proofs.Common.{◌≡◌, ◌==◌, ℕ, false, arith}, specs.Prelude.Some}
use Rattle.do_base.specs.names.Names.{ObjectName}
use Rattle.do_machine.specs.declared.{node.Node.Node, state.{Effect.Effect, State.State}}
use Rattle.do_machine.specs.{Commit.commit, Entry.has_entry, State.{is_open, node}}
use Rattle.do_facts.proofs.machine.Frame.{elsewhere}

-- over a closed end there is no entry
pub none_over_closed : (S : State) (peer : ℕ) (o : ObjectName) (home : Node) →
    node S o.node ≡ Some home → is_open home peer ≡ false → has_entry S peer o ≡ false
none_over_closed S peer o home h closed = grind (arith, h, closed)

-- an effect of a third node changes neither of the two, nor their queues
pub entry_stays : (port peer : ℕ) (o : ObjectName) (e : Effect) (S : State) →
    (o.node == port) ≡ false → (peer == port) ≡ false →
    has_entry (commit port e S) peer o ≡ has_entry S peer o
entry_stays port peer o e S h k =
    rw (elsewhere port o.node e S.stations h, elsewhere port peer e S.stations k)
