-- How a node closes its end of the connection to a peer.
use Rattle.do_machine.specs.declared.item.Item.TheVariants as items
use Rattle.std.specs.Prelude.{List, filter, if◌then◌else◌, map, not, ℕ, ◌==◌}
use Rattle.do_base.specs.names.Names.{ObjectName}
use Rattle.do_base.specs.declared.events.exception.Exc.TheVariants.{ConnectionDied}
use Rattle.do_behave.specs.declared.invocation.{Invocation.Invocation, InvState.InvState}
use Rattle.do_behave.specs.declared.invocation.Answer.TheVariants.{Raised}
use Rattle.do_behave.specs.declared.invocation.InvState.TheVariants.{Answered, Waits}
use Rattle.do_machine.specs.declared.{node.{Node.Node, Wanted.Wanted}, state.Effect.Effect}
use Rattle.do_machine.specs.{Effect.{each, queueing, ◌>>=◌}, lend.Asking.settling}

-- the serials of a peer's objects
abbrev pub serials_of : ℕ → List ObjectName → List ℕ
serials_of peer os = map (λ o. o.serial) (filter (λ o. o.node == peer) os)

-- an invocation that waits for a call to the peer is answered
abbrev pub died : ℕ → InvState → InvState
died peer (Waits call p what) =
    if p == peer then Answered (Raised ConnectionDied) else Waits call p what
died peer state = state

-- an invocation that loses the peer whose answer it waits for
abbrev pub without_answer : ℕ → Invocation → Invocation
without_answer peer i = record i { state = died peer i.state }

-- the node without what it had with the peer: objects held, lends, asks, late calls and calls
abbrev pub parted : ℕ → Node → Node
parted peer n = record n {
  open_to = filter (λ p. not (p == peer)) n.open_to;
  held = filter (λ o. not (o.node == peer)) n.held;
  lent = filter (λ l. not (l.borrower == peer)) n.lent;
  asked = filter (λ w. not (w.object.node == peer)) n.asked;
  late = filter (λ c. not (c.peer == peer)) n.late;
  stack = map (without_answer peer) n.stack;
}

-- the asks that a peer was to answer
abbrev pub asked_of : ℕ → Node → List Wanted
asked_of peer n = filter (λ w. w.object.node == peer) n.asked

-- the peer is told which of its objects are no longer held, and the lenders of those asked for that
-- their lends are over
abbrev pub closing : ℕ → Node → Effect
closing peer n = do
  m ← queueing peer (items.End (serials_of peer n.held)) (parted peer n)
  each settling (asked_of peer n) m
