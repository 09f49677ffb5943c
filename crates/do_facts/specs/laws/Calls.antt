-- What is left of calls and lends that are over.
use Rattle.do_machine.specs.declared.item.Item.TheVariants as items
use Rattle.std.specs.{Prelude.{All, Bool, List, false, true, ℕ, ◌==◌, ◌≡◌, ◌∷◌}, List.list_any}
use Rattle.do_base.specs.{names.Names.CallName, declared.events.exception.Exc.TheVariants.TimedOut}
use Rattle.do_behave.specs.declared.invocation.{Answer.TheVariants.Raised, Invocation.Invocation}
use Rattle.do_behave.specs.declared.invocation.InvState.{InvState, TheVariants.Waits}
use Rattle.do_behave.specs.declared.invocation.Waited.{Waited}
use Rattle.do_machine.specs.declared.{item.Item.Item, node.Node.Node, state.Effect.Effect}
use Rattle.do_machine.specs.{State.is_open, run.Changes.answered}
use Rattle.do_machine.specs.take.Awaiting.{AnsweredCall, is_answered, is_for_root}

-- an item that ends a lend
abbrev pub is_settled : Item → Bool
is_settled (items.Settled number) = true
is_settled _ = false

-- an invocation of this state waits for an answer of the peer
abbrev pub waits_on : ℕ → InvState → Bool
waits_on peer (Waits call p what) = p == peer
waits_on peer _ = false

-- the node has nothing with a peer: no open end, object held, lend, ask, late call or call
pub record IsParted (peer : ℕ) (n : Node) : Type 0 where
  pub ends : is_open n peer ≡ false
  pub held : All (λ o. (o.node == peer) ≡ false) n.held
  pub lent : All (λ l. (l.borrower == peer) ≡ false) n.lent
  pub asked : All (λ w. (w.object.node == peer) ≡ false) n.asked
  pub late : All (λ c. (c.peer == peer) ≡ false) n.late
  pub calls : All (λ i. waits_on peer i.state ≡ false) n.stack

-- a call that is answered, by what was asked of the peer
abbrev pub answered_call : CallName → ℕ → Waited → AnsweredCall
answered_call call peer what = record { peer = peer; number = call.number; root = is_for_root what }

-- a call was given up: its invocation has an exception, and it is late
pub record IsGivenUp (i : Invocation) (below : List Invocation) (call : CallName) (peer : ℕ)
    (what : Waited) (e : Effect) : Type 0 where
  pub stack : e.node.stack ≡ answered (Raised TimedOut) i ∷ below
  pub late : list_any (λ c. is_answered (answered_call call peer what) c.peer c.number c.what)
      e.node.late ≡ true
