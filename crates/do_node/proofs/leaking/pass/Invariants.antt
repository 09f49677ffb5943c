-- The lines that are left lead from where the network is to where all lead.
use Rattle.do_node.proofs.leaking.pass.Given as goal
use Rattle.std.{proofs.Common.◌≡◌, specs.Vec.Iter.into_iter_items}
use Rattle.do_machine.specs.declared.state.State.{State}
use Rattle.do_net.specs.{Net.{Stands, network}, OneMachine.StandsFor}
use Rattle.do_replay.specs.Replayed.{state_after}
use Rattle.do_node.proofs.LeaksLast.{LeadsOn}

abbrev pub invariant-loop-line : goal.invariant-loop-line
invariant-loop-line g l =
    let seen = g.S.Hosted.seen in
    let table = l.fn.net.table in
    let act = g.S.Acts.Behaviour.act l.fn.net.acts in
    record {
      leads : (state : State) → StandsFor table act (network seen l.fn.net) state →
          LeadsOn table act (state_after table act state l.fn.lines) (network seen l.net)
          (into_iter_items l.line-iterator);
      stands : Stands seen (g.S.Acts.Behaviour.act l.net.acts) l.net;
      table : l.net.table ≡ l.fn.net.table;
      acts : l.net.acts ≡ l.fn.net.acts;
    }
