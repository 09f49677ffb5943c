use Rattle.do_streams.proofs.streams.Streams.new.Goals as goal
use Rattle.std.proofs.Common.{ap, sym, subst, ◌∙◌}
use Rattle.do_streams.specs.{Ordered.AllPlaced, Waits.Waits}
use Rattle.do_streams.proofs.{LinksRead.none_read, WaitingFrames.opened_ports}

-- no end has read a name yet, and the ports are those of the ends
pub invariant_of-result : goal.invariant_of-result
invariant_of-result c = record {
  known = none_read c.args.classes c.in_ok-ends.ends c.args.peers.now c.in_ok-ends.ensures;
  order = c.new-ports.ensures ∙ c.in_ok-from_slice.ensures ∙ c.as_slice.ensures
      ∙ opened_ports c.in_ok-ends.ends c.args.peers.now c.in_ok-ends.ensures;
  placed = subst (AllPlaced c.new-ports.result)
      (sym (ap (λ (w : Waits). w.frames) c.in_ok-waiting.ensures)) tt;
}
