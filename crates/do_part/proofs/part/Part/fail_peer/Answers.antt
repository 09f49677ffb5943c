use Rattle.do_part.proofs.part.Part.fail_peer.Goals as goal
use Rattle.std.{proofs.Common.{ap, ◌∙◌, map, eqb}, specs.Prelude.{filter, not}}
use Rattle.do_machine.specs.{declared.node.LateCall.LateCall, ends.Closing.without_answer}
use Rattle.do_part.specs.{Names.stack_of, Seen.own_of}
use Rattle.do_part.proofs.Numbering.{eased-each, late-filter, numbered_ended}
use Rattle.do_part.proofs.{Stacking.{died-eases, died-moves}, Turning.sound_stacked}

-- the part is sound with the calls to the peer answered
pub invariant_of-self : goal.invariant_of-self
invariant_of-self c =
    let i = c.self.inside in
    let k = c.fail_peer.new.self in
    let e = c.fail_peer.ensures in
    sound_stacked i c.self.invariant k i.next_call
    (λ o. ap (λ l. stack_of l o) e.invocations
    ∙ died-moves c.args.peer i.stack.invocations o)
    (numbered_ended i c.self.invariant k (map (without_answer c.args.peer) i.stack.invocations)
    (filter (λ (d : LateCall). not (eqb d.peer c.args.peer)) i.stack.late)
    (eased-each (without_answer c.args.peer) i.stack.invocations
    (λ x. died-eases c.args.peer x.state))
    (late-filter (λ (d : LateCall). not (eqb d.peer c.args.peer)) i.stack.late) e.invocations
    e.late)

-- each that waited for the peer has the answer, and no late call to it is left
pub returns-clause-own : goal.returns-clause-own
returns-clause-own c =
    let i = c.self.inside in
    let e = c.fail_peer.ensures in
    rw (← c.self.view_is) (λ j. record (own_of i) {
      node = record (own_of i).node { stack = e.invocations j; late = e.late j };
    })
