use Rattle.do_part.proofs.part.Part.end_late.Goals as goal
use Rattle.std.{proofs.Common.ap, specs.Prelude.not}
use Rattle.do_machine.specs.declared.node.LateCall.{LateCall}
use Rattle.do_machine.specs.take.Awaiting.{AnsweredCall, is_answered, late_answered}
use Rattle.do_part.{specs.Names.stack_of, proofs.Numbering.{eased-same, late-filter}}
use Rattle.do_part.proofs.{Numbering.numbered_ended, Turning.sound_stacked}

-- the part is sound without the late call
pub invariant_of-self : goal.invariant_of-self
invariant_of-self c =
    let i = c.self.inside in
    let call : AnsweredCall = record {
      peer = c.args.peer;
      number = c.args.number;
      root = c.args.root;
    } in
    sound_stacked i c.self.invariant c.late.new.self i.next_call
    (λ o. ap (λ l. stack_of l o) c.late.ensures.invocations)
    (numbered_ended i c.self.invariant c.late.new.self i.stack.invocations
    (late_answered call i.stack.late) (eased-same i.stack.invocations)
    (late-filter (λ (d : LateCall). not (is_answered call d.peer d.number d.what)) i.stack.late)
    c.late.ensures.invocations c.late.ensures.late)
