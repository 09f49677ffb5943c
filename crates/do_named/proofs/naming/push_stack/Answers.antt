use Rattle.do_named.proofs.naming.push_stack.Goals as goal
use Rattle.std.{proofs.Common.{◌∙◌, ap}, specs.Option.option_copied}
use Rattle.do_named.proofs.StackTurn.{stack_has, stack_turn}
use Rattle.do_named.proofs.naming.push_stack.Goals.{in-Some+in_ok-push_invocation, in_default}

pub loop-below-preserved : goal.loop-below-preserved
loop-below-preserved c =
    let stack = c.args.part.now.own.node.stack in
    let depth = c.depth-depth.result in
    let same = c.depth-depth.ensures.value in
    let within = c.loop-below-test.true in
    elim c.match-at.branch [
      | in-Some+in_ok-push_invocation w ↦
          stack_turn stack depth c.loop-below.below same within (option_copied c.at.result)
          c.at.ensures.within w.in-Some.invocation.now (ap option_copied w.in-Some.is)
          c.args.objects.now c.loop-below.objects c.match-at.objects c.loop-below.invariant
          (w.objects-is ∙ w.in_ok-push_invocation.ensures)
      | in_default w ↦
          absurd (stack_has stack depth c.loop-below.below same within
          (option_copied c.at.result) c.at.ensures.within (ap option_copied w.in_default.is))
    ]
