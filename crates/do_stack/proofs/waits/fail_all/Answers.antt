use Rattle.do_stack.proofs.waits.fail_all.Goals as goal
use Rattle.std.proofs.Common.{ap, arith, map, ◌∙◌}
use Rattle.do_machine.specs.ends.Closing.{without_answer}
use Rattle.do_stack.proofs.Answers.{all_failed}

-- all were passed, and those that waited for the peer have no answer any more
pub returns : goal.returns
returns c =
    let so_far = c.loop-inv.invariant in
    let start = c.make_contiguous-all.ensures in
    let done = all_failed c.args.peer c.make_contiguous-all.result.now c.loop-inv.all so_far.0
    (λ k d h. so_far.1 k d (omega (arith, c.loop-inv-test.false, h))) in
    start.writes_back c.loop-inv.all (so_far.0 ∙ start.len) ∙ done
    ∙ ap (map (without_answer c.args.peer)) start.value
