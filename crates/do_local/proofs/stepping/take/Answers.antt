use Rattle.do_local.proofs.stepping.take.Goals as goal
use Rattle.std.{proofs.Common.{◌≡◌, true, Some, rules, ap, ◌∙◌, List}, specs.Prelude.slice_get}
use Rattle.do_machine.specs.{State.{change, node, queue, with_queue}, declared.item.Item.Item}
use Rattle.do_machine.specs.take.Take.{can_take}
use Rattle.do_local.proofs.Moves.{take_moves}

pub returns : goal.returns
returns c =
    let S = c.args.state.now in
    let n = c.in-Some.node.now in
    let waiting = c.in-Some-queue.waiting.now in
    let found : node S c.args.port ≡ Some n = search rules in
    let can : can_take c.args.from n ≡ true = search rules in
    let waits : queue S c.args.from c.args.port ≡ Some waiting = search rules in
    let item = c.get-item.result.now in
    let oldest : slice_get waiting 0 ≡ Some item = search rules in
    let rest = λ (items : List Item). change c.args.from (with_queue c.args.port items) S in
    take_moves c.args.table.now c.args.port c.args.from S c.in_ok-taken.taken n waiting
    item c.in_ok-effect.effect c.in_ok-moved.field-0 found can waits oldest
    (c.in_ok-taken.ensures ∙ ap rest c.in_ok-without_oldest.ensures) c.in_ok-effect.ensures
    c.in_ok-moved.ensures
