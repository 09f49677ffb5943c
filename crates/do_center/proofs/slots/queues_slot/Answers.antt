use Rattle.do_center.proofs.slots.queues_slot.Goals as goal
use Rattle.std.proofs.{Common.refl, lemmas.Option.slice_get_read}
use Rattle.do_center.proofs.WaitingMore.{next_row}

pub loop-seat-preserved : goal.loop-seat-preserved
loop-seat-preserved c =
    let ss = c.as_slice-seat-items.result.now in
    let k = c.loop-seat.seat-index in
    next_row ss k c.seat-item.result c.loop-seat.rows c.in_ok-rows.rows
    (slice_get_read ss _ k c.seat-item.result refl c.loop-seat-test.true c.seat-item.is)
    c.loop-seat.invariant c.in_ok-rows.ensures
