use Rattle.do_center.proofs.slots.seated.Goals as goal
use Rattle.std.proofs.{Common.{refl, ◌∙◌, ap}, lemmas.Option.slice_get_read}
use Rattle.do_center.{specs.Slots.seated, proofs.SeatedMore.seated_more}

pub loop-registration-preserved : goal.loop-registration-preserved
loop-registration-preserved c =
    let rs = c.as_slice-registration-items.result.now in
    let k = c.loop-registration.registration-index in
    let r = c.registration-item.result in
    seated_more rs k r c.loop-registration.waiting c.take_queue-queue.new.waiting
    c.loop-registration.seats c.push.new.self (seated rs c.args.waiting) c.in_ok-seat_of.field-0
    (slice_get_read rs _ k r refl c.loop-registration-test.true c.registration-item.is)
    c.loop-registration.invariant c.take_queue-queue.ensures.left
    (c.in_ok-seat_of.ensures
    ∙ ap (λ q. record { registration = r; queue = q }) c.take_queue-queue.ensures.was)
    c.in_ok-push.ensures.ok
