use Rattle.do_pool.proofs.Cells.new.Goals as goal
use Rattle.std.proofs.Common.{◌≡◌, ◌-◌, refl, ap, arith, count_by, is_some}
use Rattle.slab.specs.Slab.{get, slab_len}
use Rattle.do_pool.proofs.EmptyQueues.{sound-new, queues-new}

pub invariant_of-result : goal.invariant_of-result
invariant_of-result g c =
    sound-new c.new.result _ c.args.queues (ap (count_by is_some) c.new.ensures.empty)
    (c.in_ok-lines.ensures.items_if_clones_equal (λ y e. e))

pub returns : goal.returns
returns g c =
    let queues = queues-new (get c.new.result) c.in_ok-lines.lines.items c.args.queues
    (c.in_ok-lines.ensures.items_if_clones_equal (λ y e. e)) in
    let spare : c.new.result.capacity - slab_len c.new.result ≡ 0 =
    omega (arith, c.new.ensures.capacity) in
    rw (queues, spare) refl
