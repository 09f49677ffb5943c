use Rattle.do_leaks.proofs.listing.leaks.Goals as goal
use Rattle.std.{proofs.Common.{◌≡◌, ◌∙◌}, specs.List.flat_map}
use Rattle.do_leaks.specs.{Heap.heap_of, Leaks.leaks, Listed.leak_left}
use Rattle.do_leaks.proofs.{IfOks.if_ok_weaker, Struck.listed_leaks}

pub returns : goal.returns
returns c =
    let left = c.take_reached.new.rest in
    let holders = c.in_ok-holders.holders in
    if_ok_weaker
    (λ list. list ≡ flat_map (leak_left left holders) (heap_of c.args.snapshot.now))
    (λ list. list ≡ leaks c.args.snapshot.now c.args.named.now)
    (λ list e. e
    ∙ listed_leaks (heap_of c.args.snapshot.now) c.args.named.now c.in_ok-rest.rest left
    holders c.in_ok-rest.ensures c.in_ok-take_reached.ensures c.in_ok-holders.ensures)
    c.listed.result c.listed.ensures
