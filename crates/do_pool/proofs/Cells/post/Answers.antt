use Rattle.do_pool.proofs.Cells.post.Goals as goal
use Rattle.std.proofs.Common.{ap, arith}
use Rattle.slab.specs.Slab.{get, slab_len}
use Rattle.do_pool.specs.Lines.{items_of}
use Rattle.do_pool.proofs.PostLast.{Posting, Linking, sound-first, items-first, last_key, len_below}
use Rattle.do_pool.proofs.{PostLast.{sound-more, items-more}, Regions.length-queues}

pub invariant_of-self : goal.invariant_of-self
invariant_of-self g c =
    let within = length-queues (items_of (get c.self.inside.cells)) c.self.inside.lines.items
    c.args.queue _ (ap (λ p. p.queues) c.self.view_is) c.requires.queue in
    let posting : Posting c.self.inside.cells c.insert_reserved-key.new.self
    c.self.inside.lines.items c.args.queue c.index-line.result.now c.insert_reserved-key.result
    c.args.item =
    record {
      within = within;
      is = c.index-line.ensures;
      fresh =
          c.insert_reserved-key.ensures.was_vacant;
      updates = c.insert_reserved-key.ensures.updates;
      count = c.insert_reserved-key.ensures.len;
    } in
    sound-first _ _ _ _ _ _ _ c.self.invariant posting c.if-line-eq0.true

pub returns-then-line-eq0-clause-queues : goal.returns-then-line-eq0-clause-queues
returns-then-line-eq0-clause-queues g c =
    let within = length-queues (items_of (get c.self.inside.cells)) c.self.inside.lines.items
    c.args.queue _ (ap (λ p. p.queues) c.self.view_is) c.requires.queue in
    let posting : Posting c.self.inside.cells c.insert_reserved-key.new.self
    c.self.inside.lines.items c.args.queue c.index-line.result.now c.insert_reserved-key.result
    c.args.item =
    record {
      within = within;
      is = c.index-line.ensures;
      fresh =
          c.insert_reserved-key.ensures.was_vacant;
      updates = c.insert_reserved-key.ensures.updates;
      count = c.insert_reserved-key.ensures.len;
    } in
    rw (← c.self.view_is) (items-first _ _ _ _ _ _ _ c.self.invariant posting c.if-line-eq0.true)

pub link-requires : goal.link-requires
link-requires g c =
    let within = length-queues (items_of (get c.self.inside.cells)) c.self.inside.lines.items
    c.args.queue _ (ap (λ p. p.queues) c.self.view_is) c.requires.queue in
    last_key c.self.inside.cells c.self.inside.lines.items c.args.queue c.index-line.result.now
    c.self.invariant within c.index-line.ensures c.if-line-eq0.false
    c.insert_reserved-key.new.self c.insert_reserved-key.result _
    c.insert_reserved-key.ensures.was_vacant c.insert_reserved-key.ensures.updates

pub overflow_add-line : goal.overflow_add-line
overflow_add-line g c =
    let within = length-queues (items_of (get c.self.inside.cells)) c.self.inside.lines.items
    c.args.queue _ (ap (λ p. p.queues) c.self.view_is) c.requires.queue in
    let below = len_below c.self.inside.cells c.self.inside.lines.items c.args.queue
    c.index-line.result.now c.self.invariant within c.index-line.ensures c.if-line-eq0.false
    (slab_len c.self.inside.cells) (omega arith) in
    omega (
      arith,
      c.insert_reserved-key.ensures.len,
      c.len-count.ensures,
      c.len-count.type_inv,
      below,
    )

pub invariant_of-self-2 : goal.invariant_of-self-2
invariant_of-self-2 g c =
    let within = length-queues (items_of (get c.self.inside.cells)) c.self.inside.lines.items
    c.args.queue _ (ap (λ p. p.queues) c.self.view_is) c.requires.queue in
    let posting : Posting c.self.inside.cells c.insert_reserved-key.new.self
    c.self.inside.lines.items c.args.queue c.index-line.result.now c.insert_reserved-key.result
    c.args.item =
    record {
      within = within;
      is = c.index-line.ensures;
      fresh =
          c.insert_reserved-key.ensures.was_vacant;
      updates = c.insert_reserved-key.ensures.updates;
      count = c.insert_reserved-key.ensures.len;
    } in
    let linking : Linking c.insert_reserved-key.new.self c.link.new.cells
    c.index-line.result.now.last c.insert_reserved-key.result =
    record {
      linked = c.link.ensures.linked;
      others = c.link.ensures.others;
      count =
          c.link.ensures.len;
    } in
    sound-more _ _ _ _ _ _ _ _ c.self.invariant posting linking c.if-line-eq0.false

pub returns-clause-queues : goal.returns-clause-queues
returns-clause-queues g c =
    let within = length-queues (items_of (get c.self.inside.cells)) c.self.inside.lines.items
    c.args.queue _ (ap (λ p. p.queues) c.self.view_is) c.requires.queue in
    let posting : Posting c.self.inside.cells c.insert_reserved-key.new.self
    c.self.inside.lines.items c.args.queue c.index-line.result.now c.insert_reserved-key.result
    c.args.item =
    record {
      within = within;
      is = c.index-line.ensures;
      fresh =
          c.insert_reserved-key.ensures.was_vacant;
      updates = c.insert_reserved-key.ensures.updates;
      count = c.insert_reserved-key.ensures.len;
    } in
    let linking : Linking c.insert_reserved-key.new.self c.link.new.cells
    c.index-line.result.now.last c.insert_reserved-key.result =
    record {
      linked = c.link.ensures.linked;
      others = c.link.ensures.others;
      count =
          c.link.ensures.len;
    } in
    rw (← c.self.view_is)
    (items-more _ _ _ _ _ _ _ _ c.self.invariant posting linking c.if-line-eq0.false)
