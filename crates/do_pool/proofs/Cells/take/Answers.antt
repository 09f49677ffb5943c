use Rattle.do_pool.proofs.Cells.take.Goals as goal
use Rattle.std.proofs.Common.{Some, ap, ◌∙◌, arith}
use Rattle.slab.specs.Slab.{get}
use Rattle.do_pool.specs.Lines.{items_of}
use Rattle.do_pool.proofs.{Regions.{found_key, slice_get-map, length-queues}, TakeFirst.first_found}
use Rattle.do_pool.proofs.TakeFirst.{Taking, line_behind, sound-taken, items-taken, front-taken}

pub remove-item-requires : goal.remove-item-requires
remove-item-requires g c =
    let within = length-queues (items_of (get c.self.inside.cells)) c.self.inside.lines.items
    c.args.queue _ (ap (λ p. p.queues) c.self.view_is) c.requires in
    let here = first_found c.self.inside.cells c.self.inside.lines.items c.args.queue
    c.index-line.result.now c.self.invariant within c.index-line.ensures c.if-line-eq0.false in
    found_key c.self.inside.cells c.index-line.result.now.first here.cell here.found

taking : (g : _) (c : goal.After-self-1 g)
    → Taking c.self.inside.cells c.remove-item.new.self c.self.inside.lines.items c.args.queue
    c.index-line.result.now c.remove-item.result
taking g c = record {
  within = length-queues (items_of (get c.self.inside.cells)) c.self.inside.lines.items c.args.queue
      _ (ap (λ p. p.queues) c.self.view_is) c.requires;
  is = c.index-line.ensures;
  some = c.if-line-eq0.false;
  found = c.remove-item.ensures.value;
  updates = c.remove-item.ensures.updates;
  count = c.remove-item.ensures.len;
}

pub invariant_of-self : goal.invariant_of-self
invariant_of-self g c = sound-taken _ _ _ _ _ _ c.self.invariant (taking g c)

pub returns-clause-item : goal.returns-clause-item
returns-clause-item g c =
    let t = taking g c in
    let f = items_of (get c.self.inside.cells) in
    let front = front-taken _ _ _ _ _ _ c.self.invariant t in
    rw (← c.self.view_is) (
      items_of (get c.remove-item.new.self)
          (line_behind c.index-line.result.now c.remove-item.result),
      slice_get-map f c.self.inside.lines.items c.args.queue c.index-line.result.now t.within t.is
          ∙ ap (λ items. Some items) front,
      items-taken _ _ _ _ _ _ c.self.invariant t,
      omega (
        arith,
        c.remove-item.ensures.len,
        c.remove-item.ensures.room,
        c.remove-item.ensures.capacity,
      ),
    )
