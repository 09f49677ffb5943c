use Rattle.do_part.proofs.part.Part.fill_each.Goals as goal
use Rattle.std.proofs.Common.{◌≡◌, ◌+◌, suc, List as Listed, ap, sym, ◌∙◌, arith, subst, length}
use Rattle.std.specs.Vec.Iter.{into_iter_items}
use Rattle.do_machine.specs.{Objects.object_at, run.Changes.with_slots}
use Rattle.do_network.specs.Own.{Own}
use Rattle.do_packet.specs.declared.receipt.Made.{Made}
use Rattle.do_part.specs.Filled.{filled, made_values, writes_from}
use Rattle.do_part.specs.Names.{values_of, sizes_of, AreStored}
use Rattle.do_part.proofs.{Filled.{made-cons, made-of-cons}, InARow.still_stored}

-- one object more is filled
pub loop-copy-preserved : goal.loop-copy-preserved
loop-copy-preserved c =
    let w = c.loop-copy.invariant in
    let m = c.in-Some.copy in
    let rest = into_iter_items c.next.new.self in
    let step = c.in-Some.ensures.steps.0 in
    let own = c.loop-copy.self.own in
    let s = c.loop-copy.serial in
    let e = c.fill.ensures in
    let size = ap (λ (l : Listed Made). sizes_of (made_values l)) step in
    let sum = made-cons m rest in
    let long = ap length step in
    let enough = w.enough in
    let names = w.names in
    let more = e.names in
    let count = w.count in
    let next : suc s ≡ s + 1 = omega arith in
    record {
      own = ap (λ (o : Own). record o { node = filled (s + 1) rest o.node }) e.own
          ∙ ap (λ n. record own
          { node = filled n rest (with_slots s (writes_from 0 m.slots) own.node) }) (sym next)
          ∙ ap (λ (l : Listed Made). record own { node = filled s l own.node }) (sym step)
          ∙ w.own;
      objects = e.objects ∙ w.objects;
      invocations = e.invocations ∙ w.invocations;
      names = omega (arith, size, sum, names, more);
      entries = e.entries ∙ w.entries;
      enough = omega (arith, size, sum, enough, more);
      stored = subst (λ (o : Own). AreStored o.node (values_of (made_values rest))) (sym e.own)
          (λ n above. still_stored s n (writes_from 0 m.slots) own.node.heap
          (let x = ap (λ (l : Listed Made).
          values_of (made_values l) (object_at own.node.port n)) step in
          let y = made-of-cons m rest (object_at own.node.port n) in
          w.stored n (omega (arith, x, y, above))));
      count = omega (arith, long, count);
    }
