use Rattle.do_part.proofs.part.Part.write_all.Goals as goal
use Rattle.std.proofs.Common.{◌∷◌, [], ap, sym, ◌∙◌, arith, subst, List, rules}
use Rattle.std.specs.Prelude.{remove}
use Rattle.do_behave.specs.declared.act.Write.{Write}
use Rattle.do_machine.specs.{Objects.object_at, run.Changes.with_slots}
use Rattle.do_part.specs.{Changed.written_values, Names.{values_of, sizes_of, AreStored}}
use Rattle.do_network.specs.Own.{Own}
use Rattle.do_part.proofs.{Exchanging.of-cons, InARow.{slots-more, slots-none, still_stored}}
use Rattle.do_part.proofs.{InARow.parted, Sequences.size-cons}

-- the first write can be done
pub write-requires : goal.write-requires
write-requires c =
    let w = c.loop-writes.invariant in
    let first = c.remove-first.result in
    let p = parted c.loop-writes.writes first c.remove-first.ensures.item in
    let size = ap (λ (l : List Write). sizes_of (written_values l)) p.is in
    let s = size-cons first.value (written_values (remove c.loop-writes.writes 0)) in
    let enough = w.enough in
    record {
      names = omega (arith, size, s, enough);
      stored = λ n above.
          let o = object_at c.loop-writes.self.own.node.port n in
          let x = ap (λ (l : List Write). values_of (written_values l) o) p.is in
          let y = of-cons first.value (written_values (remove c.loop-writes.writes 0)) o in
          w.stored n (omega (arith, x, y, above));
    }

-- a write is done, and the others are left
pub loop-writes-preserved : goal.loop-writes-preserved
loop-writes-preserved c =
    let w = c.loop-writes.invariant in
    let first = c.remove-first.result in
    let node = c.loop-writes.self.own.node in
    let rest = c.remove-first.new.self in
    let p = parted c.loop-writes.writes first c.remove-first.ensures.item in
    let is = p.is ∙ ap (λ (l : List Write). first ∷ l) (sym c.remove-first.ensures.rest) in
    let size = ap (λ (l : List Write). sizes_of (written_values l)) is in
    let s = size-cons first.value (written_values rest) in
    let enough = w.enough in
    let names = w.names in
    let e = c.write.ensures in
    let more = e.names in
    record {
      own = ap (λ (o : Own). record o { node = with_slots c.args.serial rest o.node }) e.own
          ∙ (λ j. record c.loop-writes.self.own
          { node = slots-more c.args.serial first rest node j })
          ∙ ap (λ (l : List Write). record c.loop-writes.self.own
          { node = with_slots c.args.serial l node }) (sym is)
          ∙ w.own;
      objects = e.objects ∙ w.objects;
      invocations = e.invocations ∙ w.invocations;
      names = omega (arith, size, s, enough, names, more);
      entries = e.entries ∙ w.entries;
      enough = omega (arith, size, s, enough, more);
      stored = subst (λ (o : Own). AreStored o.node (values_of (written_values rest))) (sym e.own)
          (λ n above. still_stored c.args.serial n (first ∷ []) node.heap
          (let x = ap (λ (l : List Write).
          values_of (written_values l) (object_at node.port n)) is in
          let y = of-cons first.value (written_values rest) (object_at node.port n) in
          w.stored n (omega (arith, x, y, above))));
    }

-- all writes are done
pub returns : goal.returns
returns c =
    let w = c.loop-writes.invariant in
    let none = c.loop-writes-test.ensures.0 (search rules) in
    let node = c.loop-writes.self.own.node in
    let names = w.names in
    let size = ap (λ (l : List Write). sizes_of (written_values l)) none in
    record {
      own = sym (λ j. record c.loop-writes.self.own { node = slots-none c.args.serial node j })
          ∙ ap (λ (l : List Write). record c.loop-writes.self.own
          { node = with_slots c.args.serial l node }) (sym none)
          ∙ w.own;
      objects = w.objects;
      invocations = w.invocations;
      names = omega (arith, names, size);
      entries = w.entries;
    }
