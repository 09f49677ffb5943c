use Rattle.do_part.proofs.part.Part.set_locals.Goals as goal
use Rattle.std.proofs.Common.{◌∷◌, [], ap, sym, ◌∙◌, arith, refl, subst, List, rules, length, ◌<◌}
use Rattle.std.specs.Prelude.{remove}
use Rattle.do_behave.specs.{Changes.{meaning, with_set}, InPlace.after_act}
use Rattle.do_behave.specs.declared.change.{Change.TheVariants.Local, LocalSet.LocalSet}
use Rattle.do_machine.specs.{Objects.object_at, run.{Changes.steps_to, Fresh.with_stack}}
use Rattle.do_network.specs.Own.{Own}
use Rattle.do_stack.specs.Waiting.{with_top}
use Rattle.do_part.specs.{Changed.set_values, Names.{values_of, sizes_of, AreStored}}
use Rattle.do_part.proofs.{Exchanging.of-cons, InARow.parted}
use Rattle.do_part.proofs.{Sequences.{of-one, size-cons, size-one}, Stacking.{top-twice, top-there}}

-- the first set can be made
pub exchange-requires : goal.exchange-requires
exchange-requires c =
    let w = c.loop-sets.invariant in
    let first = c.remove-first.result in
    let p = parted c.loop-sets.sets first c.remove-first.ensures.item in
    let size = ap (λ (l : List LocalSet). sizes_of (set_values l)) p.is in
    let s = size-cons first.value (set_values (remove c.loop-sets.sets 0)) in
    let one = size-one first.value in
    let enough = w.enough in
    record {
      top = w.top;
      fits = λ top is. tt;
      memory = refl;
      names = omega (arith, size, s, one, enough);
      stored = λ n above.
          let o = object_at c.loop-sets.self.own.node.port n in
          let x = ap (λ (l : List LocalSet). values_of (set_values l) o) p.is in
          let y = of-cons first.value (set_values (remove c.loop-sets.sets 0)) o in
          let z = of-one first.value o in
          w.stored n (omega (arith, x, y, z, above));
    }

-- a set is made, and the others are left
pub loop-sets-preserved : goal.loop-sets-preserved
loop-sets-preserved c =
    let w = c.loop-sets.invariant in
    let first = c.remove-first.result in
    let node = c.loop-sets.self.own.node in
    let rest = c.remove-first.new.self in
    let p = parted c.loop-sets.sets first c.remove-first.ensures.item in
    let is = p.is ∙ ap (λ (l : List LocalSet). first ∷ l) (sym c.remove-first.ensures.rest) in
    let size = ap (λ (l : List LocalSet). sizes_of (set_values l)) is in
    let s = size-cons first.value (set_values rest) in
    let one = size-one first.value in
    let enough = w.enough in
    let names = w.names in
    let e = c.exchange.ensures in
    let more = e.names in
    record {
      own = ap (λ (o : Own). record o {
        node = with_stack (with_top
            (λ i. steps_to c.args.pc (with_set i.locals rest) c.args.handler i)
            o.node.stack) o.node;
      }) e.own
          ∙ (λ j. record c.loop-sets.self.own {
            node = with_stack (top-twice
                (λ i. steps_to c.args.pc (with_set i.locals rest) c.args.handler i)
                (λ i. (after_act (meaning i (Local first.local first.value c.args.pc)) i []).inv)
                node.stack j) node;
          })
          ∙ ap (λ (l : List LocalSet). record c.loop-sets.self.own {
            node = with_stack (with_top
                (λ i. steps_to c.args.pc (with_set i.locals l) c.args.handler i)
                node.stack) node;
          }) (sym is)
          ∙ w.own;
      objects = e.objects ∙ w.objects;
      invocations = e.invocations ∙ w.invocations;
      names = omega (arith, size, s, one, enough, names, more);
      entries = e.entries ∙ w.entries;
      top = subst (λ (o : Own). 0 < length o.node.stack) (sym e.own)
          (top-there (λ i. (after_act (meaning i (Local first.local first.value c.args.pc))
          i []).inv) node.stack w.top);
      enough = omega (arith, size, s, one, enough, more);
      stored = subst (λ (o : Own). AreStored o.node (values_of (set_values rest))) (sym e.own)
          (λ n above. let x = ap (λ (l : List LocalSet).
          values_of (set_values l) (object_at node.port n)) is in
          let y = of-cons first.value (set_values rest) (object_at node.port n) in
          w.stored n (omega (arith, x, y, above)));
    }

-- another handler can always be set
pub exchange-requires-2 : goal.exchange-requires-2
exchange-requires-2 c = record {
  top = c.loop-sets.invariant.top;
  fits = λ top is. tt;
  memory = refl;
  names = omega arith;
  stored = λ n above. absurd (omega (arith, above));
}

-- all sets are made, and the top goes on
pub returns : goal.returns
returns c =
    let w = c.loop-sets.invariant in
    let none = c.loop-sets-test.ensures.0 (search rules) in
    let node = c.loop-sets.self.own.node in
    let names = w.names in
    let size = ap (λ (l : List LocalSet). sizes_of (set_values l)) none in
    let e = c.exchange-2.ensures in
    let more = e.names in
    record {
      own = e.own
          ∙ ap (λ (l : List LocalSet). record c.loop-sets.self.own {
            node = with_stack (with_top
                (λ i. steps_to c.args.pc (with_set i.locals l) c.args.handler i)
                node.stack) node;
          }) (sym none)
          ∙ w.own;
      objects = e.objects ∙ w.objects;
      invocations = e.invocations ∙ w.invocations;
      names = omega (arith, names, size, more);
      entries = e.entries ∙ w.entries;
    }
