use Rattle.do_part.proofs.part.Part.fill.Goals as goal
use Rattle.std.proofs.Common.{◌≡◌, ◌+◌, ◌∷◌, [], suc, List as Listed, ap, sym, ◌∙◌, arith, subst}
use Rattle.std.{proofs.Common.length, specs.Vec.Iter.into_iter_items}
use Rattle.std.proofs.lemmas.List.{nil_from_length}
use Rattle.do_base.specs.declared.values.value.Value.{Value}
use Rattle.do_behave.specs.declared.act.Write.{Write}
use Rattle.do_machine.specs.{Objects.object_at, run.Changes.with_slots}
use Rattle.do_network.specs.Own.{Own}
use Rattle.do_part.specs.{Filled.writes_from, Names.{values_of, sizes_of, AreStored}}
use Rattle.do_part.proofs.{Exchanging.of-cons, InARow.{slots-more, slots-none, still_stored}}
use Rattle.do_part.proofs.Sequences.{size-cons}

-- one slot more is written
pub loop-value-preserved : goal.loop-value-preserved
loop-value-preserved c =
    let w = c.loop-value.invariant in
    let v = c.in-Some.value in
    let rest = into_iter_items c.next.new.self in
    let step = c.in-Some.ensures.steps.0 in
    let own = c.loop-value.self.own in
    let s = c.args.serial in
    let at = c.loop-value.at in
    let this : Write = record { slot = at; value = v } in
    let e = c.write.ensures in
    let size = ap sizes_of step in
    let sum = size-cons v rest in
    let long = ap length step in
    let enough = w.enough in
    let names = w.names in
    let more = e.names in
    let count = w.count in
    let next : suc at ≡ at + 1 = omega arith in
    record {
      own = ap (λ (o : Own). record o { node = with_slots s (writes_from (at + 1) rest) o.node })
          e.own
          ∙ (λ j. record own
          { node = slots-more s this (writes_from (at + 1) rest) own.node j })
          ∙ ap (λ n. record own { node = with_slots s (this ∷ writes_from n rest) own.node })
          (sym next)
          ∙ ap (λ (l : Listed Value). record own
          { node = with_slots s (writes_from at l) own.node }) (sym step)
          ∙ w.own;
      objects = e.objects ∙ w.objects;
      invocations = e.invocations ∙ w.invocations;
      names = omega (arith, size, sum, names, more);
      entries = e.entries ∙ w.entries;
      enough = omega (arith, size, sum, enough, more);
      stored = subst (λ (o : Own). AreStored o.node (values_of rest)) (sym e.own)
          (λ n above. still_stored s n (this ∷ []) own.node.heap
          (let x = ap (λ (l : Listed Value). values_of l (object_at own.node.port n)) step in
          let y = of-cons v rest (object_at own.node.port n) in
          w.stored n (omega (arith, x, y, above))));
      count = omega (arith, long, count);
    }

-- once no slot is left, all are written
pub returns-clause-own : goal.returns-clause-own
returns-clause-own c =
    let own = c.loop-value.self.own in
    let none = nil_from_length (into_iter_items c.loop-value.value-iterator)
    (sym c.loop-value.value-iterator.rest.ok.0 ∙ c.in-None.ensures.steps.0) in
    sym (λ j. record own { node = slots-none c.args.serial own.node j })
    ∙ ap (λ (l : Listed Value). record own
    { node = with_slots c.args.serial (writes_from c.loop-value.at l) own.node }) (sym none)
    ∙ c.loop-value.invariant.own
