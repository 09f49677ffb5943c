use Rattle.do_store.proofs.table.Table.list.Goals as goal
use Rattle.std.proofs.Common.{◌≡◌, true, false, sym, ap, ◌∙◌, rules, ◌++◌, ◌∷◌, [], List, get_or}
use Rattle.std.proofs.lemmas.List.{get_or_default}
use Rattle.slab.specs.Slab.{get}
use Rattle.do_base.specs.names.Names.{ObjectName}
use Rattle.do_store.proofs.Closed.{more-live, more-dead}

pub loop-pair-preserved-then-not-leads : goal.loop-pair-preserved-then-not-leads
loop-pair-preserved-then-not-leads c =
    let gone : c.leads-leads.result ≡ false = search rules in
    c.loop-pair.invariant
    ∙ sym (more-dead c.args.node (get c.self.inside.slots) c.as_slice-pair-items.result.now
    c.loop-pair.pair-index _ c.loop-pair-test.true
    (get_or_default _ _ _ _ c.loop-pair-test.true) (sym c.leads-leads.ensures ∙ gone))

pub loop-pair-preserved : goal.loop-pair-preserved
loop-pair-preserved c =
    let kept : c.leads-leads.result ≡ true = search rules in
    c.in_ok-push.ensures.ok
    ∙ ap (λ (l : List ObjectName). l
    ++ record {
      node = c.args.node;
      serial =
          (get_or c.as_slice-pair-items.result.now c.loop-pair.pair-index
          (record { serial = 0; key = 0 })).serial;
    } ∷ []) c.loop-pair.invariant
    ∙ sym (more-live c.args.node (get c.self.inside.slots) c.as_slice-pair-items.result.now
    c.loop-pair.pair-index _ c.loop-pair-test.true
    (get_or_default _ _ _ _ c.loop-pair-test.true) (sym c.leads-leads.ensures ∙ kept))
