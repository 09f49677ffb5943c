use Rattle.do_store.proofs.counting.+lower.Goals as goal
use Rattle.std.proofs.{Common.{◌≡◌, ℕ, ap, sym, ◌∙◌}, lemmas.List.take_all}
use Rattle.do_base.specs.names.Names.{ObjectName}
use Rattle.do_store.specs.Names.{value_names, values_name}
use Rattle.do_store.proofs.StepsInARow.{lowers-as, lowers-then, once}
use Rattle.do_store.proofs.Valued.{names-own, names-List, names-more}

pub lower_value-returns-then-home-port : goal.lower_value-returns-then-home-port
lower_value-returns-then-home-port t c =
    let home : c.in-Obj.oid.node ≡ c.args.port = ap (λ (o : ObjectName). o.node) (sym c.oid.view_is)
    ∙ sym c.port-home.ensures.value ∙ c.if-home-port.true in
    let serial : c.oid.inside.serial ≡ c.in-Obj.oid.serial =
    ap (λ (o : ObjectName). o.serial) c.oid.view_is in
    lowers-as c.args.port c.args.table.now c.lower_one.new.table c.args.queue.now
    c.lower_one.new.queue _ _ c.lower_one.ensures
    (λ n. ap (value_names c.args.port n) c.in-Obj.is ∙ names-own c.args.port n c.in-Obj.oid home
    ∙ ap (λ (m : ℕ). once m n) (sym serial))

pub lower_value-returns-in-List : goal.lower_value-returns-in-List
lower_value-returns-in-List t c =
    lowers-as c.args.port c.args.table.now c.lower_values.new.table c.args.queue.now
    c.lower_values.new.queue _ _ c.lower_values.ensures
    (λ n. ap (value_names c.args.port n) c.in-List.is ∙ names-List c.args.port n c.in-List.values)

pub lower_values-loop-value-preserved : goal.lower_values-loop-value-preserved
lower_values-loop-value-preserved t c =
    lowers-then c.args.port c.args.table.now c.loop-value.table c.lower_value.new.table
    c.args.queue.now c.loop-value.queue c.lower_value.new.queue _ _ _ c.loop-value.invariant
    c.lower_value.ensures
    (λ n. names-more c.args.port n c.as_slice-value-items.result.now c.loop-value.value-index
    c.value-item.result c.loop-value-test.true c.value-item.is)

pub lower_values-returns : goal.lower_values-returns
lower_values-returns t c =
    lowers-as c.args.port c.args.table.now c.loop-value.table c.args.queue.now c.loop-value.queue _
    _ c.loop-value.invariant
    (λ n. ap (values_name c.args.port n) (sym c.as_slice-value-items.ensures
    ∙ sym (take_all c.loop-value.value-index c.as_slice-value-items.result.now
    c.loop-value-test.false)))
