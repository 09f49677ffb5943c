use Rattle.do_store.proofs.counting.+raise.Goals as goal
use Rattle.std.proofs.{Common.{◌≡◌, ℕ, ap, sym, ◌∙◌}, lemmas.List.take_all}
use Rattle.do_base.specs.names.Names.{ObjectName}
use Rattle.do_store.specs.Names.{value_names, values_name}
use Rattle.do_store.proofs.StepsInARow.{raises-as, raises-then, once}
use Rattle.do_store.proofs.Valued.{names-own, names-List, names-more}

pub raise_value-returns-then-home-port : goal.raise_value-returns-then-home-port
raise_value-returns-then-home-port t c =
    let home : c.in-Obj.oid.node ≡ c.args.port = ap (λ (o : ObjectName). o.node) (sym c.oid.view_is)
    ∙ sym c.port-home.ensures.value ∙ c.if-home-port.true in
    let serial : c.oid.inside.serial ≡ c.in-Obj.oid.serial =
    ap (λ (o : ObjectName). o.serial) c.oid.view_is in
    raises-as c.args.port c.args.table.now c.raise_one.new.table _ _ c.raise_one.ensures
    (λ n. ap (value_names c.args.port n) c.in-Obj.is ∙ names-own c.args.port n c.in-Obj.oid home
    ∙ ap (λ (m : ℕ). once m n) (sym serial))

pub raise_value-returns-in-List : goal.raise_value-returns-in-List
raise_value-returns-in-List t c =
    raises-as c.args.port c.args.table.now c.raise_values.new.table _ _ c.raise_values.ensures
    (λ n. ap (value_names c.args.port n) c.in-List.is ∙ names-List c.args.port n c.in-List.values)

pub raise_values-loop-value-preserved : goal.raise_values-loop-value-preserved
raise_values-loop-value-preserved t c =
    raises-then c.args.port c.args.table.now c.loop-value.table c.raise_value.new.table _ _ _
    c.loop-value.invariant c.raise_value.ensures
    (λ n. names-more c.args.port n c.as_slice-value-items.result.now c.loop-value.value-index
    c.value-item.result c.loop-value-test.true c.value-item.is)

pub raise_values-returns : goal.raise_values-returns
raise_values-returns t c =
    raises-as c.args.port c.args.table.now c.loop-value.table _ _ c.loop-value.invariant
    (λ n. ap (values_name c.args.port n) (sym c.as_slice-value-items.ensures
    ∙ sym (take_all c.loop-value.value-index c.as_slice-value-items.result.now
    c.loop-value-test.false)))
