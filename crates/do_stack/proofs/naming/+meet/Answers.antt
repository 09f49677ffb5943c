use Rattle.do_stack.proofs.naming.+meet.Goals as goal
use Rattle.std.{proofs.Common.{◌+◌, drop, sym, ap, ◌∙◌}, specs.List.flat_map}
use Rattle.std.proofs.lemmas.List.{drop_all}
use Rattle.do_base.specs.values.Values.{objects_of}
use Rattle.do_packet.specs.Met.{met}
use Rattle.do_stack.proofs.{UsesMove.objects-list, ObjectsOnce.met_next}

-- a list names what its values name
pub meet_value-returns-in-List : goal.meet_value-returns-in-List
meet_value-returns-in-List t c =
    rw (c.in-List.is, objects-list c.in-List.values) c.meet_values.ensures

-- the objects of one more value were met
pub meet_values-loop-value-preserved : goal.meet_values-loop-value-preserved
meet_values-loop-value-preserved t c =
    let items = c.as_slice-value-items.result.now in
    let at = c.loop-value.value-index in
    let met_now = c.in_ok-meet_value.ensures
    ∙ ap (λ v. met c.loop-value.oids (objects_of v)) c.value-item.is in
    ap (λ os. met os (flat_map objects_of (drop (at + 1) items))) met_now
    ∙ met_next c.loop-value.oids items at c.value-item.result c.loop-value-test.true
    ∙ c.loop-value.invariant

-- the objects of all values were met
pub meet_values-returns : goal.meet_values-returns
meet_values-returns t c =
    let items = c.as_slice-value-items.result.now in
    ap (λ vs. met c.loop-value.oids (flat_map objects_of vs))
    (sym (drop_all c.loop-value.value-index items c.loop-value-test.false))
    ∙ c.loop-value.invariant
    ∙ ap (λ vs. met c.args.oids.now (flat_map objects_of vs)) c.as_slice-value-items.ensures
