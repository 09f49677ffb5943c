use Rattle.do_packet.proofs.packing.walk.Walk.+part.Goals as goal
use Rattle.std.proofs.{Common.{◌≡◌, ◌+◌, ◌++◌, [], ◌∷◌, take, arith}, lemmas.Grind.common_steps}
use Rattle.do_packet.specs.{Met.{copied_in, named_in}, Parts.part_of}
use Rattle.do_packet.proofs.Walks.{walked_list, walked_step}

pub parts-loop-value-preserved : goal.parts-loop-value-preserved
parts-loop-value-preserved g t c =
    let items = c.as_slice-value-items.result.now in
    let i = c.loop-value.value-index in
    let seen = g.V.View.sees c.args.view.now in
    let e : take (i + 1) items ≡ take i items ++ c.value-item.result ∷ [] =
    grind (arith, common_steps, c.value-item.is) in
    rw c.in_ok-push.ensures.ok
    (walked_step (copied_in seen c.args.from c.args.copy) (named_in seen c.args.from c.args.copy)
    (part_of seen c.args.from c.args.copy) (take i items) (take (i + 1) items) c.value-item.result
    _ _ _ _ _ e c.loop-value.invariant c.in_ok-part.ensures)

pub parts-returns : goal.parts-returns
parts-returns g t c =
    let e : take c.loop-value.value-index c.as_slice-value-items.result.now ≡ c.args.values.now =
    grind (arith, common_steps) in
    rw e at c.loop-value.invariant

pub part-returns-in-Obj : goal.part-returns-in-Obj
part-returns-in-Obj g t c = rw c.in-Obj.is c.object.ensures

pub part-returns-in_ok-parts-in-List : goal.part-returns-in_ok-parts-in-List
part-returns-in_ok-parts-in-List g t c =
    rw c.in-List.is
    (walked_list (g.V.View.sees c.args.view.now) c.args.from c.args.copy c.in-List.values _ _ _
    c.in_ok-parts-in-List.ensures)
