use Rattle.do_packet.proofs.unpacking.+part_value.Goals as goal
use Rattle.std.proofs.{Common.{◌≡◌, ◌+◌, ◌++◌, [], ◌∷◌, take, arith}, lemmas.Grind.common_steps}

pub part_values-loop-part-preserved : goal.part_values-loop-part-preserved
part_values-loop-part-preserved t c =
    let items = c.as_slice-part-items.result.now in
    let i = c.loop-part.part-index in
    let e : take (i + 1) items ≡ take i items ++ c.part-item.result ∷ [] =
    grind (arith, common_steps, c.part-item.is) in
    rw (c.in_ok-push.ensures.ok, e)
    (grind (arith, common_steps, c.loop-part.invariant, c.in_ok-part_value.ensures))
