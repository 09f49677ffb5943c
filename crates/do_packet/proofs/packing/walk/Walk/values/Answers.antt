use Rattle.do_packet.proofs.packing.walk.Walk.values.Goals as goal
use Rattle.std.proofs.Common.{◌≡◌, ◌+◌, take, arith, length, false, slice_index_or, ◌<◌, get_or}
use Rattle.std.{specs.List.zip, proofs.lemmas.Grind.common_steps}
use Rattle.do_packet.specs.{Copies.{copied_at, named_at}, Packing.part_at, Seen.sender}
use Rattle.do_packet.proofs.{Following.{zip_next, zip_whole}, Walks.walked_step}

pub loop-i-preserved : goal.loop-i-preserved
loop-i-preserved g c =
    let marks = c.as_slice-marks.result.now in
    let items = c.as_slice-items.result.now in
    let i = c.loop-i.i in
    let mark = slice_index_or marks i false in
    let s = sender c.args.table.now c.args.from (g.V.View.sees c.args.view.now) in
    let h : i < length marks = grind (arith, common_steps, c.requires) in
    let k : mark ≡ get_or marks i mark = grind (arith, common_steps) in
    let e =
    zip_next marks items i mark c.index-items-i.result h (omega arith) k c.index-items-i.is in
    rw c.in_ok-push.ensures.ok
    (walked_step (copied_at s) (named_at s) (part_at s) (take i (zip marks items))
    (take (i + 1) (zip marks items)) (mark, c.index-items-i.result) _ _ _ _ _ e
    c.loop-i.invariant c.in_ok-part.ensures)

pub returns : goal.returns
returns g c =
    let marks = c.as_slice-marks.result.now in
    let items = c.as_slice-items.result.now in
    let e : take c.loop-i.i (zip marks items) ≡ zip c.args.copy.now c.args.values.now =
    rw (← c.as_slice-marks.ensures, ← c.as_slice-items.ensures)
    (zip_whole marks items c.loop-i.i (omega arith)) in
    rw e at c.loop-i.invariant
