use Rattle.do_class.proofs.indexed.index_of.Goals as goal
use Rattle.std.proofs.Common.{◌≡◌, ◌<◌, Some, arith, length, get_or, subst}
use Rattle.std.specs.{BTreeMap.Updates, Cmp.Lexicographic.slice_cmp, Ordering.nat_cmp}
use Rattle.std.proofs.lemmas.Grind.{common_steps}
use Rattle.do_class.proofs.Places.{IsIndexOf-next}

pub loop-place-preserved : goal.loop-place-preserved
loop-place-preserved c =
    let within : c.loop-place.place < length c.args.methods.now = grind (arith, common_steps) in
    let is_there : c.method-item.result
    ≡ get_or c.args.methods.now c.loop-place.place c.method-item.result =
    grind (arith, common_steps) in
    let updates =
    subst (λ text.
    Updates (slice_cmp nat_cmp) c.loop-place.places c.insert.new.self text
    (Some c.loop-place.place)) c.in_ok-clone.ensures.cases c.in_ok-insert.ensures.updates in
    IsIndexOf-next c.args.methods.now c.loop-place.place c.method-item.result c.loop-place.places
    c.insert.new.self within is_there c.requires.distinct updates c.loop-place.invariant
