use Rattle.do_packet.proofs.packing.pack.Goals as goal
use Rattle.std.proofs.Common.{◌≡◌, ◌+◌, ◌<◌, ◌≤◌, ◌∙◌, inr, List, subst, sym, ap, take, length}
use Rattle.std.{proofs.Common.{arith, ◌++◌, [], ◌∷◌, get_or}, specs.List.{All, zip}}
use Rattle.std.proofs.lemmas.Grind.{common_steps}
use Rattle.do_base.specs.names.Names.{ObjectName}
use Rattle.do_packet.specs.{Copies.most_copies, Packing.capped, Seen.sender}
use Rattle.do_packet.proofs.Classes.{HasClass, copies_have, names_have}
use Rattle.do_packet.proofs.Following.{followed_next, followed_start, packed_fits, packed_heavy}
use Rattle.do_packet.proofs.{Following.{packed_many, weights_zip}, Keeping.packed_keeps}

pub loop-k-init : goal.loop-k-init
loop-k-init g c =
    let s = sender c.args.table.now c.args.from (g.V.View.sees c.args.view.now) in
    let vs = zip c.args.copy.now c.args.values.now in
    let w = rw c.new-walk.ensures at c.in_ok-parts.ensures in
    rw c.new-copies.ensures
    (followed_start s vs _ _ _ w
    (c.sum_of_weights-weight.ensures
    ∙ ap capped (sym (weights_zip c.args.copy.now c.args.values.now c.requires.places))))

pub loop-k-preserved : goal.loop-k-preserved
loop-k-preserved g c =
    let s = sender c.args.table.now c.args.from (g.V.View.sees c.args.view.now) in
    let vs = zip c.args.copy.now c.args.values.now in
    let k = c.loop-k.k in
    let found = c.loop-k.walk.copies in
    let is : c.index-found-k.result ≡ get_or found k c.index-found-k.result =
    rw c.as_slice-found.ensures at c.index-found-k.is in
    let h : k < length found = omega (arith, c.len.ensures) in
    let few : length found ≤ most_copies = omega (arith, ap length c.as_slice-found.ensures) in
    let e : take (k + 1) found ≡ take k found ++ c.index-found-k.result ∷ [] =
    grind (arith, common_steps, is) in
    rw (c.in_ok-push.ensures.ok, c.plus-weight.ensures)
    (followed_next s vs k c.loop-k.walk c.copied.new.self c.in_ok-parts.parts c.loop-k.copies
    c.in_ok-copied.field-0 c.loop-k.weight c.copy_weight.result c.index-found-k.result
    c.loop-k.invariant h few e c.in_ok-copied.ensures c.copy_weight.ensures)

pub returns-then-found-gt-MOST_COPIES-clause-value :
    goal.returns-then-found-gt-MOST_COPIES-clause-value
returns-then-found-gt-MOST_COPIES-clause-value g c =
    let s = sender c.args.table.now c.args.from (g.V.View.sees c.args.view.now) in
    let vs = zip c.args.copy.now c.args.values.now in
    inr (packed_many s vs c.args.to c.args.next_token _ _ _ _ _ c.loop-k.invariant
    (omega (arith, ap length c.as_slice-found.ensures)))

pub returns-then-weight-gt-MOST_WEIGHT-clause-value :
    goal.returns-then-weight-gt-MOST_WEIGHT-clause-value
returns-then-weight-gt-MOST_WEIGHT-clause-value g c =
    let s = sender c.args.table.now c.args.from (g.V.View.sees c.args.view.now) in
    let vs = zip c.args.copy.now c.args.values.now in
    inr (packed_heavy s vs c.args.to c.args.next_token _ _ _ _ _ c.loop-k.invariant
    (omega (arith, c.len.ensures)) (omega arith))

pub returns-clause-value : goal.returns-clause-value
returns-clause-value g c =
    let s = sender c.args.table.now c.args.from (g.V.View.sees c.args.view.now) in
    let vs = zip c.args.copy.now c.args.values.now in
    let n = c.in_ok-names.ensures in
    inr (packed_fits s vs c.args.to c.args.next_token _ _ _ _ _ c.loop-k.invariant
    (omega (arith, c.len.ensures)) _ (omega arith) (rw c.as_slice.ensures at n))

pub returns-clause-limits : goal.returns-clause-limits
returns-clause-limits g c =
    let s = sender c.args.table.now c.args.from (g.V.View.sees c.args.view.now) in
    let vs = zip c.args.copy.now c.args.values.now in
    let n = c.in_ok-names.ensures in
    packed_keeps s c.args.to c.args.next_token vs _
    (sym (packed_fits s vs c.args.to c.args.next_token _ _ _ _ _ c.loop-k.invariant
    (omega (arith, c.len.ensures)) _ (omega arith) (rw c.as_slice.ensures at n)))

pub copied-requires : goal.copied-requires
copied-requires g c =
    let s = sender c.args.table.now c.args.from (g.V.View.sees c.args.view.now) in
    let vs = zip c.args.copy.now c.args.values.now in
    let k = c.loop-k.k in
    let found = c.loop-k.walk.copies in
    let is : c.index-found-k.result ≡ get_or found k c.index-found-k.result =
    rw c.as_slice-found.ensures at c.index-found-k.is in
    let h : k < length found = omega (arith, c.len.ensures) in
    let all : All (HasClass s) found =
    subst (λ (l : List ObjectName). All (HasClass s) l) (sym c.loop-k.invariant.reached.found)
    (copies_have s vs (take k found)) in
    record {
      classed = subst (λ (o : ObjectName). HasClass s o) (sym is) (all k c.index-found-k.result h);
    }

pub names_of-requires-clause-classed : goal.names_of-requires-clause-classed
names_of-requires-clause-classed g c =
    let s = sender c.args.table.now c.args.from (g.V.View.sees c.args.view.now) in
    let vs = zip c.args.copy.now c.args.values.now in
    let e = c.as_slice.ensures ∙ c.loop-k.invariant.reached.naming in
    subst (λ (l : List ObjectName). All (HasClass s) l) (sym e)
    (names_have s vs (take c.loop-k.k c.loop-k.walk.copies))
