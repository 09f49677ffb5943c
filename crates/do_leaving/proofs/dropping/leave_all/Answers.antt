use Rattle.std.specs.FinMap as map
use Rattle.do_leaving.proofs.dropping.leave_all.Goals as goal
use Rattle.std.proofs.Common.{ap, ◌∙◌, refl, sym, subst, arith}
use Rattle.do_export.specs.Counts.{IsPositive}
use Rattle.do_import.specs.Imported.{Imported}
use Rattle.do_leaving.{specs.Leavers.AllLeave, proofs.{OneLeaves.lowest_is, LeftSoFar.after_none}}
use Rattle.do_leaving.proofs.LeftSoFar.{fewer_received, key, left_all, left_none, left_step}

-- nothing has left yet
pub loop-one-init : goal.loop-one-init
loop-one-init c = record {
  so_far = left_none c.args.imports.now c.args.left.now.items;
  same = after_none c.args.imports.now;
  links = omega arith;
  room = c.requires;
  capacity = refl;
}

-- there is room for one more
pub push_reserved-requires : goal.push_reserved-requires
push_reserved-requires c =
    let now = c.loop-one.imports in
    let had = lowest_is now.received now.uses (key c.in-Some.one.0) c.in-Some.ensures.which.0 in
    omega (
      arith,
      c.loop-one.invariant.room,
      fewer_received now.received (key c.in-Some.one.0) had.0,
    )

-- one object fewer is received
pub loop-one-smaller : goal.loop-one-smaller
loop-one-smaller c =
    let now = c.loop-one.imports in
    let which = c.in-Some.ensures.which in
    let had = lowest_is now.received now.uses (key c.in-Some.one.0) which.0 in
    omega (
      arith,
      fewer_received now.received (key c.in-Some.one.0) had.0,
      ap (λ (i : Imported). map.len i.received) which.2,
    )

-- one more has left
pub loop-one-preserved : goal.loop-one-preserved
loop-one-preserved c =
    let now = c.loop-one.imports in
    let so = c.loop-one.invariant in
    let which = c.in-Some.ensures.which in
    let had = lowest_is now.received now.uses (key c.in-Some.one.0) which.0 in
    let step = left_step c.args.imports.now now c.leave_next.new.self c.args.left.now.items
    c.loop-one.left.items c.push_reserved.new.self.items c.in-Some.one so.so_far so.same which.0
    which.1 which.2 c.push_reserved.ensures.items in
    record {
      so_far = step.0;
      same = step.1;
      links = omega (arith, so.links, c.leave_next.ensures.links);
      room = omega (
        arith,
        so.room,
        c.push_reserved.ensures.len,
        c.push_reserved.ensures.capacity,
        fewer_received now.received (key c.in-Some.one.0) had.0,
        ap (λ (i : Imported). map.len i.received) which.2,
      );
      capacity = c.push_reserved.ensures.capacity ∙ so.capacity;
    }

-- nothing is left that may leave
pub returns-clause-leave : goal.returns-clause-leave
returns-clause-leave c =
    let which = c.in_default.ensures.which in
    let so = c.loop-one.invariant in
    let P : Imported → Type 0 = λ i.
    AllLeave c.args.imports.now i c.args.left.now.items c.loop-one.left.items in
    subst P (sym which.1) (left_all c.args.imports.now c.loop-one.imports c.args.left.now.items
    c.loop-one.left.items so.so_far so.same which.0)

-- the uses are those of before, of which none is counted as 0
pub returns-clause-positive : goal.returns-clause-positive
returns-clause-positive c =
    subst IsPositive (ap (λ (i : Imported). i.uses) c.loop-one.invariant.same)
    c.in_default.ensures.positive
