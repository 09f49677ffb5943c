use Rattle.do_center.proofs.suspended.Suspended.of.Goals as goal
use Rattle.std.proofs.Common.{◌≡◌, Some, true, false, sym, subst, arith, take, ◌+◌, ◌++◌, ◌∷◌, []}
use Rattle.std.{proofs.lemmas.{Grind.common_steps, Option.slice_get_read}, specs.Prelude.slice_get}
use Rattle.do_center.specs.Observers.{are_distinct, has_object}
use Rattle.do_center.proofs.{CoreKept.distinct_pushed, SuspendedSet.there_twice}

pub returns-then-contains : goal.returns-then-contains
returns-then-contains c =
    let os = c.args.observers.now in
    let k = c.loop-observer.observer-index in
    let o = c.observer-item.result in
    let found : slice_get os k ≡ Some o = grind (arith, common_steps, slice_get_read) in
    let before : has_object (take k os) o ≡ true = grind (arith, common_steps) in
    let twice : are_distinct os ≡ false = there_twice os k o found before in
    grind (arith, common_steps, twice)

pub loop-observer-preserved : goal.loop-observer-preserved
loop-observer-preserved c =
    let os = c.as_slice-observer-items.result.now in
    let k = c.loop-observer.observer-index in
    let o = c.observer-item.result in
    let absent : has_object (take k os) o ≡ false = grind (arith, common_steps) in
    let longer : take (k + 1) os ≡ take k os ++ o ∷ [] = grind (arith, common_steps) in
    let pushed : c.push.new.self ≡ take (k + 1) os = grind (arith, common_steps, longer) in (
      pushed,
      subst (λ xs. are_distinct xs ≡ true) (sym longer)
          (distinct_pushed (take k os) o absent c.loop-observer.invariant.1),
    )
