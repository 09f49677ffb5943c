use Rattle.std.specs.FinMap as map
use Rattle.do_export.proofs.Exports.name.Goals as goal
use Rattle.std.{proofs.Common.{arith, sym, ap, ◌∙◌, ◌+◌, if◌then◌else◌}, specs.Option.is_some}
use Rattle.do_export.proofs.{Order.{put_is, found_is}, Positive.entries_put}

-- a row that counts one more keeps the rows in their order
pub invariant_of-self : goal.invariant_of-self
invariant_of-self c =
    entries_put _ _ c.self.invariant _ _ c.port.ensures.value _ _ (omega arith) c.put.ensures.after

-- the entry counts one more
pub returns-clause-counts : goal.returns-clause-counts
returns-clause-counts c =
    let counts = map.from_sorted c.self.inside.counts.rows in
    let had = rw (← c.self.view_is) at c.count-count.ensures in
    rw (← c.self.view_is)
    ((put_is _ _ c.self.invariant.sorted _ _ _ c.port.ensures.value _ c.put.ensures.after).1
    ∙ ap (λ n. map.insert counts (c.args.peer, c.args.serial) (n + 1)) had)

-- only a new entry takes room
pub returns-clause-spare : goal.returns-clause-spare
returns-clause-spare c =
    let found = found_is c.self.inside.counts.rows c.self.invariant.sorted _ _ c.args.serial
    c.port.ensures.value in
    rw (← c.self.view_is)
    (ap (λ o. c.put.new.self.spare + (if is_some o then 0 else 1))
    (found ∙ sym c.put.ensures.before) ∙ c.put.ensures.spare)
