use Rattle.std.specs.FinMap as map
use Rattle.do_export.proofs.Exports.give_back.Goals as goal
use Rattle.std.proofs.Common.{◌≡◌, ◌<◌, ◌-◌, ap, ◌∙◌, arith, subst, IsSome}
use Rattle.std.proofs.lemmas.Bool.{eq-eqb, ne_eqb}
use Rattle.do_export.{specs.Counts.count_of, proofs.Order.{put_is, without_is, found_is}}
use Rattle.do_export.proofs.{Order.some_above, Positive.{entries_put, entries_out}}

-- where nothing is left, the rows without the entry are in their order
pub invariant_of-self : goal.invariant_of-self
invariant_of-self c =
    entries_out _ _ c.self.invariant _ _ c.port.ensures.value _ c.remove.ensures.after

-- where as many come back as were named, the entry is gone
pub returns-then-left-eq0-clause-which : goal.returns-then-left-eq0-clause-which
returns-then-left-eq0-clause-which c =
    let had = rw (← c.self.view_is) at c.count-had.ensures in
    let same : count_of (map.from_sorted c.self.inside.counts.rows) c.args.peer c.args.serial
    ≡ c.args.n = omega (arith, had, c.if-left-eq0.true, c.if-had-n.false) in
    rw (← c.self.view_is) (
      omega (arith, same),
      rw (eq-eqb _ _ same)
          (without_is _ _ c.self.invariant.sorted _ _ _ c.port.ensures.value
          c.remove.ensures.after).1,
    )

-- where more were named, there is a row
pub set-requires : goal.set-requires
set-requires c =
    let had = rw (← c.self.view_is) at c.count-had.ensures in
    let above : 0 < count_of (map.from_sorted c.self.inside.counts.rows) c.args.peer c.args.serial =
    omega (arith, had, c.if-left-eq0.false) in
    let found = found_is c.self.inside.counts.rows c.self.invariant.sorted _ _ c.args.serial
    c.port-2.ensures.value in
    subst IsSome found (some_above _ above)

-- and with what is left in it the rows are still in their order
pub invariant_of-self-2 : goal.invariant_of-self-2
invariant_of-self-2 c =
    entries_put _ _ c.self.invariant _ _ c.port-2.ensures.value _ _ (omega arith)
    c.set.ensures.after

-- what is left is what was named without what comes back
pub returns-clause-which : goal.returns-clause-which
returns-clause-which c =
    let counts = map.from_sorted c.self.inside.counts.rows in
    let had = rw (← c.self.view_is) at c.count-had.ensures in
    let apart : count_of counts c.args.peer c.args.serial ≡ c.args.n
    → ⊥ = λ is. c.if-left-eq0.false (omega (arith, had, is)) in
    rw (← c.self.view_is) (
      omega (arith, had, c.if-had-n.false),
      rw (ne_eqb _ _ apart)
          ((put_is _ _ c.self.invariant.sorted _ _ _ c.port-2.ensures.value _ c.set.ensures.after).1
          ∙ ap (λ n. map.insert counts (c.args.peer, c.args.serial) (n - c.args.n)) had),
    )
