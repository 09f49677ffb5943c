use Rattle.std.specs.FinMap as map
use Rattle.do_leaving.proofs.whole.leave.Goals as goal
use Rattle.std.proofs.Common.{ℕ, List, ap, subst, sym, ◌∙◌}
use Rattle.do_base.specs.names.Names.{ObjectName}
use Rattle.do_import.specs.Imported.{Imported}
use Rattle.do_leaving.{specs.Leavers.AllLeave, proofs.FreedThenLeft.leaves}

-- what sweeping frees and what is left then is what leaves
pub returns-clause-leaves : goal.returns-clause-leaves
returns-clause-leaves c = λ entry n counted.
    let middle = c.sweep_all.new.imports in
    let new = c.leave_all.new.imports in
    let left = c.leave_all.new.left.items in
    let P : List (ObjectName × ℕ) → Type 0 = λ l. AllLeave middle new l left in
    leaves entry n c.sweep_all.new.store middle new c.sweep_all.new.freed.items left
    (c.sweep_all.ensures.frees entry n counted)
    (subst P c.clear.ensures.items c.leave_all.ensures.leave) c.leave_all.ensures.positive

-- what is left keeps its uses
pub returns-clause-sweeps : goal.returns-clause-sweeps
returns-clause-sweeps c =
    let swept = c.sweep_all.ensures.sweeps.1 in (
      swept.gone,
      swept.taken,
      ap (λ (m : Imported). m.uses) c.leave_all.ensures.leave.same
          ∙ ap (λ (m : Imported). m.uses) swept.uses,
    )

-- what is not used is not received any more
pub returns-clause-received : goal.returns-clause-received
returns-clause-received c =
    let last = c.leave_all.ensures.leave.same in
    let first = c.sweep_all.ensures.same in
    ap (λ (m : Imported). m.received) last
    ∙ (λ j. map.retain_keys (ap (λ (m : Imported). m.received) first j)
    (map.contains_key (sym (ap (λ (m : Imported). m.uses) last) j)))
