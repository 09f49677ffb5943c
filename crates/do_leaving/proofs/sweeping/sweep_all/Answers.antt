use Rattle.do_leaving.proofs.sweeping.sweep_all.Goals as goal
use Rattle.do_leaving.proofs.SweepFrees.{frees}

-- what was taken out, in order, is what nothing holds
pub returns-clause-frees : goal.returns-clause-frees
returns-clause-frees c = λ entry n counted.
    frees entry n c.args.store.now c.sweep_each.new.store c.args.imports.now
    c.sweep_each.new.imports c.sweep_each.new.serials.items c.sort_unstable.new.self.items counted
    c.sweep_each.ensures.sweeps c.sweep_each.ensures.node c.bound-bound.ensures.rising
    c.sort_unstable.ensures.permutation c.sort_unstable.ensures.sorted
    (c.kept_is_greatest.ensures entry n) c.sweeping_leaves_kept.ensures

-- it is the same objects in another order
pub returns-clause-sweeps : goal.returns-clause-sweeps
returns-clause-sweeps c = (
  c.sweep_each.new.serials.items,
  c.sweep_each.ensures.sweeps,
  c.sort_unstable.ensures.permutation,
)
