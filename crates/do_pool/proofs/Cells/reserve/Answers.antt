use Rattle.do_pool.proofs.Cells.reserve.Goals as goal

pub invariant_of-self : goal.invariant_of-self
invariant_of-self g c =
    rw c.reserve.ensures.rest_kept
    (record {
      place = c.self.invariant.place;
      start = c.self.invariant.start;
      chains =
          c.self.invariant.chains;
      total = c.self.invariant.total;
    })
