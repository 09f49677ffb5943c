use Rattle.do_store.proofs.store.Store.retain.Goals as goal

-- the object is there, and its count has room
pub count_holder-requires : goal.count_holder-requires
count_holder-requires c =
    let there = rw (← c.oid.view_is) at c.requires in
    (there.0, there.1, λ e. there.2)
