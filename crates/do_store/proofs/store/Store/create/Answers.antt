use Rattle.do_store.proofs.store.Store.create.Goals as goal

pub create_reserved-requires-clause-stored : goal.create_reserved-requires-clause-stored
create_reserved-requires-clause-stored c =
    rw (c.in_ok-reserve.ensures.node, c.in_ok-reserve.ensures.objects) c.requires.stored
