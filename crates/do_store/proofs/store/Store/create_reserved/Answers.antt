use Rattle.do_store.proofs.store.Store.create_reserved.Goals as goal
use Rattle.std.proofs.Common.{◌≡◌, ℕ, ◌<◌, List, [], ◌∷◌, ◌++◌, IsSome, refl, arith, ap, sym, ◌∙◌}
use Rattle.std.proofs.Common.{subst}
use Rattle.do_store.specs.{Names.{values_name, Stored, find_stored}, Steps.Raises}
use Rattle.do_store.proofs.{Ledger.waits-below, Turns.{stored_some, books-added}}

pub post-requires : goal.post-requires
post-requires c =
    let room = c.self.invariant.room in
    let credit = c.self.invariant.credit in
    let below = waits-below c.self.inside.table.objects in
    let spare : 0 < c.self.inside.table.spare =
    subst (λ (m : ℕ). 0 < m) (sym (ap (λ s. s.spare) c.self.view_is)) c.requires.spare in
    omega arith

pub invariant_of-self : goal.invariant_of-self
invariant_of-self c =
    let node = c.self.inside.node in
    let raised = c.raise_values.new.table in
    let P : ℕ → Type 0 =
    λ p. Raises p c.self.inside.table raised (λ n. values_name p n c.args.slots) in
    let r : Raises node c.self.inside.table raised (λ n. values_name node n c.args.slots) =
    subst P c.port-port.ensures.value c.raise_values.ensures in
    let bounds = rw (← c.self.view_is) at c.requires.bound in
    let known = rw (← c.self.view_is) at c.requires.stored in
    let b1 = r.books c.self.inside.queue (λ n. 0) (λ n. values_name node n c.args.slots)
    c.self.invariant (λ n above. let b = bounds n above in omega arith) (λ n. omega arith) in
    let serial : c.next-serial.result ≡ raised.next = c.next-serial.ensures.next ∙ sym r.next in
    let posted = c.post.ensures.serials ∙ ap (λ m. c.self.inside.queue.serials ++ m ∷ []) serial in
    rw c.add.ensures.objects
    (books-added node raised.objects raised.spare c.add.new.self.spare c.self.inside.queue
    c.post.new.self (λ n. values_name node n c.args.slots) raised.next _
    c.bound-bound.ensures.rising refl refl refl (λ k. refl)
    (λ k above. stored_some raised.objects k
    (subst (λ (l : List Stored). IsSome (find_stored l k)) (sym r.seen) (known k above)))
    posted c.post.ensures.spare c.add.ensures.spare b1)
