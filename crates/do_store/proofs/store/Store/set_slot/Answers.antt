use Rattle.do_store.proofs.store.Store.set_slot.Goals as goal
use Rattle.std.proofs.Common.{◌≡◌, ℕ, ◌<◌, List, [], ◌∷◌, Some, IsSome, map, length, set, slice_get}
use Rattle.std.proofs.Common.{refl, arith, ap, sym, ◌∙◌, subst}
use Rattle.do_store.specs.{Names.{value_names, Stored, replaced, find_stored}, Books.seen}
use Rattle.do_store.specs.declared.object.Object.{Object}
use Rattle.std.proofs.lemmas.Option.{get_or_from_slice_get}
use Rattle.do_base.specs.declared.values.value.Value.{Value}
use Rattle.do_store.{specs.Steps.{Raises, Lowers}, proofs.{Edits.seen-edit, Turns.find-seen}}
use Rattle.do_store.proofs.Turns.{behind, stored_some, Slotted, slot_written, books-slotted, Behind}

one : (a c : Object) → Some a ≡ Some c → a ≡ c
one a c e = cc

one_stored : (a c : Stored) → Some a ≡ Some c → a ≡ c
one_stored a c e = cc

pub set_slot-old-requires : goal.set_slot-old-requires
set_slot-old-requires c = λ o is.
    let there = rw (← c.self.view_is, ← c.oid.view_is) at c.requires.there in
    let raised = c.raise_value.new.table in
    let found = ap (λ l. find_stored l c.oid.inside.serial) c.raise_value.ensures.seen ∙ there.1 in
    let same = one_stored there.0 (seen o)
    (sym found ∙ find-seen raised.objects c.oid.inside.serial o is) in
    subst (λ (l : List Value). c.args.at < length l) (ap (λ (s : Stored). s.slots) same) there.2

pub invariant_of-self : goal.invariant_of-self
invariant_of-self c =
    let node = c.self.inside.node in
    let raised = c.raise_value.new.table in
    let serial = c.oid.inside.serial in
    let old = c.set_slot-old.result in
    let P : ℕ → Type 0 =
    λ p. Raises p c.self.inside.table raised (λ n. value_names p n c.args.value) in
    let r : Raises node c.self.inside.table raised (λ n. value_names node n c.args.value) =
    subst P c.port-port.ensures.value c.raise_value.ensures in
    let Q : ℕ → Type 0 =
    λ p. Lowers p c.set_slot-old.new.self c.lower_value.new.table c.self.inside.queue
    c.lower_value.new.queue (λ n. value_names p n old) in
    let l : Lowers node c.set_slot-old.new.self c.lower_value.new.table c.self.inside.queue
    c.lower_value.new.queue (λ n. value_names node n old) =
    subst Q c.port-port.ensures.value c.lower_value.ensures in
    let bounds = rw (← c.self.view_is) at c.requires.bound in
    let known = rw (← c.self.view_is) at c.requires.stored in
    let there = rw (← c.self.view_is, ← c.oid.view_is) at c.requires.there in
    let found = ap (λ l. find_stored l serial) r.seen ∙ there.1 in
    let f : Behind raised.objects serial there.0 = behind raised.objects serial there.0 found in
    let within : c.args.at < length f.object.slots =
    subst (λ (l : List Value). c.args.at < length l) (sym (ap (λ (s : Stored). s.slots) f.same))
    there.2 in
    let b1 = r.books c.self.inside.queue (λ n. 0) (λ n. value_names node n c.args.value)
    c.self.invariant (λ n above. let b = bounds n above in omega arith) (λ n. omega arith) in
    let w : Slotted node raised.objects (λ n. value_names node n c.args.value)
    (λ n. value_names node n old) serial c.args.at c.args.value old f.object = record {
      stored = f.stored;
      within = within;
      old_is = get_or_from_slice_get f.object.slots c.args.at old old
          (c.set_slot-old.ensures.old f.object f.stored);
      before = λ k. refl;
      after = λ k. refl;
      known = λ k above.
          stored_some raised.objects k
          (subst (λ (l : List Stored). IsSome (find_stored l k)) (sym r.seen) (known k above));
    } in
    let b2 = books-slotted node raised.next raised.objects raised.spare c.self.inside.queue _
    (λ n. value_names node n old) serial c.args.at c.args.value old f.object
    c.bound-bound.ensures.rising w b1 in
    l.books (λ n. value_names node n old) (λ n. 0)
    (rw (c.set_slot-old.ensures.objects, c.set_slot-old.ensures.spare) b2) (λ n. omega arith)

pub returns-clause-old : goal.returns-clause-old
returns-clause-old c = λ s found.
    let raised = c.raise_value.new.table in
    let serial = c.oid.inside.serial in
    let there = rw (← c.self.view_is, ← c.oid.view_is) at found in
    let f : Behind raised.objects serial s =
    behind raised.objects serial s (ap (λ l. find_stored l serial) c.raise_value.ensures.seen
    ∙ there) in
    ap (λ l. slice_get l c.args.at) (sym (ap (λ (t : Stored). t.slots) f.same))
    ∙ c.set_slot-old.ensures.old f.object f.stored

pub returns-clause-objects : goal.returns-clause-objects
returns-clause-objects c =
    let raised = c.raise_value.new.table in
    let serial = c.oid.inside.serial in
    rw (← c.self.view_is, ← c.oid.view_is) (
    c.lower_value.ensures.seen ∙ ap (map seen) c.set_slot-old.ensures.objects
    ∙ seen-edit raised.objects serial (slot_written c.args.at c.args.value)
    (λ (o : Stored). record o { slots = set o.slots c.args.at c.args.value } ∷ [])
    (λ x is. refl) 0 raised.next c.bound-bound.ensures.rising
    ∙ ap (replaced serial
    (λ (o : Stored). record o { slots = set o.slots c.args.at c.args.value } ∷ []))
    c.raise_value.ensures.seen)
