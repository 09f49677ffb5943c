use Rattle.do_part.proofs.part.Part.names_are_stored.Goals as goal
use Rattle.std.proofs.Common.{◌≡◌, ◌<◌, ℕ, true, Some, IsSome, subst}
use Rattle.do_export.specs.Counts.{count_of}
use Rattle.do_machine.specs.State.{is_open, stored}
use Rattle.do_part.specs.{Names.{heap_of, stack_of, AreStored}, Owned.Owned}
use Rattle.do_part.proofs.Lookups.{slots-stored, stack-stored, root-stored, entry-there}

-- what slots name is stored
pub returns-clause-slots : goal.returns-clause-slots
returns-clause-slots c =
    subst (λ (v : Owned). AreStored v.own.node (heap_of v.own.node.heap)) c.self.view_is
    (slots-stored c.self.inside c.self.invariant)

-- what invocations name is stored
pub returns-clause-stack : goal.returns-clause-stack
returns-clause-stack c =
    subst (λ (v : Owned). AreStored v.own.node (stack_of v.own.node.stack)) c.self.view_is
    (stack-stored c.self.inside c.self.invariant)

-- the root is stored
pub returns-clause-root : goal.returns-clause-root
returns-clause-root c =
    subst (λ (v : Owned). (n : ℕ) → v.own.node.root ≡ Some n → IsSome (stored n v.own.node.heap))
    c.self.view_is (root-stored c.self.inside c.self.invariant)

-- the objects of entries are stored
pub returns-clause-entries : goal.returns-clause-entries
returns-clause-entries c =
    subst (λ (v : Owned). (peer n : ℕ) → is_open v.own.node peer ≡ true
    → 0 < count_of v.own.counts peer n → IsSome (stored n v.own.node.heap))
    c.self.view_is (entry-there c.self.inside c.self.invariant)
