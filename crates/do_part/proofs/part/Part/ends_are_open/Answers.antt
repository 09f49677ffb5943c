use Rattle.std.specs.FinMap as map
use Rattle.do_part.proofs.part.Part.ends_are_open.Goals as goal
use Rattle.std.proofs.Common.{◌≡◌, ℕ, refl, subst, true}
use Rattle.do_machine.specs.State.{is_open}
use Rattle.do_part.specs.{Owned.Owned, Rooting.held_of}

-- an entry is of a peer to which the end is open
pub returns-clause-ends : goal.returns-clause-ends
returns-clause-ends c = subst (λ (v : Owned). (k : ℕ × ℕ)
    → map.contains_key v.own.counts k ≡ true → is_open v.own.node k.0 ≡ true) c.self.view_is
    c.self.invariant.links.ends

-- the node holds just what was received
pub returns-clause-held : goal.returns-clause-held
returns-clause-held c = subst (λ (v : Owned). v.own.node.held ≡ held_of v.own.received)
    c.self.view_is refl
