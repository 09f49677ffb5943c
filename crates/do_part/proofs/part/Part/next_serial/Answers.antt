use Rattle.do_part.proofs.part.Part.next_serial.Goals as goal
use Rattle.std.proofs.Common.{◌≡◌, ◌≤◌, ℕ, None, subst, arith}
use Rattle.do_machine.specs.State.{stored}
use Rattle.do_part.{specs.Owned.Owned, proofs.Lookups.none-later}

-- no object is stored under the next serial or a later one
pub returns-clause-free : goal.returns-clause-free
returns-clause-free c =
    subst (λ (v : Owned). (n : ℕ) → v.own.node.next_serial ≤ n → stored n v.own.node.heap ≡ None)
    c.self.view_is (none-later c.self.inside c.self.invariant)

-- there is no more room than there are serials
pub returns-clause-room : goal.returns-clause-room
returns-clause-room c = rw (← c.self.view_is) (omega arith)
