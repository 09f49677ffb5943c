use Rattle.do_stack.proofs.late.LateCalls.has.Goals as goal
use Rattle.std.proofs.Common.{arith}
use Rattle.do_machine.specs.take.Awaiting.{AnsweredCall}
use Rattle.do_stack.proofs.rows.CallsAnswered.{found_is}

-- no row has the number
pub returns-in_default : goal.returns-in_default
returns-in_default c =
    let k : AnsweredCall =
    record { peer = c.args.peer; number = c.args.number; root = c.args.root } in
    let found = found_is k c.self.inside.rows.rows c.self.invariant in
    grind (arith, found, c.self.view_is, c.in_default.ensures, c.get.ensures)

-- the row is of the peer
pub returns-then-eq : goal.returns-then-eq
returns-then-eq c =
    let k : AnsweredCall =
    record { peer = c.args.peer; number = c.args.number; root = c.args.root } in
    let found = found_is k c.self.inside.rows.rows c.self.invariant in
    grind (
      arith,
      found,
      c.self.view_is,
      c.in-Some,
      c.get.ensures,
      c.eq.ensures,
      c.if-eq.true,
      c.is_for_root.ensures,
    )

-- the row is of another peer
pub returns-else-eq : goal.returns-else-eq
returns-else-eq c =
    let k : AnsweredCall =
    record { peer = c.args.peer; number = c.args.number; root = c.args.root } in
    let found = found_is k c.self.inside.rows.rows c.self.invariant in
    grind (arith, found, c.self.view_is, c.in-Some, c.get.ensures, c.eq.ensures, c.if-eq.false)
