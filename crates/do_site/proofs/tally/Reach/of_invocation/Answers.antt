use Rattle.do_site.proofs.tally.Reach.of_invocation.Goals as goal
use Rattle.std.proofs.Common.{arith}
use Rattle.do_site.proofs.Stored.{tally_invocation}

-- an invocation counts its object, its locals and its answer
pub returns : goal.returns
returns c =
    let all = tally_invocation c.args.self.part.now.own.node c.args.self.more
    c.args.invocation.now c.in_ok-own.own c.in_ok-of_locals.field-0 c.in_ok-of_state.field-0
    c.in_ok-own.ensures c.in_ok-of_locals.ensures c.in_ok-of_state.ensures in
    let counted = all.counted in
    let locals = c.in_ok-locals.ensures in
    let names = c.in_ok-names.ensures in
    record { counted = omega (arith, counted, locals, names); there = all.there }
