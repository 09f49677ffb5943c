use Rattle.do_record.proofs.value.is_value.Goals as goal
use Rattle.std.proofs.Common.{◌≡◌, ◌∙◌, ◌+◌, ◌-◌, ◌<◌, ℕ, suc, sym, arith, length}
use Rattle.do_record.proofs.values.Walking.{walks_none, walks_some}

-- what is left before a token is one more than behind it
one_less : (all done : ℕ) → done < all → all - done ≡ suc (all - (done + 1))
one_less all done below = omega arith

pub returns-in_default : goal.returns-in_default
returns-in_default c =
    let all = length c.args.bytes.now in
    sym (c.loop-token.invariant
    ∙ walks_none (all - c.loop-token._token) (all - (c.loop-token._token + 1)) c.loop-token.want
    c.loop-token.depth c.loop-token.rest.now
    (one_less all c.loop-token._token c.loop-token-test.true)
    (sym c.if-is_walked.ensures) (sym c.in_default.ensures))

pub loop-token-preserved : goal.loop-token-preserved
loop-token-preserved c =
    let all = length c.args.bytes.now in
    c.loop-token.invariant
    ∙ walks_some (all - c.loop-token._token) (all - (c.loop-token._token + 1)) c.loop-token.want
    c.loop-token.depth c.loop-token.rest.now
    (c.in-Some.next, c.in-Some.deeper, c.in-Some.behind.now)
    (one_less all c.loop-token._token c.loop-token-test.true) (sym c.if-is_walked.ensures)
    (sym c.in-Some.ensures)
