use Rattle.do_rules.proofs.held.kept.kept.Goals as goal
use Rattle.std.proofs.Common.{◌∙◌, sym}
use Rattle.do_rules.proofs.{HeldUp.struck_is, Striking.{round_last, round_more}}

pub loop-rounds-preserved : goal.loop-rounds-preserved
loop-rounds-preserved c =
    round_more _ _ _ _ _ _ c.loop-rounds-test.true
    (struck_is c.args.state.now c.args.node.now _ _ _
    (c.in_ok-held.ensures ∙ c.in_ok-named.ensures) c.in_ok-fewer.ensures)
    (λ e. c.if-len.false (c.len.ensures ∙ e ∙ sym c.len-in-loop-rounds.ensures))
    c.loop-rounds.invariant

pub returns-then-len : goal.returns-then-len
returns-then-len c =
    round_last _ _ _ _ _ _ c.loop-rounds-test.true
    (struck_is c.args.state.now c.args.node.now _ _ _
    (c.in_ok-held.ensures ∙ c.in_ok-named.ensures) c.in_ok-fewer.ensures)
    (sym c.len.ensures ∙ c.if-len.true ∙ c.len-in-loop-rounds.ensures)
    c.loop-rounds.invariant
