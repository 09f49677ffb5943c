use Rattle.do_document.proofs.document.texts_at.Goals as goal
use Rattle.toml.specs.Data.{as_str}
use Rattle.do_document.proofs.ListSteps.{all_made, step_made, texts_made}

pub loop-member-preserved : goal.loop-member-preserved
loop-member-preserved c =
    step_made as_str c.members_at-members.result.now c.loop-member.member-index
    c.member-item.result _
    _ c.loop-member-test.true c.member-item.is c.loop-member.invariant c.in_ok-push_text.ensures

pub returns : goal.returns
returns c =
    texts_made _ _ _ (all_made as_str c.members_at-members.result.now c.loop-member.member-index _ _
    c.loop-member-test.false c.loop-member.invariant c.members_at-members.ensures)
