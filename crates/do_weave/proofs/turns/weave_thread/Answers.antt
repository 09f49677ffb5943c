use Rattle.do_weave.proofs.turns.weave_thread.Goals as goal
use Rattle.std.proofs.Common.{◌∙◌, ◌++◌, sym, ap}
use Rattle.do_weave.specs.{Inputs.lines_of, Threads.advanced, Weaving.contradiction}
use Rattle.do_weave.proofs.Calls.{had_turn}

pub returns-then-not-branch : goal.returns-then-not-branch
returns-then-not-branch g c = λ R S place stands.
    let h = had_turn (g.M.Machine.stands_for c.try_input.new.machine R) R S c.args.records.now place
    c.args.thread.now c.in-Some.block.now c.in-Some-2.outcome c.is_cut-cut.result
    c.in_ok-agrees.field-0 (sym c.in-Some.ensures.value)
    (rw c.in-Some-2.is at (c.in_ok-outcome.ensures.tried R S stands)) c.is_cut-cut.ensures
    c.in_ok-agrees.ensures in
    rw c.contradiction.ensures (
      h.turn,
      h.is,
      h.agreed_is ∙ c.if-not-branch.true,
      ap (λ t. contradiction t h.turn.block) h.thread_is
          ∙ ap (contradiction c.args.thread.now) h.block_is,
    )

pub returns : goal.returns
returns g c = λ R S place stands.
    let h = had_turn (g.M.Machine.stands_for c.try_input.new.machine R) R S c.args.records.now place
    c.args.thread.now c.in-Some.block.now c.in-Some-2.outcome c.is_cut-cut.result
    c.in_ok-agrees.field-0 (sym c.in-Some.ensures.value)
    (rw c.in-Some-2.is at (c.in_ok-outcome.ensures.tried R S stands)) c.is_cut-cut.ensures
    c.in_ok-agrees.ensures in (
      h.turn,
      h.is,
      h.agreed_is ∙ c.if-not-branch.false,
      h.stands,
      ap advanced (sym h.thread_is),
      c.in_ok-push_lines.ensures
          ∙ ap (λ t. c.args.lines.now ++ lines_of t.port c.in-Some.block.now.input)
          (sym h.thread_is)
          ∙ ap (λ b. c.args.lines.now ++ lines_of h.turn.thread.port b.input) (sym h.block_is),
    )
