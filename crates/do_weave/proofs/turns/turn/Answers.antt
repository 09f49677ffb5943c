use Rattle.do_weave.proofs.turns.turn.Goals as goal
use Rattle.std.proofs.Common.{◌∙◌, ◌++◌, ap}
use Rattle.do_weave.{specs.Inputs.lines_of, proofs.{Calls.{fails_turn, goes_on}, Turning.passed}}

-- the machine stands for what the threads so far left
pub weave_thread-requires : goal.weave_thread-requires
weave_thread-requires g c =
    let was = c.requires in (was.0, was.1, (c.loop-place.invariant.stands was.0 was.1 was.2).0)

pub loop-place-preserved : goal.loop-place-preserved
loop-place-preserved g c = record {
  threads = c.loop-place.invariant.threads;
  stands = λ R S stands.
      let before = c.loop-place.invariant.stands R S stands in
      let d = rw c.in-Ok-false.field-0-test
      at (c.in-Ok-false.ensures R S c.loop-place.place before.0) in (
        d.1,
        d.2 ∙ before.1,
        before.2 ∙ passed R S c.args.records.now c.args.threads.now c.loop-place.place
            c.index-as_slice-place.result (rw c.len-place-end.ensures at c.loop-place-test.true)
            (rw (c.as_slice.ensures, c.loop-place.invariant.threads) at c.index-as_slice-place.is)
            d.0,
      );
}

pub returns-in-Ok-true : goal.returns-in-Ok-true
returns-in-Ok-true g c = λ R S stands.
    let before = c.loop-place.invariant.stands R S stands in
    let d = rw c.in-Ok-true.field-0-test
    at (c.in-Ok-true.ensures R S c.loop-place.place before.0) in (
      d.0.stepped.state,
      d.3,
      goes_on R S c.args.records.now c.args.threads.now c.loop-place.place
          c.index-as_slice-place.result d.0 (rw c.len-place-end.ensures at c.loop-place-test.true)
          (rw (c.as_slice.ensures, c.loop-place.invariant.threads) at c.index-as_slice-place.is)
          before.2 d.1 c.weave_thread.new.thread c.set.new.self c.args.lines.now
          c.weave_thread.new.lines d.2 d.4
          (rw c.loop-place.invariant.threads at c.set.ensures)
          (d.5 ∙ ap (λ ls. ls ++ lines_of d.0.thread.port d.0.block.input) before.1),
    )

pub returns-in-Err : goal.returns-in-Err
returns-in-Err g c = λ R S stands.
    let before = c.loop-place.invariant.stands R S stands in
    fails_turn (g.M.Machine.stands_for c.weave_thread.new.machine R)
    (g.M.Machine.stands_for c.weave_thread.new.machine R) R S c.args.records.now
    c.args.threads.now c.loop-place.place c.index-as_slice-place.result
    (rw c.len-place-end.ensures at c.loop-place-test.true)
    (rw (c.as_slice.ensures, c.loop-place.invariant.threads) at c.index-as_slice-place.is)
    before.2 (record {
      thread_before = c.index-as_slice-place.result;
      thread_after = c.weave_thread.new.thread;
      lines_before = c.loop-place.lines;
      lines_after = c.weave_thread.new.lines;
    }) c.loop-place.threads c.args.lines.now c.weave_thread.new.lines c.in-Err.fault
    (c.in-Err.ensures R S c.loop-place.place before.0)
