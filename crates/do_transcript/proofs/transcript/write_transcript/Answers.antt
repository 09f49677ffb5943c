use Rattle.do_transcript.proofs.transcript.write_transcript.Goals as goal
use Rattle.std.{proofs.Common.{◌≡◌, [], sym, ◌∙◌, rules}, specs.Vec.Iter.into_iter_items}
use Rattle.std.proofs.lemmas.List.{nil_from_length}
use Rattle.do_transcript.proofs.BlocksToCome.{ahead_start, ahead_block, ahead_end}
use Rattle.do_output.proofs.SentIsPrefix.{ahead_sent, ahead_prefix, ahead_part, ahead_whole}

pub loop-line-init : goal.loop-line-init
loop-line-init g c =
    let items : into_iter_items c.into_iter-line-iterator.result ≡ c.args.lines = search rules in
    record {
      written = ahead_start _ _ _ _ _ c.args.lines _ c.in_ok-waiting.ensures items;
      later = search rules;
    }

pub loop-line-preserved : goal.loop-line-preserved
loop-line-preserved g c =
    let a = c.in-Some.ensures.steps in
    let d = c.in_ok-flush_if_long.ensures.ok in record {
      written = rw c.in_ok-push_block.ensures.state (ahead_sent _ _ _ _ d.0 _ _ _ d.1 d.2
          (ahead_block _ _ _ _ _ _ _ _ c.in-Some.line _ _ a.0
          c.in_ok-push_block.ensures.text c.loop-line.invariant.written));
      later = search rules;
    }

pub returns-in_err-push_block-clause-prefix : goal.returns-in_err-push_block-clause-prefix
returns-in_err-push_block-clause-prefix g c = ahead_prefix _ _ _ _ _ c.loop-line.invariant.written

pub returns-in_err-push_bytes-clause-prefix : goal.returns-in_err-push_bytes-clause-prefix
returns-in_err-push_bytes-clause-prefix g c = ahead_prefix _ _ _ _ _ c.loop-line.invariant.written

pub returns-in_err-flush_if_long-clause-prefix : goal.returns-in_err-flush_if_long-clause-prefix
returns-in_err-flush_if_long-clause-prefix g c =
    ahead_part _ _ _ _ _ _ c.flush_if_long.ensures.prefix
    (ahead_block _ _ _ _ _ _ _ _ c.in-Some.line _ _
    c.in-Some.ensures.steps.0 c.in_ok-push_block.ensures.text c.loop-line.invariant.written)

pub returns-in_err-flush-clause-prefix : goal.returns-in_err-flush-clause-prefix
returns-in_err-flush-clause-prefix g c =
    let none : into_iter_items c.loop-line.line-iterator ≡ [] =
    nil_from_length _ (sym c.loop-line.line-iterator.rest.ok.0 ∙ c.in-None.ensures.steps.0) in
    ahead_part _ _ _ _ _ _ c.flush.ensures.prefix
    (ahead_end _ _ _ _ _ _ _ _ _ none c.in_ok-push_bytes.ensures.ok
    c.loop-line.invariant.written)

pub returns-clause-ok : goal.returns-clause-ok
returns-clause-ok g c =
    let none : into_iter_items c.loop-line.line-iterator ≡ [] =
    nil_from_length _ (sym c.loop-line.line-iterator.rest.ok.0 ∙ c.in-None.ensures.steps.0) in
    ahead_whole _ _ _ _ _ c.in_ok-flush.ensures.ok
    (ahead_end _ _ _ _ _ _ _ _ _ none c.in_ok-push_bytes.ensures.ok
    c.loop-line.invariant.written)

pub returns-clause-prefix : goal.returns-clause-prefix
returns-clause-prefix g c =
    let none : into_iter_items c.loop-line.line-iterator ≡ [] =
    nil_from_length _ (sym c.loop-line.line-iterator.rest.ok.0 ∙ c.in-None.ensures.steps.0) in
    ahead_part _ _ _ _ _ _ c.flush.ensures.prefix
    (ahead_end _ _ _ _ _ _ _ _ _ none c.in_ok-push_bytes.ensures.ok
    c.loop-line.invariant.written)
