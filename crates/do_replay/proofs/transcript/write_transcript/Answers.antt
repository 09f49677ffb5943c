use Rattle.do_replay.proofs.transcript.write_transcript.Goals as goal
use Rattle.std.{proofs.Common.{◌≡◌, [], ap, sym, ◌∙◌, rules}, specs.Vec.Iter.into_iter_items}
use Rattle.std.proofs.lemmas.List.{nil_from_length}
use Rattle.do_net.specs.Net.{network}
use Rattle.do_replay.proofs.AsOneMachine.{begun_as_one, more_as_one, whole_as_one, written_as_one}
use Rattle.do_replay.proofs.{BlocksToCome.{ahead_start, ahead_end}, LineDone.line_done}
use Rattle.do_replay.proofs.LinesAsOne.{led_as_one}
use Rattle.do_replay.proofs.SpelledSoFar.{led_by_all, spelled_all, spelled_first}
use Rattle.do_output.proofs.SentIsPrefix.{ahead_sent, ahead_prefix, ahead_part, ahead_whole}

pub loop-line-init : goal.loop-line-init
loop-line-init g c =
    let items : into_iter_items c.into_iter-line-iterator.result ≡ c.args.lines = search rules in
    record {
      written = ahead_start _ _ _ _ _ c.args.lines _ c.in_ok-waiting.ensures items;
      spelled = spelled_first _ _ _ c.args.lines _ items;
      later = search rules;
      stands = c.requires.stands;
      table = c.requires.table;
      acts = search rules;
      sent = c.requires.sent;
    }

pub loop-line-preserved : goal.loop-line-preserved
loop-line-preserved g c =
    let seen = g.S.Hosted.seen in
    let i = c.loop-line.invariant in
    let p = c.in_ok-push_block.ensures in
    let d = c.in_ok-flush_if_long.ensures.ok in
    let next = line_done _ _ _ _ _ _ _ _ _ _ _ _ c.in-Some.line _ _
    (ap (λ a. g.S.Acts.Behaviour.act a) i.acts) c.in-Some.ensures.steps.0
    (record { text = p.text; net = p.net; spelled = p.spelled }) i.written i.spelled in
    record {
      written = ahead_sent _ _ _ _ d.0 _ _ _ d.1 d.2 next.written;
      spelled = next.spelled;
      later = search rules;
      stands = p.stands;
      table = p.table;
      acts = p.acts ∙ i.acts;
      sent = p.sent;
    }

pub returns-in_err-push_block-clause-prefix : goal.returns-in_err-push_block-clause-prefix
returns-in_err-push_block-clause-prefix g c = ahead_prefix _ _ _ _ _ c.loop-line.invariant.written

pub returns-in_err-push_bytes-clause-prefix : goal.returns-in_err-push_bytes-clause-prefix
returns-in_err-push_bytes-clause-prefix g c = ahead_prefix _ _ _ _ _ c.loop-line.invariant.written

pub returns-in_err-flush_if_long-clause-prefix : goal.returns-in_err-flush_if_long-clause-prefix
returns-in_err-flush_if_long-clause-prefix g c =
    let i = c.loop-line.invariant in
    let p = c.in_ok-push_block.ensures in
    let next = line_done _ _ _ _ _ _ _ _ _ _ _ _ c.in-Some.line _ _
    (ap (λ a. g.S.Acts.Behaviour.act a) i.acts) c.in-Some.ensures.steps.0
    (record { text = p.text; net = p.net; spelled = p.spelled }) i.written i.spelled in
    ahead_part _ _ _ _ _ _ c.flush_if_long.ensures.prefix next.written

pub returns-in_err-flush-clause-prefix : goal.returns-in_err-flush-clause-prefix
returns-in_err-flush-clause-prefix g c =
    let none : into_iter_items c.loop-line.line-iterator ≡ [] =
    nil_from_length _ (sym c.loop-line.line-iterator.rest.ok.0 ∙ c.in-None.ensures.steps.0) in
    ahead_part _ _ _ _ _ _ c.flush.ensures.prefix
    (ahead_end _ _ _ _ _ _ _ _ _ none c.in_ok-push_bytes.ensures.ok
    c.loop-line.invariant.written)

pub returns-clause-ok : goal.returns-clause-ok
returns-clause-ok g c =
    let none : into_iter_items c.loop-line.line-iterator ≡ [] =
    nil_from_length _ (sym c.loop-line.line-iterator.rest.ok.0 ∙ c.in-None.ensures.steps.0) in
    ahead_whole _ _ _ _ _ c.in_ok-flush.ensures.ok
    (ahead_end _ _ _ _ _ _ _ _ _ none c.in_ok-push_bytes.ensures.ok
    c.loop-line.invariant.written)

pub returns-clause-prefix : goal.returns-clause-prefix
returns-clause-prefix g c =
    let none : into_iter_items c.loop-line.line-iterator ≡ [] =
    nil_from_length _ (sym c.loop-line.line-iterator.rest.ok.0 ∙ c.in-None.ensures.steps.0) in
    ahead_part _ _ _ _ _ _ c.flush.ensures.prefix
    (ahead_end _ _ _ _ _ _ _ _ _ none c.in_ok-push_bytes.ensures.ok
    c.loop-line.invariant.written)

-- ---- as one machine

-- nothing was written
pub returns-in_err-waiting-clause-one_machine_first :
    goal.returns-in_err-waiting-clause-one_machine_first
returns-in_err-waiting-clause-one_machine_first g c =
    λ seats world opens. begun_as_one c.args.table.now
    (g.S.Acts.Behaviour.act c.args.net.now.acts) seats world
    (network g.S.Hosted.seen c.args.net.now) opens c.args.lines (g.K.Sink.written c.args.out.now)

pub returns-in_err-push_block-clause-one_machine_first :
    goal.returns-in_err-push_block-clause-one_machine_first
returns-in_err-push_block-clause-one_machine_first g c =
    λ seats world opens. written_as_one _ _ seats world _ opens c.args.lines _ _ _ _ _
    c.loop-line.invariant.written c.loop-line.invariant.spelled

pub returns-in_err-push_bytes-clause-one_machine_first :
    goal.returns-in_err-push_bytes-clause-one_machine_first
returns-in_err-push_bytes-clause-one_machine_first g c =
    λ seats world opens. written_as_one _ _ seats world _ opens c.args.lines _ _ _ _ _
    c.loop-line.invariant.written c.loop-line.invariant.spelled

pub returns-in_err-flush_if_long-clause-one_machine_first :
    goal.returns-in_err-flush_if_long-clause-one_machine_first
returns-in_err-flush_if_long-clause-one_machine_first g c =
    let i = c.loop-line.invariant in
    let p = c.in_ok-push_block.ensures in
    let next = line_done _ _ _ _ _ _ _ _ _ _ _ _ c.in-Some.line _ _
    (ap (λ a. g.S.Acts.Behaviour.act a) i.acts) c.in-Some.ensures.steps.0
    (record { text = p.text; net = p.net; spelled = p.spelled }) i.written i.spelled in
    λ seats world opens. more_as_one _ _ seats world _ opens c.args.lines _ _ _ _ _
    next.written next.spelled _ c.flush_if_long.ensures.prefix

-- all lines were done
pub returns-in_err-flush-clause-one_machine_first :
    goal.returns-in_err-flush-clause-one_machine_first
returns-in_err-flush-clause-one_machine_first g c =
    let none : into_iter_items c.loop-line.line-iterator ≡ [] =
    nil_from_length _ (sym c.loop-line.line-iterator.rest.ok.0 ∙ c.in-None.ensures.steps.0) in
    λ seats world opens. record {
      text = _;
      wires = whole_as_one _ _ seats world _ opens c.args.lines
          (spelled_all _ _ _ _ _ _ none c.loop-line.invariant.spelled);
      written = returns-in_err-flush-clause-prefix g c;
    }

pub returns-clause-one_machine_first : goal.returns-clause-one_machine_first
returns-clause-one_machine_first g c =
    let none : into_iter_items c.loop-line.line-iterator ≡ [] =
    nil_from_length _ (sym c.loop-line.line-iterator.rest.ok.0 ∙ c.in-None.ensures.steps.0) in
    λ seats world opens. record {
      text = _;
      wires = whole_as_one _ _ seats world _ opens c.args.lines
          (spelled_all _ _ _ _ _ _ none c.loop-line.invariant.spelled);
      written = returns-clause-prefix g c;
    }

pub returns-clause-one_machine : goal.returns-clause-one_machine
returns-clause-one_machine g c =
    let none : into_iter_items c.loop-line.line-iterator ≡ [] =
    nil_from_length _ (sym c.loop-line.line-iterator.rest.ok.0 ∙ c.in-None.ensures.steps.0) in
    λ seats world opens. whole_as_one _ _ seats world _ opens c.args.lines
    (spelled_all _ _ _ _ _ _ none c.loop-line.invariant.spelled)

-- ---- the network

-- it is the one to which all lines led
pub returns-clause-network : goal.returns-clause-network
returns-clause-network g c =
    let none : into_iter_items c.loop-line.line-iterator ≡ [] =
    nil_from_length _ (sym c.loop-line.line-iterator.rest.ok.0 ∙ c.in-None.ensures.steps.0) in
    led_by_all _ _ _ _ _ _ none c.loop-line.invariant.spelled

-- so it stands for the state to which they lead
pub returns-clause-agrees : goal.returns-clause-agrees
returns-clause-agrees g c =
    let none : into_iter_items c.loop-line.line-iterator ≡ [] =
    nil_from_length _ (sym c.loop-line.line-iterator.rest.ok.0 ∙ c.in-None.ensures.steps.0) in
    λ state stands. led_as_one _ _ c.args.lines _ _ state
    (led_by_all _ _ _ _ _ _ none c.loop-line.invariant.spelled)
    (spelled_all _ _ _ _ _ _ none c.loop-line.invariant.spelled) stands
