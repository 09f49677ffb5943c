use Rattle.do_make.proofs.summing.summary.Goals as goal
use Rattle.std.{proofs.Common.{◌≡◌, [], ap, rules, sym, ◌∙◌}, specs.Vec.Iter.into_iter_items}
use Rattle.std.proofs.lemmas.List.{nil_from_length}
use Rattle.do_machine.specs.run.Run.{Acting}
use Rattle.do_net.specs.Net.{network}
use Rattle.do_network.specs.Wired.{net_blocks}
use Rattle.do_make.proofs.LinesSummed.{counts_line, summed, summed_first, summed_last}
use Rattle.do_agreement.proofs.texts.TextsAgree.{opened_blocks}
use Rattle.do_replay.proofs.LinesAsOne.{led_as_one}
use Rattle.do_replay.proofs.SpelledSoFar.{led_by_all, spelled_all, spelled_first, spelled_next}

-- at first nothing is counted
pub loop-line-init : goal.loop-line-init
loop-line-init g c =
    let items : into_iter_items c.into_iter-line-iterator.result ≡ c.args.lines = search rules in
    let act : Acting = g.S.Acts.Behaviour.act c.args.net.now.acts in
    let blocks = net_blocks c.args.net.now.table act (network g.S.Hosted.seen c.args.net.now) in
    record {
      so_far = ap (λ ls. summed c.new-sum.result (blocks ls)) items
          ∙ ap (λ s. summed s (blocks c.args.lines)) c.new-sum.ensures
          ∙ summed_first (blocks c.args.lines);
      spelled = spelled_first _ _ _ c.args.lines _ items;
      table = search rules;
      acts = search rules;
      stands = c.requires.stands;
      sent = c.requires.sent;
    }

-- each line is counted
pub loop-line-preserved : goal.loop-line-preserved
loop-line-preserved g c =
    let i = c.loop-line.invariant in
    let p = c.in_ok-add_line.ensures in
    record {
      so_far = counts_line c.args.net.now.table (g.S.Acts.Behaviour.act c.args.net.now.acts)
          (network g.S.Hosted.seen c.loop-line.net) _ c.loop-line.sum _ _ c.in-Some.line _ _
          c.in-Some.ensures.steps.0 (rw (i.table, i.acts) at p.sum) (rw (i.table, i.acts) at p.net)
          i.so_far;
      spelled = spelled_next _ _ _ _ _ c.args.lines _ _ c.in-Some.line c.in-Some.ensures.steps.0
          (rw (i.table, i.acts) at p.net) (rw (i.table, i.acts) at p.spelled) i.spelled;
      table = p.table ∙ i.table;
      acts = p.acts ∙ i.acts;
      stands = p.stands;
      sent = p.sent;
    }

-- behind the last line all is counted
pub returns-clause-sum : goal.returns-clause-sum
returns-clause-sum g c =
    let none : into_iter_items c.loop-line.line-iterator ≡ [] =
    nil_from_length _ (sym c.loop-line.line-iterator.rest.ok.0 ∙ c.in-None.ensures.steps.0) in
    let act : Acting = g.S.Acts.Behaviour.act c.args.net.now.acts in
    let blocks = net_blocks c.args.net.now.table act (network g.S.Hosted.seen c.loop-line.net) in
    sym (summed_last c.loop-line.sum)
    ∙ sym (ap (λ ls. summed c.loop-line.sum (blocks ls)) none)
    ∙ c.loop-line.invariant.so_far

-- and the lines came to what they come to in one machine
pub returns-clause-one_machine : goal.returns-clause-one_machine
returns-clause-one_machine g c =
    let none : into_iter_items c.loop-line.line-iterator ≡ [] =
    nil_from_length _ (sym c.loop-line.line-iterator.rest.ok.0 ∙ c.in-None.ensures.steps.0) in
    let act : Acting = g.S.Acts.Behaviour.act c.args.net.now.acts in
    let opened = network g.S.Hosted.seen c.args.net.now in
    λ seats world opens. opened_blocks c.args.net.now.table act seats world opened opens
    c.args.lines
    (spelled_all c.args.net.now.table act opened _ c.args.lines _ none
    c.loop-line.invariant.spelled)

-- the network is the one to which all lines led
pub returns-clause-network : goal.returns-clause-network
returns-clause-network g c =
    let none : into_iter_items c.loop-line.line-iterator ≡ [] =
    nil_from_length _ (sym c.loop-line.line-iterator.rest.ok.0 ∙ c.in-None.ensures.steps.0) in
    led_by_all _ _ _ _ _ _ none c.loop-line.invariant.spelled

-- so it stands for the state to which they lead
pub returns-clause-agrees : goal.returns-clause-agrees
returns-clause-agrees g c =
    let none : into_iter_items c.loop-line.line-iterator ≡ [] =
    nil_from_length _ (sym c.loop-line.line-iterator.rest.ok.0 ∙ c.in-None.ensures.steps.0) in
    λ state stands. led_as_one _ _ c.args.lines _ _ state
    (led_by_all _ _ _ _ _ _ none c.loop-line.invariant.spelled)
    (spelled_all _ _ _ _ _ _ none c.loop-line.invariant.spelled) stands
