use Rattle.do_node.proofs.leaking.pass.Goals as goal
use Rattle.std.proofs.{Common.{◌≡◌, [], ◌∙◌, rules, sym}, lemmas.List.nil_from_length}
use Rattle.std.specs.Vec.Iter.{into_iter_items}
use Rattle.do_net.specs.Net.{network}
use Rattle.do_node.proofs.LeaksLast.{leads_first, leads_last, leads_next}

-- before the first line all are left
pub loop-line-init : goal.loop-line-init
loop-line-init g c =
    let items : into_iter_items c.into_iter-line-iterator.result ≡ c.args.lines = search rules in
    record {
      leads = λ state stands. leads_first _ _ _ state c.args.lines _ items stands;
      stands = c.requires;
      table = search rules;
      acts = search rules;
    }

-- one line more leads on
pub loop-line-preserved : goal.loop-line-preserved
loop-line-preserved g c =
    let seen = g.S.Hosted.seen in
    let i = c.loop-line.invariant in
    let p = c.in_ok-pass_line.ensures in
    record {
      leads = λ state stands. leads_next c.args.net.now.table
          (g.S.Acts.Behaviour.act c.args.net.now.acts) _ (network seen c.loop-line.net)
          (network seen c.pass_line.new.net) c.in-Some.line _ _ c.in-Some.ensures.steps.0
          (rw (i.table, i.acts) at p.one_machine) (i.leads state stands);
      stands = p.stands;
      table = p.table ∙ i.table;
      acts = p.acts ∙ i.acts;
    }

-- where none is left, all were done
pub returns-clause-one_machine : goal.returns-clause-one_machine
returns-clause-one_machine g c =
    let none : into_iter_items c.loop-line.line-iterator ≡ [] =
    nil_from_length _ (sym c.loop-line.line-iterator.rest.ok.0 ∙ c.in-None.ensures.steps.0) in
    λ state stands. leads_last _ _ _ _ _ none (c.loop-line.invariant.leads state stands)
