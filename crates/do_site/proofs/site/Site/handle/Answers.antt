use Rattle.do_network.specs.declared.input.Input.TheVariants as inputs
use Rattle.do_site.proofs.site.Site.handle.Goals as goal
use Rattle.std.{proofs.Common.{List, ap, refl, subst}, specs.Prelude.IfOk}
use Rattle.do_class.specs.Class.{Class}
use Rattle.do_machine.specs.{Start.start_effect, ends.TimeOut.time_out}
use Rattle.do_machine.specs.run.Run.{Acting, run_effect}
use Rattle.do_network.specs.Own.{site_context}
use Rattle.do_site.specs.Steps.{Does, close_effect, end_effect, part_of}
use Rattle.do_site.proofs.{EffectsTold.by_classes, InputsHandled.input_handled}
use Rattle.do_site.proofs.StepsSeen.{close_is, end_is}

pub returns-in-Run-clause-handles : goal.returns-in-Run-clause-handles
returns-in-Run-clause-handles g c =
    let a = c.self.inside.work.core in
    let b = c.run.new.self.core in
    let act = g.B.Behaviour.act in
    let acting = act c.self.inside.acts in
    let table = c.self.inside.table in
    let done = subst (λ (t : List Class). IfOk c.run.result (λ told.
    Does a b told (run_effect acting (site_context t a.part.own)))) c.get-table.ensures
    (subst (λ (x : Acting). IfOk c.run.result (λ told.
    Does a b told (run_effect x (site_context c.get-table.result.now a.part.own))))
    (ap act c.get.ensures) c.run.ensures.done) in
    input_handled act _ _ c.self.view_is b c.args.input.now inputs.Run c.in-Run.is
    (run_effect acting (site_context table a.part.own)) refl c.run.result c.done_told.result
    c.done_told.ensures done c.run.ensures.err

pub returns-in-Start-clause-handles : goal.returns-in-Start-clause-handles
returns-in-Start-clause-handles g c =
    let a = c.self.inside.work.core in
    let b = c.start.new.self.core in
    let at = c.in-Start in
    let done = subst (λ (t : List Class). IfOk c.start.result (λ told.
    Does a b told (start_effect t at.selector at.values a.part.own.node))) c.get-table.ensures
    c.start.ensures.done in
    input_handled g.B.Behaviour.act _ _ c.self.view_is b c.args.input.now
    (inputs.Start at.selector at.values) at.is
    (start_effect c.self.inside.table at.selector at.values a.part.own.node) refl c.start.result
    c.done_told-in-Start.result c.done_told-in-Start.ensures done c.start.ensures.err

pub returns-in-Close-clause-handles : goal.returns-in-Close-clause-handles
returns-in-Close-clause-handles g c =
    let a = c.self.inside.work.core in
    let peer = c.in-Close.peer in
    input_handled g.B.Behaviour.act _ _ c.self.view_is c.close_if_open.new.self.core
    c.args.input.now (inputs.Close peer) c.in-Close.is (close_effect peer a.part.own.node)
    (close_is (part_of a) peer) c.close_if_open.result c.done_told-in-Close.result
    c.done_told-in-Close.ensures c.close_if_open.ensures.done c.close_if_open.ensures.err

pub returns-in-Ended-clause-handles : goal.returns-in-Ended-clause-handles
returns-in-Ended-clause-handles g c =
    let a = c.self.inside.work.core in
    let b = c.end_if_taken.new.self.core in
    let table = c.self.inside.table in
    let peer = c.in-Ended.peer in
    input_handled g.B.Behaviour.act _ _ c.self.view_is b c.args.input.now (inputs.Ended peer)
    c.in-Ended.is (end_effect table peer a.part.own) (end_is table (part_of a) peer)
    c.end_if_taken.result c.done_told-in-Ended.result c.done_told-in-Ended.ensures
    (by_classes a b c.end_if_taken.result (λ t. end_effect t peer a.part.own)
    c.end_if_taken.ensures.done table) c.end_if_taken.ensures.err

pub returns-in-Timeout-clause-handles : goal.returns-in-Timeout-clause-handles
returns-in-Timeout-clause-handles g c =
    let a = c.self.inside.work.core in
    input_handled g.B.Behaviour.act _ _ c.self.view_is c.time_out.new.self.core
    c.args.input.now inputs.Timeout c.in-Timeout.is (time_out a.part.own.node) refl
    c.time_out.result c.done_told-in-Timeout.result c.done_told-in-Timeout.ensures
    c.time_out.ensures.done c.time_out.ensures.err
