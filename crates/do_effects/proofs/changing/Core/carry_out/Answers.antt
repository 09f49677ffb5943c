use Rattle.do_effects.proofs.changing.Core.carry_out.Goals as goal
use Rattle.std.proofs.Common.{[], ◌∷◌, refl, ap, sym, ◌∙◌, arith}
use Rattle.do_base.specs.declared.values.value.Value.TheVariants.{Obj}
use Rattle.do_behave.specs.declared.invocation.InvState.TheVariants.{Below}
use Rattle.do_machine.specs.{declared.node.Node.Node, Effect.only, State.own}
use Rattle.do_machine.specs.run.Changes.{goes_on, goes_to, stands, uses}
use Rattle.do_machine.specs.run.Fresh.{pushed, with_objects, with_stack}
use Rattle.do_stack.specs.Waiting.{with_top as first_changed}
use Rattle.do_effects.specs.Plans.{plan_effect, plan_needs, top_changed}
use Rattle.do_effects.proofs.{Did.node_did, Gained.heap_made, Turned.turned}

-- the top invocation goes on with a value
pub returns-in-Goes : goal.returns-in-Goes
returns-in-Goes c =
    let old = c.args.self.now in
    let n = old.part.own.node in
    let f = goes_on c.in-Goes.into c.in-Goes.value c.in-Goes.pc in
    let w = node_did (λ r. plan_effect r c.args.plan) (plan_needs c.args.plan) old
    (record { part = c.goes.new.part; streams = old.streams }) (top_changed f n)
    c.requires.tidy (record { ends = refl; held = refl; asked = refl })
    (λ r run. ap (plan_effect r) c.in-Goes.is ∙ ap only (turned n r f run))
    c.goes.ensures.own refl (omega arith) in
    record { done = w.done; tidy = w.tidy; within = w.within }

-- the top invocation goes on with an answer
pub returns-in-Uses : goal.returns-in-Uses
returns-in-Uses c =
    let old = c.args.self.now in
    let n = old.part.own.node in
    let f = uses c.in-Uses.value c.in-Uses.outs in
    let w = node_did (λ r. plan_effect r c.args.plan) (plan_needs c.args.plan) old
    (record { part = c.uses.new.part; streams = old.streams }) (top_changed f n)
    c.requires.tidy (record { ends = refl; held = refl; asked = refl })
    (λ r run. ap (plan_effect r) c.in-Uses.is ∙ ap only (turned n r f run))
    c.uses.ensures refl (omega arith) in
    record { done = w.done; tidy = w.tidy; within = w.within }

-- an object is made, and the top invocation goes on with its name
pub returns-in-Makes : goal.returns-in-Makes
returns-in-Makes c =
    let old = c.args.self.now in
    let n = old.part.own.node in
    let ms = record { class = c.in-Makes.class; slots = c.in-Makes.slots } ∷ [] in
    let m : Node = with_objects ms (top_changed (goes_on c.in-Makes.into
    (Obj (own n n.next_serial)) c.in-Makes.pc) n) in
    let heap = heap_made ms n in
    let needs = ap (λ x. (plan_needs x).objects) c.in-Makes.is in
    let w = node_did (λ r. plan_effect r c.args.plan) (plan_needs c.args.plan) old
    (record { part = c.makes.new.part; streams = old.streams }) m
    c.requires.tidy (record { ends = refl; held = refl; asked = refl })
    (λ r run. ap (plan_effect r) c.in-Makes.is
    ∙ λ j. only (with_objects ms (with_stack (first_changed (goes_on c.in-Makes.into
    (Obj (own (run.node j) (run.node j).next_serial)) c.in-Makes.pc) (sym run.stack j))
    (run.node j)))) c.makes.ensures refl (omega arith) in
    record { done = w.done; tidy = w.tidy; within = w.within }

-- the root is set, and the top invocation goes on
pub returns-in-Vends : goal.returns-in-Vends
returns-in-Vends c =
    let old = c.args.self.now in
    let n = old.part.own.node in
    let w = node_did (λ r. plan_effect r c.args.plan) (plan_needs c.args.plan) old
    (record { part = c.vends.new.part; streams = old.streams })
    (record (top_changed (goes_to c.in-Vends.pc) n) { root = c.in-Vends.root })
    c.requires.tidy (record { ends = refl; held = refl; asked = refl })
    (λ r run. ap (plan_effect r) c.in-Vends.is
    ∙ ap (λ (k : Node). only (record k { root = c.in-Vends.root }))
    (turned n r (goes_to c.in-Vends.pc) run)) c.vends.ensures refl (omega arith) in
    record { done = w.done; tidy = w.tidy; within = w.within }

-- an invocation begins above the top one, which waits for it
pub returns-in-Begins : goal.returns-in-Begins
returns-in-Begins c =
    let old = c.args.self.now in
    let n = old.part.own.node in
    let i = c.in-Begins.invocation in
    let f = stands c.in-Begins.pc c.in-Begins.into c.in-Begins.outs Below in
    let w = node_did (λ r. plan_effect r c.args.plan) (plan_needs c.args.plan) old
    (record { part = c.begins.new.part; streams = old.streams })
    (pushed i (top_changed f n))
    c.requires.tidy (record { ends = refl; held = refl; asked = refl })
    (λ r run. ap (plan_effect r) c.in-Begins.is
    ∙ ap (λ (k : Node). only (pushed i k)) (turned n r f run))
    c.begins.ensures refl (omega arith) in
    record { done = w.done; tidy = w.tidy; within = w.within }
