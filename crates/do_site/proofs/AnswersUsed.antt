-- What a run does that uses an answer, once the answer was taken.
use Rattle.do_rules.specs.declared.run.delivery.Delivery.TheVariants as deliveries
use Rattle.do_site.specs.declared.work.running.Next.TheVariants as nexts
use Rattle.std.proofs.Common.{◌≡◌, ℕ, List, [], ◌∷◌, None, Some, refl, ap, arith, length, sym, ◌∙◌}
use Rattle.std.proofs.Common.{subst}
use Rattle.do_base.specs.declared.{events.exception.Exc.Exc, values.value.Value.Value}
use Rattle.do_class.specs.Class.{Class}
use Rattle.do_behave.specs.declared.invocation.Answer.{Answer, TheVariants.{Given, Raised}}
use Rattle.do_behave.specs.declared.invocation.{Invocation.Invocation, InvState.InvState}
use Rattle.do_behave.specs.declared.invocation.InvState.TheVariants.{Answered, Below, Running}
use Rattle.do_behave.specs.declared.invocation.InvState.TheVariants.{Waits}
use Rattle.do_machine.specs.{declared.node.Node.Node, held.Refers.answer_values, Context.RunContext}
use Rattle.do_network.specs.{Own.{Own, site_context}, Site.site_move}
use Rattle.do_part.specs.{Names.{AreStored, sizes_of, values_of}, Owned.Owned}
use Rattle.do_stack.specs.Answered.{answer_of, answer_taken, state_taken, top_answer}
use Rattle.do_stack.specs.Waiting.{with_top}
use Rattle.do_effects.specs.{Doing.{Doing, doing, moved}, Plans.{CanCarryOut, CanDo, IsRun}}
use Rattle.do_effects.specs.{Plans.{IsRunning, plan_effect, plan_needs, plan_values}, Tidy.IsTidy}
use Rattle.do_effects.specs.declared.{changing.Core.Core, plan.Plan.Plan}
use Rattle.do_effects.specs.declared.plan.Plan.TheVariants.{Asks, Begins, Delivers, Goes, Makes}
use Rattle.do_effects.specs.declared.plan.Plan.TheVariants.{Says, Tells, Uses, Vends}
use Rattle.do_site.proofs.{ActsDone.{same_moves, tidy_alone}, PlansKeep.enough_room}
use Rattle.do_site.specs.{Plans.IsEnough, Room.HasPlace, Running.{IsOver, IsRunOf, next_of}}
use Rattle.do_site.specs.{Running.raised_in, Steps.Moves, Stored.top_answered, Taken.IsTaken}
use Rattle.do_site.specs.{Taken.{own_taken, taken}, declared.{needs.Needs.Needs, told.Told.Told}}

-- the run of an invocation over others
abbrev over : List Class → Own → Invocation → List Invocation → RunContext
over table p top below = record { context = site_context table p; top = top; below = below }

module _ (table : List Class) (p : Own) (top : Invocation) (below : List Invocation) where
  -- the run once the answer was taken
  abbrev pub later : RunContext
  later = over table (own_taken p) (answer_taken top) below

  -- a plan after which nothing is left of the state does the same then
  pub over_alike : (plan : Plan) → IsOver plan →
      plan_effect later plan ≡ plan_effect (over table p top below) plan
  over_alike (Goes into value pc) h = refl
  over_alike (Uses value outs) h = refl
  over_alike (Delivers (deliveries.Shows line)) h = refl
  over_alike (Delivers (deliveries.Answers a)) h = refl
  over_alike (Delivers (deliveries.Replies peer number packet)) h = refl
  over_alike (Delivers (deliveries.Raises peer number e)) h = refl
  over_alike (Delivers deliveries.Drops) h = refl
  over_alike (Makes class slots into pc) h = absurd h
  over_alike (Vends root pc) h = absurd h
  over_alike (Says value pc) h = absurd h
  over_alike (Asks peer request into outs pc) h = absurd h
  over_alike (Begins i into outs pc) h = absurd h
  over_alike (Tells peer m into pc) h = absurd h

-- so of any run of the node
pub used_alike : (table : List Class) (p : Own) (r : RunContext) → IsRunOf table p r →
    (plan : Plan) → IsOver plan →
    plan_effect (later table p r.top r.below) plan ≡ plan_effect r plan
used_alike table p r run plan h =
    over_alike table p r.top r.below plan h
    ∙ (λ j. plan_effect (record { context = sym run.context j; top = r.top; below = r.below }) plan)

-- ---- which answer there is

-- an invocation that got what its call gave has that as its answer
pub given_is : (stack : List Invocation) → next_of stack ≡ nexts.Given →
    (v : Value) × ((outs : List Value) × (top_answer stack ≡ Some (Given v outs)))
given_is [] e = cc
given_is (top ∷ below) e = in_state top.state e
  where
    in_state : (s : InvState) → next_of (record top { state = s } ∷ below) ≡ nexts.Given →
        (v : Value) × ((outs : List Value) × (answer_of s ≡ Some (Given v outs)))
    in_state Running e = cc
    in_state Below e = cc
    in_state (Answered (Given v outs)) e = (v, (outs, refl))
    in_state (Answered (Raised exc)) e = cc
    in_state (Waits call peer what) e = cc

-- one whose call ended with an exception has that
pub raised_is : (stack : List Invocation) → next_of stack ≡ nexts.Raised →
    (exc : Exc) × (top_answer stack ≡ Some (Raised exc))
raised_is [] e = cc
raised_is (top ∷ below) e = in_state top.state e
  where
    in_state : (s : InvState) → next_of (record top { state = s } ∷ below) ≡ nexts.Raised →
        (exc : Exc) × (answer_of s ≡ Some (Raised exc))
    in_state Running e = cc
    in_state Below e = cc
    in_state (Answered (Given v outs)) e = cc
    in_state (Answered (Raised exc)) e = (exc, refl)
    in_state (Waits call peer what) e = cc

-- the answer of a run is the one that its node has
pub same_answer : (table : List Class) (p : Own) (r : RunContext) (a b : Answer) →
    IsRunOf table p r → r.top.state ≡ Answered a → top_answer p.node.stack ≡ Some b → b ≡ a
same_answer table p r a b run is has =
    let one : Some b ≡ Some a = sym has ∙ ap top_answer run.stack ∙ ap answer_of is in cc

-- an invocation with an answer is in that state
answered_in : (s : InvState) (a : Answer) → answer_of s ≡ Some a → s ≡ Answered a
answered_in Running a e = cc
answered_in Below a e = cc
answered_in (Answered b) a e = let same : b ≡ a = cc in ap Answered same
answered_in (Waits call peer what) a e = cc

-- where that is an exception it is this one
pub raised_answer : (s : InvState) (a : Answer) (exc : Exc) → s ≡ Answered a →
    raised_in s ≡ Some exc → Raised exc ≡ a
raised_answer s (Given v outs) exc is h =
    let none : None ≡ Some exc = sym (ap raised_in is) ∙ h in cc
raised_answer s (Raised e) exc is h =
    let some : Some e ≡ Some exc = sym (ap raised_in is) ∙ h in
    let same : exc ≡ e = cc in ap Raised same

-- its top invocation has it
pub answer_state : (table : List Class) (p : Own) (r : RunContext) (a : Answer) →
    IsRunOf table p r → top_answer p.node.stack ≡ Some a → r.top.state ≡ Answered a
answer_state table p r a run has =
    answered_in r.top.state a (sym (ap top_answer run.stack) ∙ has)

-- its values are those of that answer
pub answered_values : (stack : List Invocation) (a : Answer) → top_answer stack ≡ Some a →
    top_answered stack ≡ answer_values a
answered_values [] a e = cc
answered_values (top ∷ below) a e = ap (λ s. top_answered (record top { state = s } ∷ below))
    (answered_in top.state a e)

-- what a call gave takes so much room to use
pub enough_used : (stack : List Invocation) (v : Value) (outs : List Value) (names : ℕ)
    (needs : Needs) → top_answer stack ≡ Some (Given v outs) →
    names ≡ sizes_of (top_answered stack) →
    needs ≡ record { objects = 0; invocations = 0; names = names; entries = 0; waiting = 0 } →
    IsEnough (plan_needs (Uses v outs)) needs
enough_used stack v outs names needs has counted e =
    let values = ap sizes_of (answered_values stack (Given v outs) has) in
    let same = ap (λ (n : Needs). n.names) e in
    record {
      objects = omega arith;
      invocations = omega arith;
      names = omega (arith, counted, values, same);
      entries = omega arith;
      waiting = omega arith;
    }

-- a node with an answer has a run
pub answered_run : (table : List Class) (p : Own) (a : Answer) →
    top_answer p.node.stack ≡ Some a → (r : RunContext) × IsRunOf table p r
answered_run table p a e = go p.node.stack refl e
  where
    go : (stack : List Invocation) → p.node.stack ≡ stack → top_answer stack ≡ Some a →
        (r : RunContext) × IsRunOf table p r
    go [] e h = cc
    go (top ∷ below) e h = (over table p top below, record { context = refl; stack = e })

-- ---- once it was taken

-- the top invocation runs
taken_runs : (stack : List Invocation) (a : Answer) → top_answer stack ≡ Some a →
    IsRunning (with_top answer_taken stack)
taken_runs [] a e = cc
taken_runs (top ∷ below) a e = ap state_taken (answered_in top.state a e)

-- the node can do what it could, where nothing is left of the state then
taken_can : (n : Node) (plan : Plan) → IsOver plan → CanDo n plan → CanDo (taken n) plan
taken_can n (Goes into value pc) o h = tt
taken_can n (Uses value outs) o h = tt
taken_can n (Delivers (deliveries.Shows line)) o h = tt
taken_can n (Delivers (deliveries.Answers a)) o h = tt
taken_can n (Delivers (deliveries.Replies peer number packet)) o h =
    record { open_end = h.open_end; names = h.names; tokens = h.tokens }
taken_can n (Delivers (deliveries.Raises peer number e)) o h =
    record { open_end = h.open_end; names = h.names; tokens = h.tokens }
taken_can n (Delivers deliveries.Drops) o h = tt
taken_can n (Makes class slots into pc) o h = absurd o
taken_can n (Vends root pc) o h = absurd o
taken_can n (Says value pc) o h = absurd o
taken_can n (Asks peer request into outs pc) o h = absurd o
taken_can n (Begins i into outs pc) o h = absurd o
taken_can n (Tells peer m into pc) o h = absurd o

module _ (core : Core) (part : Owned) (is : IsTaken core.part part) where
  -- the site with that part
  abbrev pub core_taken : Core
  core_taken = record core { part = part }

  -- it has the place that was made
  pub place_taken : (needs : Needs) (told : Told) → HasPlace needs core told →
      HasPlace needs core_taken told
  place_taken needs told place =
      let heap = ap (λ (p : Own). length p.node.heap) is.own in
      let held = ap (λ (p : Own). length p.node.held) is.own in
      let asked = ap (λ (p : Own). length p.node.asked) is.own in
      let room = place.room.part in
      let ro = room.objects in
      let ri = room.invocations in
      let rn = room.names in
      let re = room.entries in
      let io = is.objects in
      let ii = is.invocations in
      let im = is.names in
      let ie = is.entries in
      let pf = place.freed in
      let pl = place.left in
      let ps = place.settled in
      let pw = place.waiting in
      record {
        room = record {
          part = record {
            objects = omega (arith, ro, io);
            invocations = omega (arith, ri, ii);
            names = omega (arith, rn, im);
            entries = omega (arith, re, ie);
          };
          waiting = place.room.waiting;
        };
        freed = omega (arith, pf, heap);
        left = omega (arith, pl, held);
        settled = omega (arith, ps, asked);
        waiting = omega (arith, pw, heap, held, asked);
      }

  -- a plan that uses the answer can be carried out
  pub can_use : (needs : Needs) (told : Told) (plan : Plan) (a : Answer) → IsOver plan →
      top_answer core.part.own.node.stack ≡ Some a → IsTidy core.part.own →
      AreStored core.part.own.node (values_of (plan_values plan)) →
      CanDo core.part.own.node plan → IsEnough (plan_needs plan) needs →
      HasPlace needs core told → CanCarryOut plan core_taken
  can_use needs told plan a o has tidy values can enough place = record {
    tidy = subst IsTidy (sym is.own)
        (tidy_alone core.part.own (taken core.part.own.node) tidy refl refl refl);
    runs = subst (λ (p : Own). IsRunning p.node.stack) (sym is.own)
        (taken_runs core.part.own.node.stack a has);
    values = subst (λ (p : Own). AreStored p.node (values_of (plan_values plan))) (sym is.own)
        values;
    can = subst (λ (p : Own). CanDo p.node plan) (sym is.own)
        (taken_can core.part.own.node plan o can);
    room = enough_room (plan_needs plan) needs core_taken enough
        (place_taken needs told place).room;
  }

  -- what it does then it does to the site that had the answer
  pub used_moves : (table : List Class) (old new : Core) (plan : Plan) → IsOver plan →
      doing core ≡ doing old →
      ((r : RunContext) → IsRun part.own.node r → Moves core_taken new (plan_effect r plan)) →
      (r : RunContext) → IsRunOf table old.part.own r → Moves old new (plan_effect r plan)
  used_moves table old new plan o same done r run =
      let p = core.part.own in
      let now : IsRunOf table p r
      = subst (λ (d : Doing). IsRunOf table d.own r) (sym same) run in
      let late = later table p r.top r.below in
      let ran : IsRun part.own.node late = record {
        node = ap (λ (q : Own). q.node) (sym is.own);
        stack = ap (λ (q : Own). q.node.stack) is.own ∙ ap (with_top answer_taken) now.stack;
      } in
      let did : doing new ≡ moved (doing core) (site_move p (plan_effect r plan))
      = done late ran
      ∙ ap (λ (q : Own). moved (doing core) (site_move q (plan_effect late plan))) is.own
      ∙ ap (λ e. moved (doing core) (site_move p e)) (used_alike table p r now plan o) in
      same_moves (doing old) (doing core) (doing new) (plan_effect r plan) same did
