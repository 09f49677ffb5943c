-- What plans do is what their verdicts do.
use Rattle.std.proofs.Common.{◌≡◌, List, ap, sym, ◌∙◌}
use Rattle.do_behave.specs.declared.{act.Act.Act, invocation.{Answer.Answer, Invocation.Invocation}}
use Rattle.do_machine.specs.{Context.{Context, RunContext}, run.{Acts.act_rule, Delivery.delivery}}
use Rattle.do_machine.specs.run.Run.{Acting, next_act}
use Rattle.do_rules.specs.{Delivery.{DeliveriesAreMade, delivered, delivery_of}, Judged.turn_in}

-- the run of an invocation in a context, over others
abbrev pub over : Context → Invocation → List Invocation → RunContext
over c top below = record { context = c; top = top; below = below }

module _ (r : RunContext) (c : Context) (top : Invocation) (context : r.context ≡ c)
    (acts : r.top ≡ top) where
  -- a run is that of its invocation over the others
  pub same_run : r ≡ over c top r.below
  same_run = λ j. record { context = context j; top = acts j; below = r.below }

  -- no rule of an act looks below
  pub same_rule : (act : Act) → act_rule (turn_in c top) act ≡ act_rule r act
  same_rule act = sym (ap (λ (s : RunContext). act_rule s act) same_run)

  -- nor does the next act
  pub same_act : (act : Acting) → next_act act (turn_in c top) ≡ next_act act r
  same_act act = sym (ap (λ (s : RunContext). next_act act s) same_run)

  -- nor where an answer goes
  pub same_delivery : (a : Answer) →
      delivery_of (turn_in c top) a top.reason ≡ delivery_of r a r.top.reason
  same_delivery a = sym (ap (λ (s : RunContext). delivery_of s a s.top.reason) same_run)

  -- the delivery of an answer is what becomes of it
  pub delivered_is : DeliveriesAreMade → (a : Answer) →
      delivered r (delivery_of (turn_in c top) a top.reason) ≡ delivery r a r.top.reason
  delivered_is made a = ap (delivered r) (same_delivery a) ∙ made r a r.top.reason
