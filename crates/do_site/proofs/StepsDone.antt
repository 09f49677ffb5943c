-- What is done one thing after another is a move of the site.
use Rattle.do_behave.specs.declared.act.Act.TheVariants as acts
use Rattle.std.proofs.Common.{◌≡◌, List, [], ◌∷◌, ◌++◌, None, Some, refl, ap, sym, ◌∙◌}
use Rattle.std.proofs.{Common.append_assoc, lemmas.List.append-nil}
use Rattle.do_base.specs.declared.events.shown.Shown.{Shown}
use Rattle.do_behave.specs.{InPlace.after_act, declared.act.Act.Act}
use Rattle.do_behave.specs.declared.invocation.{Invocation.Invocation, InvState.InvState}
use Rattle.do_behave.specs.declared.invocation.InvState.TheVariants.{Answered, Below, Running}
use Rattle.do_behave.specs.declared.invocation.InvState.TheVariants.{Waits}
use Rattle.do_machine.specs.{declared.{node.Node.Node, state.Effect.Effect}, Context.RunContext}
use Rattle.do_machine.specs.{Effect.only, ends.TimeOut.{give_up, time_out, time_out_on}}
use Rattle.do_machine.specs.run.{Acts.act_rule, Verdicts.effect_of}
use Rattle.do_network.specs.Site.{Move, site_move}
use Rattle.do_part.specs.Changed.{act_done}
use Rattle.do_effects.proofs.{MovesOfSteps.step_moves, TidyCounts.node_alone}
use Rattle.do_effects.specs.{Doing.{Doing, cleared, does, moved}, Tidy.IsTidy}

-- an effect and then what is left are the site's move
pub then_left : (d b c : Doing) (e : Effect) → b ≡ does d e → c ≡ moved b (cleared b.own) →
    c ≡ moved d (site_move d.own e)
then_left d b c e did left =
    left ∙ ap (λ (x : Doing). moved x (cleared x.own)) did ∙ step_moves d e

-- a node that keeps its ends, and what it holds and asks for, does this alone
pub alone_does : (d : Doing) (n : Node) → IsTidy d.own → n.open_to ≡ d.own.node.open_to →
    n.held ≡ d.own.node.held → n.asked ≡ d.own.node.asked →
    record d { own = record d.own { node = n } } ≡ does d (only n)
alone_does d n tidy ends held asked = λ j. record {
  own = (sym (node_alone d.own n [] tidy ends held asked)) j;
  out = d.out;
  shown = (sym (append-nil d.shown)) j;
}

-- so does one that shows something first
pub shown_does : (d : Doing) (n : Node) (s : Shown) → IsTidy d.own →
    n.open_to ≡ d.own.node.open_to → n.held ≡ d.own.node.held → n.asked ≡ d.own.node.asked →
    record d { own = record d.own { node = n }; shown = d.shown ++ s ∷ [] }
    ≡ does d (record { node = n; sent = []; shown = s ∷ [] })
shown_does d n s tidy ends held asked = λ j. record {
  own = (sym (node_alone d.own n (s ∷ []) tidy ends held asked)) j;
  out = d.out;
  shown = d.shown ++ s ∷ [];
}

-- a line and then a move are one move that shows the line first
pub shown_first : (d : Doing) (s : Shown) (m : Move) →
    moved (record d { shown = d.shown ++ s ∷ [] }) m ≡ moved d (record m { shown = s ∷ m.shown })
shown_first d s m = λ j. record {
  own = m.own;
  out = (moved d m).out;
  shown = (append_assoc d.shown (s ∷ []) m.shown) j;
}

-- ---- a call that is given up

-- what a node keeps of another
pub record Keeps (n m : Node) : Type 0 where
  pub ends : m.open_to ≡ n.open_to
  pub held : m.held ≡ n.held
  pub asked : m.asked ≡ n.asked
  pub heap : m.heap ≡ n.heap
  pub port : m.port ≡ n.port

-- a node that another is keeps what that does
same_keeps : (n m l : Node) → Keeps n l → Some (only l) ≡ Some (only m) → Keeps n m
same_keeps n m l k e =
    let same : only l ≡ only m = some_is e in
    record {
      ends = sym (ap (λ (x : Effect). x.node.open_to) same) ∙ k.ends;
      held = sym (ap (λ (x : Effect). x.node.held) same) ∙ k.held;
      asked = sym (ap (λ (x : Effect). x.node.asked) same) ∙ k.asked;
      heap = sym (ap (λ (x : Effect). x.node.heap) same) ∙ k.heap;
      port = sym (ap (λ (x : Effect). x.node.port) same) ∙ k.port;
    }
  where
    some_is : {X : Type 0} {x y : X} → Some x ≡ Some y → x ≡ y
    some_is e = cc

-- a call that is given up changes so little, whatever the state is
given_up_keeps : (n m : Node) (s : InvState) (i : Invocation) (below : List Invocation) →
    give_up s i below n ≡ Some (only m) → Keeps n m
given_up_keeps n m Running i below e = cc
given_up_keeps n m Below i below e = cc
given_up_keeps n m (Answered a) i below e = cc
given_up_keeps n m (Waits call peer what) i below e =
    same_keeps n m _
    (record { ends = refl; held = refl; asked = refl; heap = refl; port = refl }) e

-- so does the call of the top invocation, if there is one
given_up_on : (n m : Node) (stack : List Invocation) → time_out_on stack n ≡ Some (only m) →
    Keeps n m
given_up_on n m [] e = cc
given_up_on n m (i ∷ below) e = given_up_keeps n m i.state i below e

-- a call that is given up changes the stack and the late calls alone
pub time_out_keeps : (n m : Node) → time_out n ≡ Some (only m) → Keeps n m
time_out_keeps n m e = given_up_on n m n.stack e

-- ---- acts that are steps

module _ (r : RunContext) where
  -- an act of which nothing is left was a step
  pub step_done : (act : Act) → (after_act act r.top []).left ≡ None →
      effect_of r (act_rule r act) ≡ only (act_done act r.top r.below r.context.node)
  step_done (acts.Step pc locals handler writes) e = refl
  step_done (acts.New class into pc) e = cc
  step_done (acts.Send target selector args into from pc) e = cc
  step_done (acts.Root port into pc) e = cc
  step_done (acts.Vend value pc) e = cc
  step_done (acts.Say value pc) e = cc
  step_done (acts.Return value) e = cc
  step_done (acts.Raise exc) e = cc

  -- a step keeps all but the stack and the heap
  pub step_keeps : (act : Act) →
      ((act_done act r.top r.below r.context.node).open_to ≡ r.context.node.open_to)
      × ((act_done act r.top r.below r.context.node).held ≡ r.context.node.held)
      × ((act_done act r.top r.below r.context.node).asked ≡ r.context.node.asked)
  step_keeps (acts.Step pc locals handler writes) = (refl, refl, refl)
  step_keeps (acts.New class into pc) = (refl, refl, refl)
  step_keeps (acts.Send target selector args into from pc) = (refl, refl, refl)
  step_keeps (acts.Root port into pc) = (refl, refl, refl)
  step_keeps (acts.Vend value pc) = (refl, refl, refl)
  step_keeps (acts.Say value pc) = (refl, refl, refl)
  step_keeps (acts.Return value) = (refl, refl, refl)
  step_keeps (acts.Raise exc) = (refl, refl, refl)
