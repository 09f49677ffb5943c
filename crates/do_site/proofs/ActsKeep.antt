-- What a step of the top invocation keeps of its node.
use Rattle.do_behave.specs.declared.act.Act.TheVariants as acts
use Rattle.std.proofs.Common.{◌≡◌, Bool, false, true, cond, List, [], ◌∷◌, length, refl, ap, suc}
use Rattle.std.specs.Prelude.{◌==◌}
use Rattle.do_behave.specs.{Changes.meaning, declared.{act.Act.Act, change.Change.Change}}
use Rattle.do_behave.specs.declared.invocation.Invocation.{Invocation}
use Rattle.do_machine.specs.{declared.node.{Node.Node, Stored.Stored}, Lists.change_first}
use Rattle.do_machine.specs.run.Changes.{with_writes}
use Rattle.do_part.specs.Changed.{act_done, changed, changed_on}

-- a node keeps the ends, the port, and what another holds and asks for, and as many objects
pub record ActKeeps (n m : Node) : Type 0 where
  pub ends : m.open_to ≡ n.open_to
  pub port : m.port ≡ n.port
  pub held : m.held ≡ n.held
  pub asked : m.asked ≡ n.asked
  pub count : length m.heap ≡ length n.heap

-- where the first that passes is changed there are as many
changed_count : {X : Type 0} (p : X → Bool) (f : X → X) (xs : List X) →
    length (change_first p f xs) ≡ length xs
changed_count p f [] = refl
changed_count p f (x ∷ xs) =
    elim (p x) as (λ b. length (cond b (f x ∷ xs) (x ∷ change_first p f xs)) ≡ suc (length xs)) [
      | true ↦ refl
      | false ↦ ap suc (changed_count p f xs)
    ]

-- a node keeps so much of itself
same_act : (n : Node) → ActKeeps n n
same_act n = record { ends = refl; port = refl; held = refl; asked = refl; count = refl }

-- an act keeps so much
act_keeps : (act : Act) (top : Invocation) (below : List Invocation) (n : Node) →
    ActKeeps n (act_done act top below n)
act_keeps (acts.Step pc locals handler writes) top below n = record {
  ends = refl;
  port = refl;
  held = refl;
  asked = refl;
  count = changed_count (λ (x : Stored). x.serial == top.object.serial) (with_writes writes) n.heap;
}
act_keeps (acts.New class into pc) top below n = same_act n
act_keeps (acts.Send target selector args into from pc) top below n = same_act n
act_keeps (acts.Root port into pc) top below n = same_act n
act_keeps (acts.Vend value pc) top below n = same_act n
act_keeps (acts.Say value pc) top below n = same_act n
act_keeps (acts.Return value) top below n = same_act n
act_keeps (acts.Raise exc) top below n = same_act n

-- so does a change of the top invocation, if there is one
on_stack : (change : Change) (stack : List Invocation) (n : Node) →
    ActKeeps n (changed_on change stack n)
on_stack change [] n = same_act n
on_stack change (top ∷ below) n = act_keeps (meaning top change) top below n

-- so does a node whose top invocation is changed
pub change_keeps : (change : Change) (n : Node) → ActKeeps n (changed change n)
change_keeps change n = on_stack change n.stack n
