-- What is to be shown of moves, so that every step of the machine is moves.
use Rattle.do_machine.specs.declared.item.Item.TheVariants as items
use Rattle.std.proofs.Common.{◌≡◌, ℕ, Bool, true, false, List, []}
use Rattle.do_base.specs.declared.values.value.Value.{Value}
use Rattle.do_class.specs.Class.{Class}
use Rattle.do_machine.specs.{declared.{item.Item.Item, node.Node.Node}, Context.Context}
use Rattle.do_machine.specs.{Start.start_effect, State.is_open, ends.Closing.closing}
use Rattle.do_machine.specs.{ends.TimeOut.time_out, held.Leaving.leaving}
use Rattle.do_machine.specs.{run.Run.{Acting, run_effect}, take.Take.take_effect}
use Rattle.do_facts.specs.{Net.{atoms_of, noted}, Moves.Rules, View.{AreMoves, AreMovesIf, View}}

-- Each rule of a step is moves of its node, where the node is as it should be: moves keep it so,
-- open no end, and post over open ends alone
pub record Bridge {P A V : Type 0} (view : View P A) (rules : Rules P A V) (Ok : P → Type 0) :
    Type 0 where
  pub opens : (n : Node) (peer : ℕ) → rules.opens (view.part n) peer ≡ is_open n peer
  pub loss : view.atoms (items.End []) ≡ rules.loss
  pub stays : (p : P) (v : V) → Ok p → rules.may p v → Ok (rules.after p v)
  pub closed : (p : P) (v : V) (peer : ℕ) → rules.may p v → rules.opens p peer ≡ false →
      (rules.opens (rules.after p v) peer ≡ false) × (atoms_of peer (rules.posts p v) ≡ [])
  pub start : (table : List Class) (selector : List ℕ) (values : List Value) (n : Node) →
      Ok (view.part n) → AreMovesIf view rules n (start_effect table selector values n)
  pub run : (act : Acting) (c : Context) → Ok (view.part c.node) →
      AreMovesIf view rules c.node (run_effect act c)
  pub gives_up : (n : Node) → Ok (view.part n) → AreMovesIf view rules n (time_out n)
  pub take : (c : Context) (from : ℕ) (item : Item) → is_open c.node from ≡ true →
      Ok (view.part c.node) →
      AreMoves view rules c.node (noted from (view.atoms item)) (take_effect c from item)
  pub close : (n : Node) (peer : ℕ) → is_open n peer ≡ true → Ok (view.part n) →
      AreMoves view rules n [] (closing peer n)
  pub leave : (entry : ℕ → ℕ → Bool) (n : Node) → Ok (view.part n) →
      AreMoves view rules n [] (leaving entry n)
