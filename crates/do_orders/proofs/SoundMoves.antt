-- Moves that pass on what their node holds, and where they stand as they were.
use Rattle.std.proofs.Common.{◌≡◌, ◌==◌, ℕ, Bool, true, false, List, [], ◌∷◌, refl, ap, ◌∙◌, arith}
use Rattle.std.specs.{Prelude.{None, Some, option_map}, List.find}
use Rattle.do_base.specs.names.Names.{ObjectName}
use Rattle.do_machine.specs.{Commit.commit, State.{is_open, node, queue}, declared.node.Node.Node}
use Rattle.do_machine.specs.declared.state.{Effect.Effect, State.State, Station.Station}
use Rattle.do_facts.specs.laws.Follows.{Grows}
use Rattle.do_facts.proofs.machine.passing.{Linked.commit_leaves, Lookups.none_goes, Passes.Passes}
use Rattle.do_facts.proofs.{machine.passing.Takes.comes, steps.OthersStay.commit_leaves_others}
use Rattle.do_orders.specs.Moves.{Move, Source, Stands, taken_off, without_first}
use Rattle.do_orders.specs.Moves.Source.{First, Still, There}
use Rattle.do_orders.proofs.{Moving.{off_is, stands_behind, stands_off}, Stations.at_port}

-- an object comes with what is taken off
abbrev pub came : ℕ → ObjectName → Source → Bool
came port o (First from item) = comes port o from item
came port o _ = false

-- the end is open towards the peer whose item is taken off
abbrev pub IsOver : Node → Source → Type 0
IsOver n Still = Unit {0}
IsOver n (There from) = Unit {0}
IsOver n (First from item) = is_open n from ≡ true

-- A move of a node that holds what it held and what came, or gives it back
pub record IsSound (k : Move) (n : Node) : Type 0 where
  pub over : IsOver n k.source
  pub grows : Grows n k.effect.node
  pub passes : (o : ObjectName) → Passes k.port o n (came k.port o k.source) k.effect
  pub leaves : (o : ObjectName) → Passes k.port o k.effect.node false k.leaves

-- A move in a state: its node is there with its queues, and what it takes
pub record StandsIn (k : Move) (n : Node) (S : State) : Type 0 where
  pub here : node S k.port ≡ Some n
  pub there : Stands k.port k.source S
  pub linked : (peer : ℕ) → queue S k.port peer ≡ None → is_open n peer ≡ false

-- no node changes where an item is taken off
nodes_off : (from to port : ℕ) (ss : List Station) →
    option_map (λ s. s.node) (find (λ s. port == s.port) (at_port from (without_first to) ss))
    ≡ option_map (λ s. s.node) (find (λ s. port == s.port) ss)
nodes_off from to port [] = refl
nodes_off from to port (s ∷ ss) = grind (arith, nodes_off from to port ss)

-- nor whatever is taken off
pub node_off : (p : ℕ) (a : Source) (S : State) (port : ℕ) →
    node (taken_off p a S) port ≡ node S port
node_off p (First from item) S port = nodes_off from p port S.stations
node_off p _ S port = refl

-- no queue goes
pub queue_off : (p : ℕ) (a : Source) (S : State) → Stands p a S → (from to : ℕ) →
    queue (taken_off p a S) from to ≡ None → queue S from to ≡ None
queue_off p (First peer item) S h from to q =
    none_goes peer p h.0 S from to
    (ap (λ T. queue T from to) (off_is p peer (item ∷ h.0) S h.1) ∙ q)
queue_off p _ S h from to q = q

module _ (k : Move) (n : Node) (p : ℕ) (apart : (k.port == p) ≡ false) (S : State)
    (at : StandsIn k n S) where
  -- a move stands where another node took off
  pub at_off : (a : Source) → Stands p a S → StandsIn k n (taken_off p a S)
  at_off a own = record {
    here = node_off p a S k.port ∙ at.here;
    there = stands_off k.port p k.source a S apart own at.there;
    linked = λ peer q. at.linked peer (queue_off p a S own k.port peer q);
  }

  -- and behind an effect of another node
  pub at_effect : (e : Effect) → StandsIn k n (commit p e S)
  at_effect e = record {
    here = commit_leaves_others p k.port e S apart ∙ at.here;
    there = stands_behind k.port p k.source e S at.there;
    linked = λ peer q. at.linked peer (commit_leaves p e S k.port peer q);
  }
