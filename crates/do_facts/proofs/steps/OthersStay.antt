-- A step changes no node but its own, and no class that was given.
use Rattle.do_machine.specs.declared.item.Item.TheVariants as items
use Rattle.std.proofs.Common.{◌≡◌, ◌==◌, ℕ, false, List, [], ◌∷◌, refl, sym, ap, ◌∙◌, arith, subst}
use Rattle.std.specs.{Prelude.{Some, option_and_then, option_map}, List.{find, insert}}
use Rattle.do_base.specs.declared.events.event.Event.{Event, TheVariants.{Close, Run, Start}}
use Rattle.do_base.specs.declared.events.event.Event.TheVariants.{Timeout, Check, Lose, Take}
use Rattle.do_base.specs.names.Names.{ObjectName}
use Rattle.do_class.specs.{declared.ids.ClassId.ClassId, Class.Class}
use Rattle.do_machine.specs.{run.Run.Acting, declared.{item.Item.Item, node.Node.Node}}
use Rattle.do_machine.specs.declared.state.{Effect.Effect, State.State, Station.Station}
use Rattle.do_machine.specs.{declared.state.Stepped.Stepped, Commit.{commit, moved}, Context.around}
use Rattle.do_machine.specs.{Lists.change_first, State.{change, class_given, class_of, node}}
use Rattle.do_machine.specs.{State.with_queue, held.Leaving.leaving}
use Rattle.do_facts.{specs.laws.Entries.IsNoStepOf, proofs.machine.ClassesStay.stays}
use Rattle.do_facts.proofs.machine.{Frame.elsewhere, follows.States.{changed, requeued}}
use Rattle.do_facts.specs.steps.IsStep.{Acts, Checks, IsActOf, IsStep, Loses, Skips, Takes}
use Rattle.do_facts.proofs.machine.follows.{Moves.Moves, Steps.by_form}

-- numbers that are equal to one number and not to the other
differ : (other actor port : ℕ) → actor ≡ port → (other == actor) ≡ false →
    (other == port) ≡ false
differ other actor port e h = ap (λ p. other == p) (sym e) ∙ h

-- a port is not that of the node that acts, where the event is no step of it
pub apart_act : (event : Event) (port other : ℕ) → IsActOf port event → IsNoStepOf other event →
    (other == port) ≡ false
apart_act (Start actor selector values) port other e h = differ other actor port e h
apart_act (Run actor) port other e h = differ other actor port e h
apart_act (Close actor peer) port other e h = differ other actor port e h
apart_act (Timeout actor) port other e h = differ other actor port e h
apart_act _ port other e h = absurd e

-- an event by which another node acts is no step of a node
pub no_act : (event : Event) (port other : ℕ) → IsActOf port event → (other == port) ≡ false →
    IsNoStepOf other event
no_act (Take actor from) port other own h = absurd own
no_act (Lose from to after) port other own h = absurd own
no_act Check port other own h = absurd own
no_act _ port other own h = ap (λ p. other == p) own ∙ h

-- ---- nodes

-- an effect leaves other nodes as they are
pub commit_leaves_others : (port other : ℕ) (e : Effect) (S : State) → (other == port) ≡ false →
    node (commit port e S) other ≡ node S other
commit_leaves_others port other e S h =
    ap (λ found. option_map (λ s. s.node) found) (elsewhere port other e S.stations h)

-- so does a move
pub move_leaves_others : (port other : ℕ) (e : Effect) (S : State) → (other == port) ≡ false →
    node (moved port S e).state other ≡ node S other
move_leaves_others port other e S h =
    let U = commit port e S in
    commit_leaves_others port other (leaving (around U e.node).entry e.node) U h
    ∙ commit_leaves_others port other e S h

-- and the node that moves is that which left what it does without
pub move_leaves_own : (port : ℕ) (n : Node) (e : Effect) (S : State) → node S port ≡ Some n →
    node (moved port S e).state port
    ≡ Some (leaving (around (commit port e S) e.node).entry e.node).node
move_leaves_own port n e S here =
    let U = commit port e S in
    changed port (leaving (around U e.node).entry e.node) e.node U.stations
    (changed port e n S.stations here)

-- a node that the event is no step of stays
pub node_stays : {table : List Class} {act : Acting} (S : State)
    (event : Event) (s : Stepped) → IsStep table act S event s → (other : ℕ) →
    IsNoStepOf other event → node s.state other ≡ node S other
node_stays S event s (Skips e) other h = ap (λ x. node x.state other) e
node_stays S event s (Acts port n d own here rule e) other h =
    ap (λ x. node x.state other) e
    ∙ move_leaves_others port other d S (apart_act event port other own h)
node_stays S event s (Takes port from n item rest d is here rule waits e) other h =
    ap (λ x. node x.state other) e
    ∙ move_leaves_others port other d (change from (with_queue port rest) S)
    (subst (IsNoStepOf other) is h)
    ∙ requeued from port other rest S.stations
node_stays S event s (Loses from to k waiting is waits few e) other h =
    ap (λ x. node x.state other) e
    ∙ requeued from to other (insert waiting k (items.End [])) S.stations
node_stays S event s (Checks is e) other h = ap (λ x. node x.state other) e

-- ---- classes

-- other items in a queue change no class
pub class_requeued : (from to : ℕ) (items : List Item) (o : ObjectName) (ss : List Station) →
    option_and_then (λ s. class_given s.classes o.serial)
    (find (λ s. o.node == s.port)
    (change_first (λ s. from == s.port) (with_queue to items) ss))
    ≡ option_and_then (λ s. class_given s.classes o.serial) (find (λ s. o.node == s.port) ss)
class_requeued from to items o [] = refl
class_requeued from to items o (s ∷ ss) = grind (arith, class_requeued from to items o ss)

module _ (o : ObjectName) (class : ClassId) where
  -- the class was given
  abbrev IsGiven : State → Type 0
  IsGiven S = class_of S o ≡ Some class

  -- each move keeps the class
  class_moves : Moves (λ n m. Unit {0}) (λ S T. IsGiven S → IsGiven T)
  class_moves = record {
    same = λ S h. h;
    after = λ S T U a b h. b (a h);
    commits = λ port e S n here g. stays port e o class S.stations;
    requeues = λ from to items S h. class_requeued from to items o S.stations ∙ h;
  }

  -- a class that was given stays
  pub class_stays : {table : List Class} {act : Acting} (S : State)
      (event : Event) (s : Stepped) → IsStep table act S event s →
      class_of S o ≡ Some class → class_of s.state o ≡ Some class
  class_stays {table} {act} S =
      by_form (λ n m. Unit {0}) (λ S T. IsGiven S → IsGiven T) class_moves (λ n m f. tt) table
      act S (λ n m g. tt)
