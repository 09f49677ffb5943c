-- What checkers keep and send, over every schedule.
use Rattle.do_machine.specs.declared.item.Item.TheVariants as items
use Rattle.std.specs.Prelude.{List, Option, Some, false, length, slice_get, ℕ, ◌++◌, ◌<◌, ◌∷◌, ◌≡◌}
use Rattle.std.specs.List.{AllByRecursion}
use Rattle.do_base.specs.{names.Names.ObjectName, values.Kinds.is_nil}
use Rattle.do_base.specs.declared.events.event.Event.TheVariants.{Run}
use Rattle.do_base.specs.declared.{events.exception.Exc.TheVariants.User, values.value.Value.Value}
use Rattle.do_base.specs.declared.values.value.Value.TheVariants.{Obj}
use Rattle.do_class.specs.{Class.Class, Table.selector_of, declared.ids.ClassId.ClassId}
use Rattle.do_behave.specs.declared.invocation.Invocation.{Invocation}
use Rattle.do_check.specs.{Acts.target_in, Rules.verdict_of, declared.rules.Rule.Rule}
use Rattle.do_check.specs.declared.rules.Verdict.TheVariants.{Forward}
use Rattle.do_class_kinds.specs.declared.kind.Kind.TheVariants.{Checker}
use Rattle.do_native.specs.{Acts.native_act, declared.native.Native.Native}
use Rattle.do_machine.specs.declared.{item.Item.Item, node.{Node.Node, Stored.Stored}}
use Rattle.do_machine.specs.{declared.state.State.State, Commit.moved, Context.context}
use Rattle.do_machine.specs.{Objects.object_at, State.{node, queue, stored}, Step.enabled_step}
use Rattle.do_machine.specs.run.{Delivery.failing, Run.slots_seen}

-- a class is one of checkers
abbrev pub IsOfCheckers : Native → ClassId → Type 0
IsOfCheckers b class = slice_get b.kinds class.0 ≡ Some Checker

-- an object whose one slot holds a target
pub record HasTarget (x : Stored) : Type 0 where
  pub target : Value
  pub slot : target_in x.slots ≡ Some target
  pub set : is_nil target ≡ false

-- the top invocation of the node of a port, of a class of checkers with these rules
pub record RunsChecker (b : Native) (rules : List Rule) (S : State) (port : ℕ) (n : Node)
    (i : Invocation) (below : List Invocation) : Type 0 where
  pub node : node S port ≡ Some n
  pub top : n.stack ≡ i ∷ below
  pub kind : IsOfCheckers b i.method.class
  pub listed : slice_get b.rules i.method.class.0 ≡ Some rules

-- a run of the node of a port, with this invocation on top, raises a text: it goes to the
-- invocation's handler, or ends it
abbrev pub RunRaises : Native → List Class → State → ℕ → Node → Invocation → List Invocation →
    List ℕ → Type 0
RunRaises b table S port n i below text =
    enabled_step table (native_act b) S (Run port)
    ≡ Some (moved port S (failing
    (record { context = context table S n; top = i; below = below }) (User text) i.handler))

-- What an invocation of a checker may send: the message that it was called with, which a rule
-- allows, to the target in its object's slot
pub record MaySend (rules : List Rule) (table : List Class) (n : Node) (i : Invocation)
    (o : ObjectName) (selector : List ℕ) : Type 0 where
  pub called : selector_of table i.method ≡ Some selector
  pub allowed : verdict_of rules selector ≡ Some Forward
  pub target : target_in (slots_seen (stored i.object.serial n.heap)) ≡ Some (Obj o)

-- an item to a peer which, if it is a message, may be sent to its object with its selector
abbrev pub IfMessage : (ObjectName → List ℕ → Type 0) → ℕ → Item → Type 0
IfMessage May peer (items.Call number m) = May (object_at peer m.target) m.selector
IfMessage May peer (items.Oneway m) = May (object_at peer m.target) m.selector
IfMessage May peer _ = Unit {0}

-- what is in a queue is what waited there, and behind it items of which each, if it is a message,
-- may be sent
pub record AddsOnly (May : ObjectName → List ℕ → Type 0) (peer : ℕ) (waiting : List Item)
    (now : Option (List Item)) : Type 0 where
  pub new : List Item
  pub behind : now ≡ Some (waiting ++ new)
  pub messages : AllByRecursion (IfMessage May peer) new

-- an invocation is of a message that may be sent
pub record IsOfMessage (May : ObjectName → List ℕ → Type 0) (table : List Class)
    (i : Invocation) : Type 0 where
  pub selector : List ℕ
  pub called : selector_of table i.method ≡ Some selector
  pub sent : May i.object selector

-- A step of the node of a port sends only what it may: to peers, whose queues it adds to, and to
-- an own object, of which it then has an invocation more
pub record SendsOnly (May : ObjectName → List ℕ → Type 0) (table : List Class) (port : ℕ)
    (S T : State) : Type 0 where
  pub queued : (peer : ℕ) (waiting : List Item) → queue S port peer ≡ Some waiting →
      AddsOnly May peer waiting (queue T port peer)
  pub begun : (n m : Node) (i : Invocation) (below : List Invocation) → node S port ≡ Some n →
      node T port ≡ Some m → m.stack ≡ i ∷ below → length n.stack < length m.stack →
      IsOfMessage May table i
