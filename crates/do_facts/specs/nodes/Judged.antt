-- What the rules decide of a node, by which moves of it may be made.
use Rattle.do_base.specs.declared.events.shown.Shown.TheVariants as shows
use Rattle.do_behave.specs.declared.invocation.Reason.TheVariants as reasons
use Rattle.do_class.specs.declared.packet.Name.TheVariants as names
use Rattle.do_machine.specs.declared.item.Item.TheVariants as items
use Rattle.do_machine.specs.declared.verdict.Request.TheVariants as requests
use Rattle.do_machine.specs.declared.verdict.Verdict.TheVariants as verdicts
use Rattle.do_facts.specs.nodes.Cause as cause
use Rattle.std.specs.Prelude.{Bool, List, None, Option, Some, [], false, is_some, length, true, ℕ}
use Rattle.std.specs.Prelude.{◌&&◌, ◌++◌, ◌+◌, ◌∷◌, ◌≡◌}
use Rattle.do_base.specs.declared.events.exception.Exc.{Exc, TheVariants.{Deep, NotUnderstood}}
use Rattle.do_base.specs.declared.events.exception.Exc.TheVariants.{NotVended, TooLarge, TypeFault}
use Rattle.do_base.specs.declared.{events.shown.Shown.Shown, values.value.Value.Value}
use Rattle.do_behave.specs.declared.invocation.Answer.{Answer, TheVariants.{Given, Raised}}
use Rattle.do_behave.specs.declared.invocation.{Invocation.Invocation, Reason.Reason, Waited.Waited}
use Rattle.do_class.specs.{Class.Class, declared.{ids.MethodId.MethodId, packet.Name.Name}}
use Rattle.do_class.specs.declared.packet.Packet.{Packet}
use Rattle.do_packet.specs.declared.receipt.Made.{Made}
use Rattle.do_machine.specs.declared.{item.{Item.Item, Message.Message}, node.Node.Node}
use Rattle.do_machine.specs.declared.verdict.Verdict.{Verdict}
use Rattle.do_sig.specs.Calls.{args_fit, inputs_fit}
use Rattle.do_base.specs.names.Names.{ObjectName}
use Rattle.do_machine.specs.{declared.verdict.SendAct.SendAct, Context.{Context, Found, RunContext}}
use Rattle.do_machine.specs.{Context.{Surroundings, method_for, own_class}, run.Send.inputs}
use Rattle.do_machine.specs.{Lists.IsIn, Packing.packed_for, Start.is_busy, State.is_known}
use Rattle.do_machine.specs.{State.{is_open, is_own, own, stored}, run.Answers.answer_line}
use Rattle.do_machine.specs.run.{Answers.answer_placed, Fresh.{fresh, with_serials}, Run.Acting}
use Rattle.do_machine.specs.{run.Run.state_rule, take.Awaiting.{AnsweredCall, values_answer}}
use Rattle.do_machine.specs.take.{Receipt.arrived, Take.{method_call, root_call, root_packet}}
use Rattle.do_behave.specs.declared.act.Act.TheVariants.{Raise}
use Rattle.do_facts.specs.nodes.{Cause.Cause, Moves.Top}

-- What stayed of a node since one of its rules was judged, while it named objects and others named
-- it some: all but what it lends, holds and asks for, and it may have made objects
pub record Since (before n : Node) : Type 0 where
  pub new : List Made
  pub port : n.port ≡ before.port
  pub root : n.root ≡ before.root
  pub stack : n.stack ≡ before.stack
  pub ends : n.open_to ≡ before.open_to
  pub call : n.next_call ≡ before.next_call
  pub late : n.late ≡ before.late
  pub heap : n.heap ≡ before.heap ++ with_serials before.next_serial new
  pub serial : n.next_serial ≡ before.next_serial + length new

-- the exceptions by which a message is refused
abbrev pub is_denial : Exc → Bool
is_denial NotVended = true
is_denial NotUnderstood = true
is_denial TypeFault = true
is_denial Deep = true
is_denial _ = false

-- what a verdict on an invocation gives back, if it ends it
abbrev pub gives : Verdict → Invocation → Option Answer
gives (verdicts.Returns v outs) i = Some (Given v outs)
gives (verdicts.Fails e) i = elim i.handler [ None ↦ Some (Raised e) | Some h ↦ None ]
gives _ i = None

-- the exception that a peer gets in the place of an answer
abbrev pub raised_of : Answer → Exc
raised_of (Given v outs) = TooLarge
raised_of (Raised e) = e

-- what is shown of an answer that nobody waits for
abbrev pub ending : Reason → Answer → List Shown
ending reasons.Start a = answer_line a ∷ []
ending (reasons.Oneway peer) (Raised e) = shows.Raise e ∷ []
ending _ a = []

-- nobody waits for the answer of an invocation that was begun so: a peer's end is closed
abbrev pub IsUnheard : Node → Reason → Type 0
IsUnheard n reasons.Start = Unit {0}
IsUnheard n reasons.Local = ⊥
IsUnheard n (reasons.Oneway peer) = Unit {0}
IsUnheard n (reasons.Call peer number) = is_open n peer ≡ false

-- the node may name an object of another node
abbrev pub MayName : Node → Name → Type 0
MayName n (names.Mine serial class) = is_some (stored serial n.heap) ≡ true
MayName n (names.Yours serial) = Unit {0}
MayName n (names.Lent o class token) =
    ((is_known n o && is_open n o.node) ≡ true) × (token ≡ n.next_token)

-- what the moves of one effect are judged by: the table, the behaviour, what the node knows of the
-- rest, the node as the effect begins, and what the effect comes of
pub record Judge : Type 0 where
  pub table : List Class
  pub act : Acting
  pub sees : Surroundings
  pub first : Node
  pub cause : Cause

-- how the node is seen as the effect begins
abbrev pub context_of : Judge → Context
context_of j = record { table = j.table; around = j.sees; node = j.first }

-- what a run is judged by
abbrev pub run_of : Judge → Top → RunContext
run_of j t = record { context = context_of j; top = t.top; below = t.below }

module _ (j : Judge) where
  -- this verdict was given on the top invocation
  pub record Judged (v : Verdict) (t : Top) (n : Node) : Type 0 where
    pub since : Since j.first n
    pub stack : j.first.stack ≡ t.top ∷ t.below
    pub rule : state_rule j.act (run_of j t) t.top.state ≡ Some v

  -- the top invocation ends with this answer
  pub record Delivered (a : Answer) (t : Top) (n : Node) : Type 0 where
    pub verdict : Verdict
    pub judged : Judged verdict t n
    pub answer : gives verdict t.top ≡ Some a

  -- an invocation of an own object begins, by the method that its class has for a selector, with
  -- the arguments of a send that fit
  pub record IsBegun (o : ObjectName) (method : MethodId) (values : List Value) : Type 0 where
    pub found : Found
    pub send : SendAct
    pub own : is_own j.first o ≡ true
    pub method_found : method_for j.table (own_class j.first o.serial) send.selector ≡ Some found
    pub fits : inputs_fit found.signature send.args ≡ true
    pub method_is : method ≡ found.id
    pub values_are : values ≡ inputs found.signature send

  -- the top invocation sends this message to a peer
  pub data IsSaid (to : ℕ) (m : Message) (n : Node) : Type 0 where
    -- it waits
    Asked : (t : Top) → (method : MethodId) → (into : ℕ) → (outs : List ℕ) → (pc : ℕ) →
        Judged (verdicts.Asks to (requests.Call method m) into outs pc) t n → IsSaid to m n
    -- it goes on
    Told : (t : Top) → (into : ℕ) → (pc : ℕ) → Judged (verdicts.Tells to m into pc) t n →
        IsSaid to m n

  -- the node packed this for a peer
  pub data IsPacked (to : ℕ) (packet : Packet) : Type 0 where
    -- in a message to an object of the peer
    InMessage : (m : Message) → IsSaid to m j.first → packet ≡ m.packet → IsPacked to packet
    -- in the answer of an invocation
    InAnswer : (t : Top) → (v : Value) → (outs : List Value) →
        Delivered (Given v outs) t j.first →
        packed_for (context_of j) to (answer_placed (run_of j t) v outs) ≡ Some packet →
        IsPacked to packet
    -- as its root
    AsRoot : packet ≡ root_packet (context_of j) to → IsPacked to packet

  -- this name is of such a message
  pub record IsNamed (to : ℕ) (name : Name) (n : Node) : Type 0 where
    pub packet : Packet
    pub since : Since j.first n
    pub packed : IsPacked to packet
    pub among : IsIn packet.names name
    pub able : MayName n name

  -- the values of a message as the node reads it
  abbrev pub read : ℕ → Packet → List Value
  read from packet = (arrived (context_of j) from packet).values

  -- A message is admitted: its sender has an entry of the target, whose class has the method, and
  -- the values fit. It begins this invocation
  pub record IsAdmitted (from : ℕ) (m : Message) (reason : Reason) (i : Invocation) (n : Node) :
      Type 0 where
    pub found : Found
    pub since : Since j.first n
    pub entry : j.sees.entry from m.target ≡ true
    pub method : method_for j.table (own_class j.first m.target) m.selector ≡ Some found
    pub fits : args_fit found.signature (read from m.packet) ≡ true
    pub begins : i ≡ fresh (own j.first m.target) found.id reason (read from m.packet)

  -- an invocation is started: the node is idle, its root has the method, and the values fit
  pub record IsStarted (i : Invocation) (n : Node) : Type 0 where
    pub found : Found
    pub root : ℕ
    pub selector : List ℕ
    pub values : List Value
    pub cause : j.cause ≡ cause.Start selector values
    pub since : Since j.first n
    pub idle : is_busy j.first ≡ false
    pub method : method_for j.table (own_class j.first root) selector ≡ Some found
    pub fits : args_fit found.signature values ≡ true
    pub begins : i ≡ fresh (own j.first root) found.id reasons.Start values

  -- an item answers a call so
  abbrev pub IsAnswer : AnsweredCall → Item → (Waited → Answer) → Type 0
  IsAnswer k (items.Reply number packet) answer =
      (k ≡ method_call k.peer number)
      × (answer ≡ values_answer j.table (read k.peer packet))
  IsAnswer k (items.RootAnswer number packet) answer =
      (k ≡ root_call k.peer number) × (answer ≡ values_answer j.table (read k.peer packet))
  IsAnswer k (items.Raised number e) answer =
      (k ≡ method_call k.peer number) × (answer ≡ (λ what. Raised e))
  IsAnswer k _ answer = ⊥
