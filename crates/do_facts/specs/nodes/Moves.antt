-- The moves of a node: what each does, and with what.
use Rattle.std.specs.Prelude.{Bool, List, Option, ℕ}
use Rattle.do_base.specs.names.Names.{CallName, ObjectName, TokenName}
use Rattle.do_base.specs.declared.events.{exception.Exc.Exc, shown.Shown.Shown}
use Rattle.do_base.specs.declared.values.value.Value.{Value}
use Rattle.do_behave.specs.declared.{act.Write.Write, invocation.{Answer.Answer, Handler.Handler}}
use Rattle.do_behave.specs.declared.invocation.{Invocation.Invocation, Waited.Waited}
use Rattle.do_class.specs.declared.{ids.{ClassId.ClassId, MethodId.MethodId}, packet.Packet.Packet}
use Rattle.do_packet.specs.declared.receipt.Made.{Made}
use Rattle.do_machine.specs.declared.{item.{Item.Item, Message.Message}, node.Stored.Stored}
use Rattle.do_machine.specs.{declared.node.Wanted.Wanted, take.Awaiting.AnsweredCall}

-- the invocation on top of a stack, and those below it
pub record Top : Type 0 where
  pub top : Invocation
  pub below : List Invocation

-- what is written to the object of a serial
pub record Wrote : Type 0 where
  pub serial : ℕ
  pub writes : List Write

-- a move of a node; where a lend is over, the last argument says whether the lender is told
pub data Move : Type 0 where
  -- ---- the top invocation
  -- it goes on with a value in a local
  Goes : (t : Top) → (into : ℕ) → (value : Value) → (pc : ℕ) → Move
  -- it goes on with an answer
  Uses : (t : Top) → (result : Value) → (outs : List Value) → Move
  -- it goes on with other locals and another handler, and slots of its object are written
  Steps : (t : Top) → (pc : ℕ) → (locals : List Value) → (handler : Option Handler) →
      (writes : List Write) → Move
  -- an object is made, and it goes on with its name
  Makes : (t : Top) → (made : Made) → (into : ℕ) → (pc : ℕ) → Move
  -- an own object or none becomes the root
  Vends : (t : Top) → (root : Option ℕ) → (pc : ℕ) → Move
  -- a value is shown
  Says : (t : Top) → (value : Value) → (pc : ℕ) → Move
  -- it begins another, and waits for it
  Begins : (t : Top) → (o : ObjectName) → (method : MethodId) → (values : List Value) →
      (into : ℕ) → (outs : List ℕ) → (pc : ℕ) → Move
  -- it asks a peer for its root, and waits for it
  AsksRoot : (t : Top) → (to : ℕ) → (into : ℕ) → (outs : List ℕ) → (pc : ℕ) → Move
  -- it calls a peer, and waits for the answer
  Calls : (t : Top) → (to : ℕ) → (method : MethodId) → (m : Message) → (into : ℕ) →
      (outs : List ℕ) → (pc : ℕ) → Move
  -- it tells a peer a message that nobody waits for
  Tells : (t : Top) → (to : ℕ) → (m : Message) → (into : ℕ) → (pc : ℕ) → Move
  -- an exception goes to its handler
  Catches : (t : Top) → (e : Exc) → (h : Handler) → Move
  -- it ends, and nobody waits for its answer; this is shown
  Finishes : (t : Top) → (a : Answer) → (shown : List Shown) → Move
  -- it ends, and answers the one below it
  Answers : (t : Top) → (a : Answer) → Move
  -- it ends, and answers the call of a peer
  Replies : (t : Top) → (to : ℕ) → (number : ℕ) → (v : Value) → (outs : List Value) →
      (packet : Packet) → Move
  -- it ends, and the call of a peer comes to an exception
  Raises : (t : Top) → (to : ℕ) → (number : ℕ) → (e : Exc) → Move
  -- ---- a message is posted
  -- it is for an object of the peer
  Speaks : (to : ℕ) → (serial : ℕ) → Move
  -- it is packed
  Packs : (to : ℕ) → (packet : Packet) → Move
  -- an own object is named
  Names : (to : ℕ) → (serial : ℕ) → (class : ClassId) → Move
  -- an object of the peer is named to it
  Mentions : (to : ℕ) → (serial : ℕ) → Move
  -- a third node's object is named, under the next token
  Lends : (to : ℕ) → (o : ObjectName) → (class : ClassId) → Move
  -- ---- starts, time-outs and closes
  -- an invocation is started
  Starts : (i : Invocation) → Move
  -- the top invocation waits no longer for its call, which is late from then on
  TimesOut : (t : Top) → (call : CallName) → (peer : ℕ) → (what : Waited) → Move
  -- the end towards a peer is closed
  Closes : (peer : ℕ) → Move
  -- an ask of which the end towards the home is closed is over
  GivesUp : (w : Wanted) → (told : Bool) → Move
  -- ---- an item is taken
  -- it is taken up, and shown
  Takes : (from : ℕ) → (item : Item) → (shown : Shown) → Move
  -- a message is for an own object
  Hears : (from : ℕ) → (serial : ℕ) → Move
  -- it is unpacked, and its copies become objects
  Unpacks : (from : ℕ) → (packet : Packet) → (copies : List Made) → Move
  -- an object of the sender is held
  Holds : (from : ℕ) → (serial : ℕ) → (class : ClassId) → Move
  -- an own object is named
  IsNamed : (from : ℕ) → (serial : ℕ) → Move
  -- an object that is lent is asked for
  Asks : (from : ℕ) → (o : ObjectName) → (class : ClassId) → (token : ℕ) → Move
  -- it was asked for already
  AsksOnce : (from : ℕ) → (o : ObjectName) → (class : ClassId) → (token : ℕ) → Move
  -- it can't be asked for, so the lend is over
  Returns : (from : ℕ) → (o : ObjectName) → (class : ClassId) → (token : ℕ) → Move
  -- a call begins an invocation
  Serves : (from : ℕ) → (number : ℕ) → (m : Message) → (i : Invocation) → Move
  -- a oneway message begins an invocation
  Obeys : (from : ℕ) → (m : Message) → (i : Invocation) → Move
  -- a call is refused
  Refuses : (from : ℕ) → (number : ℕ) → (m : Message) → (e : Exc) → Move
  -- a oneway message is refused
  Ignores : (from : ℕ) → (m : Message) → (e : Exc) → Move
  -- an answer goes to the invocation that waits for it, or ends a late call
  Receives : (k : AnsweredCall) → (item : Item) → (answer : Waited → Answer) → Move
  -- the root is given
  Gives : (from : ℕ) → (number : ℕ) → (packet : Packet) → Move
  -- an ask is granted
  Grants : (from : ℕ) → (serial : ℕ) → (token : TokenName) → Move
  -- an ask is refused
  Lacks : (from : ℕ) → (serial : ℕ) → (token : TokenName) → Move
  -- an object that was asked for is held
  Gains : (from : ℕ) → (serial : ℕ) → (token : TokenName) → (told : Bool) → Move
  -- an object that was asked for is no more
  Misses : (from : ℕ) → (serial : ℕ) → (token : TokenName) → (told : Bool) → Move
  -- an own object was left
  Frees : (from : ℕ) → (serial : ℕ) → Move
  -- a lend is over
  Settles : (from : ℕ) → (number : ℕ) → Move
  -- the peer closed its end
  Parts : (from : ℕ) → (serials : List ℕ) → Move
  -- ---- what follows a step
  -- objects are freed and shown, and these are left
  Strikes : (heap : List Stored) → (shown : List Shown) → Move
  -- an object that is held is left
  Leaves : (o : ObjectName) → Move
