-- What a node that takes an item sends and shows tells of selectors alone, where the item does.
use Rattle.do_base.specs.declared.events.shown.Shown.TheVariants as shown
use Rattle.do_behave.specs.declared.invocation.Reason.TheVariants as reasons
use Rattle.do_machine.specs.declared.item.Item.TheVariants as items
use Rattle.std.proofs.Common.{ℕ, not, List}
use Rattle.std.specs.{Prelude.{Err, Ok, Result, is_some}, List.list_any}
use Rattle.do_base.specs.declared.{events.exception.Exc.Exc, values.value.Value.Value}
use Rattle.do_base.specs.names.Names.{TokenName}
use Rattle.do_behave.specs.declared.invocation.Reason.{Reason}
use Rattle.do_class.specs.declared.{ids.MethodId.MethodId, packet.Name.{Name, TheVariants.Lent}}
use Rattle.do_class.specs.declared.packet.Packet.{Packet}
use Rattle.do_machine.specs.declared.{item.{Item.Item, Message.Message}, node.Node.Node}
use Rattle.do_machine.specs.{declared.{node.Wanted.Wanted, state.Effect.Effect}, Context.Context}
use Rattle.do_machine.specs.{Effect.{each, only, queueing, showing}, Items.exported}
use Rattle.do_machine.specs.{Objects.object_at, State.{is_open, stored}}
use Rattle.do_machine.specs.ends.Closing.{asked_of, closing, parted, serials_of}
use Rattle.do_machine.specs.lend.Asking.{asking, granting, same_wanted, settling, wanted}
use Rattle.do_machine.specs.lend.{Asking.{with_wanted, without_wanted}, Lending.with_settled}
use Rattle.do_machine.specs.{run.Fresh.with_objects, take.Lines.item_line}
use Rattle.do_machine.specs.take.Receipt.{arrived, received, receiving, receiving_name}
use Rattle.do_machine.specs.take.Requests.{admission, refusing, request}
use Rattle.do_machine.specs.take.Take.{arrival, holding, method_call, root_call, root_packet}
use Rattle.do_machine.specs.take.Take.{take_effect, values_arrival}
use Rattle.do_facts.proofs.{Chains.either, walk.Takes.admitted}
use Rattle.do_plain.proofs.Effects.{ItemSelects, Selects, TookSelects, alone, each_selects, queues}
use Rattle.do_plain.proofs.Effects.{shows, then_selects}

-- ---- asks and ends

-- a lend that is over
settles : (w : Wanted) (n : Node) → Selects (settling w n)
settles w n =
    either Selects (not (is_open n w.token.lender)) (only n) _ (λ _. alone n)
    (λ _. queues w.token.lender (items.Settled w.token.number) n tt)

-- an object that is asked for
asks : (w : Wanted) (n : Node) → Selects (asking w n)
asks w n =
    either Selects (not (is_open n w.object.node)) (settling w n) _ (λ _. settles w n)
    (λ _. either Selects (list_any (same_wanted w) n.asked) (only n) _ (λ _. alone n)
    (λ _. queues w.object.node (items.Ask w.object.serial w.token) (with_wanted w n) tt))

-- an ask that is answered
grants : (peer serial : ℕ) (token : TokenName) (n : Node) → Selects (granting peer serial token n)
grants peer serial token n =
    either Selects (is_some (stored serial n.heap))
    (queueing peer (items.Granted serial token) n) (queueing peer (items.Gone serial token) n)
    (λ _. queues peer (items.Granted serial token) n tt)
    (λ _. queues peer (items.Gone serial token) n tt)

-- an end that is closed
pub closes : (peer : ℕ) (n : Node) → Selects (closing peer n)
closes peer n =
    then_selects (queueing peer (items.End (serials_of peer n.held)) (parted peer n))
    (each settling (asked_of peer n))
    (queues peer (items.End (serials_of peer n.held)) (parted peer n) tt)
    (λ m. each_selects settling settles (asked_of peer n) m)

-- ---- messages

module _ (c : Context) (from : ℕ) where
  -- a name that is received
  names : (name : Name) (n : Node) → Selects (receiving_name from name n)
  names (Lent o class token) n = asks (wanted o from token) n
  names _ n = alone n

  -- a message, and what its values come to
  receives : (packet : Packet) (next : List Value → Node → Effect) →
      ((n : Node) → Selects (next (arrived c from packet).values n)) → (n : Node) →
      Selects (received c from packet next n)
  receives packet next k n =
      then_selects (receiving c from packet n) (next (arrived c from packet).values)
      (each_selects (receiving_name from) names packet.names
      (with_objects (arrived c from packet).copies n)) k

  -- a refusal
  refuses : (e : Exc) (reason : Reason) (n : Node) → Selects (refusing e reason n)
  refuses e (reasons.Call peer number) n = queues peer (items.Raised number e) n tt
  refuses e _ n = shows (shown.Raise e) n tt

  -- an admission or a refusal
  admits : (reason : Reason) (m : Message) (vs : List Value) (n : Node)
      (r : Result MethodId Exc) → Selects (admitted c reason m vs n r)
  admits reason m vs n (Err e) = refuses e reason n
  admits reason m vs n (Ok method) = alone _

  -- what an item comes to
  arrives : (item : Item) (n : Node) → Selects (arrival c from item n)
  arrives (items.Call number m) n =
      let reason = reasons.Call from number in
      receives m.packet (request c from reason m)
      (λ k. admits reason m (arrived c from m.packet).values k
      (admission c from m (arrived c from m.packet).values)) n
  arrives (items.Oneway m) n =
      let reason = reasons.Oneway from in
      receives m.packet (request c from reason m)
      (λ k. admits reason m (arrived c from m.packet).values k
      (admission c from m (arrived c from m.packet).values)) n
  arrives (items.Reply number packet) n =
      receives packet (values_arrival c (method_call from number)) (λ k. alone _) n
  arrives (items.Raised number e) n = alone _
  arrives (items.RootAsk number) n =
      queues from (items.RootAnswer number (root_packet c from)) n tt
  arrives (items.RootAnswer number packet) n =
      receives packet (values_arrival c (root_call from number)) (λ k. alone _) n
  arrives (items.Ask serial token) n = grants from serial token n
  arrives (items.Granted serial token) n =
      let w = wanted (object_at from serial) token.lender token.number in
      settles w (without_wanted w n)
  arrives (items.Gone serial token) n =
      let w = wanted (object_at from serial) token.lender token.number in
      settles w (without_wanted w n)
  arrives (items.Left serial) n = alone n
  arrives (items.Settled number) n = alone (with_settled from number n)
  arrives (items.End serials) n = closes from n

  -- an item is shown as what it is
  lines : (to : ℕ) (item : Item) → ItemSelects item → TookSelects (item_line from to item)
  lines to (items.Call number m) h = h
  lines to (items.Oneway m) h = h
  lines to (items.Reply number packet) h = tt
  lines to (items.Raised number e) h = tt
  lines to (items.RootAsk number) h = tt
  lines to (items.RootAnswer number packet) h = tt
  lines to (items.Ask serial token) h = tt
  lines to (items.Granted serial token) h = tt
  lines to (items.Gone serial token) h = tt
  lines to (items.Left serial) h = tt
  lines to (items.Settled number) h = tt
  lines to (items.End serials) h = tt

  -- a take
  pub take_selects : (item : Item) → ItemSelects item → Selects (take_effect c from item)
  take_selects item h =
      then_selects (showing (shown.Took (item_line from c.node.port item)) c.node)
      (λ n. arrival c from item (holding (exported from c.node.port item) n))
      (shows (shown.Took (item_line from c.node.port item)) c.node (lines c.node.port item h))
      (λ n. arrives item (holding (exported from c.node.port item) n))
