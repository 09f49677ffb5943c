-- What a take, a start, an end and a time-out show: the item that is taken, and of a oneway message
-- that is refused an exception.
use Rattle.do_base.specs.declared.events.shown.Shown.TheVariants as shown
use Rattle.do_behave.specs.declared.invocation.Reason.TheVariants as reasons
use Rattle.do_machine.specs.declared.item.Item.TheVariants as items
use Rattle.std.proofs.Common.{Err, List, Ok, [], not, refl, true, ℕ, ◌∷◌, ◌≡◌}
use Rattle.std.specs.{List.{AllByRecursion, list_any}, Prelude.{Result, is_some}}
use Rattle.do_base.specs.declared.events.exception.Exc.{Exc, TheVariants.{Deep, NotUnderstood}}
use Rattle.do_base.specs.declared.events.exception.Exc.TheVariants.{NotVended, TypeFault}
use Rattle.do_base.specs.declared.{events.shown.Shown.Shown, values.value.Value.Value}
use Rattle.do_base.specs.names.Names.{TokenName}
use Rattle.do_sig.specs.Calls.{args_fit}
use Rattle.do_class.specs.{Class.Class, declared.{ids.MethodId.MethodId, packet.Name.Name}}
use Rattle.do_class.specs.declared.packet.{Name.TheVariants.Lent, Packet.Packet}
use Rattle.do_behave.specs.declared.invocation.Reason.{Reason}
use Rattle.do_machine.specs.Context.{Context, method_for, own_class}
use Rattle.do_machine.specs.{Effect.{each, only, queueing}, Items.exported, Objects.object_at}
use Rattle.do_machine.specs.{Start.start_effect, State.{is_open, stored}, declared.item.Item.Item}
use Rattle.do_machine.specs.declared.{item.Message.Message, node.{Node.Node, Wanted.Wanted}}
use Rattle.do_machine.specs.{declared.state.Effect.Effect, ends.Closing.{asked_of, closing, parted}}
use Rattle.do_machine.specs.{ends.TimeOut.time_out, lend.Asking.{asking, granting, same_wanted}}
use Rattle.do_machine.specs.lend.Asking.{settling, wanted, without_wanted}
use Rattle.do_machine.specs.{run.Fresh.{is_full, with_objects}, take.Lines.item_line}
use Rattle.do_machine.specs.take.Receipt.{arrived, received, receiving, receiving_name}
use Rattle.do_machine.specs.take.{Requests.{admission, refusing, request}, Take.{arrival, holding}}
use Rattle.do_machine.specs.take.Take.{method_call, root_call, take_effect, values_arrival}
use Rattle.do_facts.proofs.{Chains.{either, found_or}, EachOfLists.each_joined}
use Rattle.do_facts.proofs.{RulesOfActs.is_raised, walk.Possible.{IfAny, by_begins, by_giving_up}}
use Rattle.do_facts.proofs.walk.Takes.{admitted}

module _ (P : Shown → Type 0) (raises : (e : Exc) → is_raised e ≡ true → P (shown.Raise e)) where
  -- each thing that an effect shows is such
  abbrev pub Shows : Effect → Type 0
  Shows e = AllByRecursion P e.shown

  -- effects for each element of a list
  several : {X : Type 0} (f : X → Node → Effect) → ((x : X) (n : Node) → Shows (f x n)) →
      (xs : List X) (n : Node) → Shows (each f xs n)
  several f h [] n = tt
  several f h (x ∷ xs) n =
      let m = (f x n).node in
      each_joined P (f x n).shown (each f xs m).shown (h x n) (several f h xs m)

  -- a lend that is over
  settles : (w : Wanted) (n : Node) → Shows (settling w n)
  settles w n = either Shows (not (is_open n w.token.lender)) (only n) _ (λ _. tt) (λ _. tt)

  -- an object that is asked for
  asks : (w : Wanted) (n : Node) → Shows (asking w n)
  asks w n =
      either Shows (not (is_open n w.object.node)) (settling w n) _ (λ _. settles w n)
      (λ _. either Shows (list_any (same_wanted w) n.asked) (only n) _ (λ _. tt) (λ _. tt))

  -- an ask that is answered
  grants : (peer serial : ℕ) (token : TokenName) (n : Node) → Shows (granting peer serial token n)
  grants peer serial token n =
      either Shows (is_some (stored serial n.heap)) (queueing peer (items.Granted serial token) n)
      (queueing peer (items.Gone serial token) n) (λ _. tt) (λ _. tt)

  -- an end that closes
  pub end_shows : (peer : ℕ) (n : Node) → Shows (closing peer n)
  end_shows peer n = several settling settles (asked_of peer n) (parted peer n)

  -- a start
  pub start_shows : (table : List Class) (selector : List ℕ) (values : List Value) (n : Node) →
      IfAny Shows (start_effect table selector values n)
  start_shows table selector values n = by_begins Shows table selector values n (λ i. tt)

  -- a time-out
  pub time_out_shows : (n : Node) → IfAny Shows (time_out n)
  time_out_shows n = by_giving_up Shows n (λ call peer what i below. tt)

  module _ (c : Context) (from : ℕ) where
    -- a name that is received
    named : (x : Name) (n : Node) → Shows (receiving_name from x n)
    named (Lent o class token) n = asks (wanted o from token) n
    named _ n = tt

    -- a message, and what its values come to
    receives : (packet : Packet) (next : List Value → Node → Effect) →
        ((n : Node) → Shows (next (arrived c from packet).values n)) → (n : Node) →
        Shows (received c from packet next n)
    receives packet next h n =
        let first = receiving c from packet n in
        each_joined P first.shown (next (arrived c from packet).values first.node).shown
        (several (receiving_name from) named packet.names
        (with_objects (arrived c from packet).copies n)) (h first.node)

    -- a message is refused by an exception of the rules
    abbrev Refused : Result MethodId Exc → Type 0
    Refused (Err e) = is_raised e ≡ true
    Refused (Ok method) = Unit {0}

    -- so it is with each
    refused : (m : Message) (vs : List Value) → Refused (admission c from m vs)
    refused m vs =
        either Refused (not (c.around.entry from m.target)) (Err NotVended) _ (λ _. refl)
        (λ _. found_or Refused (method_for c.table (own_class c.node m.target) m.selector)
        (Err NotUnderstood) _ refl
        (λ f _. either Refused (not (args_fit f.signature vs)) (Err TypeFault) _ (λ _. refl)
        (λ _. either Refused (is_full c.node) (Err Deep) (Ok f.id) (λ _. refl) (λ _. tt))))

    -- a refusal
    refuses : (e : Exc) → is_raised e ≡ true → (reason : Reason) (n : Node) →
        Shows (refusing e reason n)
    refuses e h (reasons.Call peer number) n = tt
    refuses e h reasons.Start n = (raises e h, tt)
    refuses e h reasons.Local n = (raises e h, tt)
    refuses e h (reasons.Oneway peer) n = (raises e h, tt)

    -- an admission or a refusal
    admits : (reason : Reason) (m : Message) (vs : List Value) (n : Node)
        (r : Result MethodId Exc) → Refused r → Shows (admitted c reason m vs n r)
    admits reason m vs n (Err e) h = refuses e h reason n
    admits reason m vs n (Ok method) h = tt

    -- a request
    requests : (reason : Reason) (m : Message) (n : Node) →
        Shows (received c from m.packet (request c from reason m) n)
    requests reason m =
        let vs = (arrived c from m.packet).values in
        receives m.packet (request c from reason m)
        (λ k. admits reason m vs k (admission c from m vs) (refused m vs))

    -- what an item comes to
    arrives : (item : Item) (n : Node) → Shows (arrival c from item n)
    arrives (items.Call number m) n = requests (reasons.Call from number) m n
    arrives (items.Oneway m) n = requests (reasons.Oneway from) m n
    arrives (items.Reply number packet) n =
        receives packet (values_arrival c (method_call from number)) (λ k. tt) n
    arrives (items.Raised number e) n = tt
    arrives (items.RootAsk number) n = tt
    arrives (items.RootAnswer number packet) n =
        receives packet (values_arrival c (root_call from number)) (λ k. tt) n
    arrives (items.Ask serial token) n = grants from serial token n
    arrives (items.Granted serial token) n =
        let w = wanted (object_at from serial) token.lender token.number in
        settles w (without_wanted w n)
    arrives (items.Gone serial token) n =
        let w = wanted (object_at from serial) token.lender token.number in
        settles w (without_wanted w n)
    arrives (items.Left serial) n = tt
    arrives (items.Settled number) n = tt
    arrives (items.End serials) n = end_shows from n

    -- a take
    pub take_shows : (item : Item) → P (shown.Took (item_line from c.node.port item)) →
        Shows (take_effect c from item)
    take_shows item h = (h, arrives item (holding (exported from c.node.port item) c.node))
