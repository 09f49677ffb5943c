-- What a take keeps and sends, whatever the item.
use Rattle.do_base.specs.declared.events.shown.Shown.TheVariants as shown
use Rattle.do_behave.specs.declared.invocation.Reason.TheVariants as reasons
use Rattle.do_machine.specs.declared.item.Item.TheVariants as items
use Rattle.std.proofs.Common.{◌≡◌, ℕ, true, not, List, refl}
use Rattle.std.specs.Prelude.{Err, None, Ok, Option, Result, Some, false, is_some}
use Rattle.do_base.specs.declared.events.exception.Exc.{Exc, TheVariants.{Deep, NotUnderstood}}
use Rattle.do_base.specs.declared.events.exception.Exc.TheVariants.{NotVended, TypeFault}
use Rattle.do_base.specs.{declared.values.value.Value.Value, names.Names.{ObjectName, TokenName}}
use Rattle.do_class.specs.declared.{ids.{ClassId.ClassId, MethodId.MethodId}, packet.Name.Name}
use Rattle.do_class.specs.declared.packet.{Name.TheVariants.Lent, Packet.Packet}
use Rattle.do_sig.specs.Calls.{args_fit}
use Rattle.do_behave.specs.declared.invocation.{Answer.TheVariants.Raised, Reason.Reason}
use Rattle.do_machine.specs.declared.{item.{Item.Item, Message.Message}, node.Node.Node}
use Rattle.do_machine.specs.{declared.state.Effect.Effect, Context.{Context, Found, method_for}}
use Rattle.do_machine.specs.{Context.own_class, Effect.only, Items.exported, Objects.object_at}
use Rattle.do_machine.specs.{Lists.IsIn, State.{is_open, own, stored}}
use Rattle.do_machine.specs.{ends.Closing.{parted, serials_of}, lend.Asking.{wanted, with_wanted}}
use Rattle.do_machine.specs.{lend.Lending.with_settled, run.Fresh.{fresh, is_full, pushed}}
use Rattle.do_machine.specs.{run.Fresh.with_objects, take.Awaiting.{AnsweredCall, answering}}
use Rattle.do_machine.specs.take.{Awaiting.values_answer, Receipt.{arrived, received, receiving}}
use Rattle.do_machine.specs.take.{Receipt.receiving_name, Requests.{refusing, request}}
use Rattle.do_machine.specs.take.Take.{arrival, holding, method_call, root_call, root_packet}
use Rattle.do_machine.specs.take.Take.{take_effect, values_arrival}
use Rattle.do_facts.proofs.{Chains.{either, found_or, not_closed}, RulesOfActs.is_raised}
use Rattle.do_facts.proofs.walk.Done.{Done, alone, each_within, queues, shows, then_done}
use Rattle.do_facts.proofs.walk.SmallEffects.{Small, by_ask_over, by_asking, by_closing}
use Rattle.do_facts.proofs.walk.SmallEffects.{by_granting}

-- what an admission or a refusal does
abbrev pub admitted : Context → Reason → Message → List Value → Node → Result MethodId Exc → Effect
admitted c reason m vs n r = elim r [
  | Err e ↦ refusing e reason n
  | Ok method ↦ only (pushed (fresh (own c.node m.target) method reason vs) n)
]

-- the message of an item
abbrev pub packet_in : Item → Option Packet
packet_in (items.Call number m) = Some m.packet
packet_in (items.Oneway m) = Some m.packet
packet_in (items.Reply number packet) = Some packet
packet_in (items.RootAnswer number packet) = Some packet
packet_in _ = None

-- What is to hold of nodes and items, so that it does of a take, once the node holds what the item
-- exports: of each change that follows
pub record Takes (G : Node → Type 0) (E : ℕ → Item → Type 0) (c : Context) (from : ℕ)
    (item : Item) : Type 0 where
  pub small : Small G E
  pub asks : (packet : Packet) → packet_in item ≡ Some packet → (o : ObjectName)
      (class : ClassId) (token : ℕ) → IsIn packet.names (Lent o class token) → (n : Node) →
      is_open n o.node ≡ true → G n → G (with_wanted (wanted o from token) n)
      × E o.node (items.Ask o.serial (wanted o from token).token)
  pub grants : (serial : ℕ) (token : TokenName) → item ≡ items.Ask serial token → (n : Node) →
      is_some (stored serial n.heap) ≡ true → G n → E from (items.Granted serial token)
  pub lacks : (serial : ℕ) (token : TokenName) → item ≡ items.Ask serial token → (n : Node) →
      is_some (stored serial n.heap) ≡ false → G n → E from (items.Gone serial token)
  pub makes : (packet : Packet) → packet_in item ≡ Some packet → (n : Node) → G n →
      G (with_objects (arrived c from packet).copies n)
  pub begins : (reason : Reason) (m : Message) (f : Found) → packet_in item ≡ Some m.packet →
      method_for c.table (own_class c.node m.target) m.selector ≡ Some f →
      args_fit f.signature (arrived c from m.packet).values ≡ true → (n : Node) → G n →
      G (pushed (fresh (own c.node m.target) f.id reason (arrived c from m.packet).values) n)
  pub refuses : (number : ℕ) (e : Exc) → is_raised e ≡ true → E from (items.Raised number e)
  pub answers : (k : AnsweredCall) (packet : Packet) → packet_in item ≡ Some packet →
      (n : Node) → G n →
      G (answering k (values_answer c.table (arrived c from packet).values) n).node
  pub fails : (k : AnsweredCall) (number : ℕ) (e : Exc) → item ≡ items.Raised number e →
      (n : Node) → G n → G (answering k (λ what. Raised e) n).node
  pub gives : (number : ℕ) → E from (items.RootAnswer number (root_packet c from))
  pub settles : (number : ℕ) (n : Node) → G n → G (with_settled from number n)
  pub parts : (serials : List ℕ) → item ≡ items.End serials → (n : Node) → G n →
      G (parted from n) × E from (items.End (serials_of from n.held))

module _ {G : Node → Type 0} {E : ℕ → Item → Type 0} (c : Context) (from : ℕ) where
  module _ (item : Item) (may : Takes G E c from item) where
    -- a name that is received
    by_name : (packet : Packet) → packet_in item ≡ Some packet → (name : Name) →
        IsIn packet.names name → (n : Node) → G n → Done G E (receiving_name from name n)
    by_name packet is (Lent o class token) among n h =
        by_asking may.small (wanted o from token) n
        (λ ends. may.asks packet is o class token among n ends h) h
    by_name packet is _ among n h = alone n h

    -- a message that is received
    pub by_receiving : (packet : Packet) → packet_in item ≡ Some packet → (n : Node) → G n →
        Done G E (receiving c from packet n)
    by_receiving packet is n h =
        each_within (receiving_name from) packet.names (by_name packet is)
        (with_objects (arrived c from packet).copies n) (may.makes packet is n h)

    -- a message that is received, and what its values come to
    by_received : (packet : Packet) → packet_in item ≡ Some packet →
        (next : List Value → Node → Effect) →
        ((n : Node) → G n → Done G E (next (arrived c from packet).values n)) →
        (n : Node) → G n → Done G E (received c from packet next n)
    by_received packet is next k n h =
        then_done (receiving c from packet n) (next (arrived c from packet).values)
        (by_receiving packet is n h) k

    module _ (reason : Reason) (m : Message) (is : packet_in item ≡ Some m.packet)
        (refuse : (e : Exc) → is_raised e ≡ true → (n : Node) → G n →
        Done G E (refusing e reason n)) (n : Node) (h : G n) where
      -- what comes of an admission or a refusal
      abbrev Decided : Result MethodId Exc → Type 0
      Decided r = Done G E (admitted c reason m (arrived c from m.packet).values n r)

      -- a request
      by_request : Done G E (request c from reason m (arrived c from m.packet).values n)
      by_request =
          let values = (arrived c from m.packet).values in
          either Decided (not (c.around.entry from m.target)) (Err NotVended) _
          (λ _. refuse NotVended refl n h)
          (λ _. found_or Decided (method_for c.table (own_class c.node m.target) m.selector)
          (Err NotUnderstood) _ (refuse NotUnderstood refl n h)
          (λ f found. either Decided (not (args_fit f.signature values)) (Err TypeFault) _
          (λ _. refuse TypeFault refl n h)
          (λ fit. either Decided (is_full c.node) (Err Deep) (Ok f.id)
          (λ _. refuse Deep refl n h)
          (λ _. alone _ (may.begins reason m f is found
          (not_closed (args_fit f.signature values) fit) n h)))))

  -- what an item comes to
  pub by_arrival : (item : Item) → Takes G E c from item → (n : Node) → G n →
      Done G E (arrival c from item n)
  by_arrival (items.Call number m) may =
      let reason = reasons.Call from number in
      by_received (items.Call number m) may m.packet refl (request c from reason m)
      (by_request (items.Call number m) may reason m refl
      (λ e h n k. queues from (items.Raised number e) n (may.refuses number e h) k))
  by_arrival (items.Oneway m) may =
      let reason = reasons.Oneway from in
      by_received (items.Oneway m) may m.packet refl (request c from reason m)
      (by_request (items.Oneway m) may reason m refl (λ e h n k. shows (shown.Raise e) n k))
  by_arrival (items.Reply number packet) may =
      by_received (items.Reply number packet) may packet refl
      (values_arrival c (method_call from number))
      (λ n h. alone _ (may.answers (method_call from number) packet refl n h))
  by_arrival (items.Raised number e) may =
      λ n h. alone _ (may.fails (method_call from number) number e refl n h)
  by_arrival (items.RootAsk number) may =
      λ n h. queues from (items.RootAnswer number (root_packet c from)) n (may.gives number) h
  by_arrival (items.RootAnswer number packet) may =
      by_received (items.RootAnswer number packet) may packet refl
      (values_arrival c (root_call from number))
      (λ n h. alone _ (may.answers (root_call from number) packet refl n h))
  by_arrival (items.Ask serial token) may =
      λ n h. by_granting from serial token n (λ e. may.grants serial token refl n e h)
      (λ e. may.lacks serial token refl n e h) h
  by_arrival (items.Granted serial token) may =
      by_ask_over may.small (wanted (object_at from serial) token.lender token.number)
  by_arrival (items.Gone serial token) may =
      by_ask_over may.small (wanted (object_at from serial) token.lender token.number)
  by_arrival (items.Left serial) may = alone
  by_arrival (items.Settled number) may =
      λ n h. alone (with_settled from number n) (may.settles number n h)
  by_arrival (items.End serials) may =
      λ n h. let p = may.parts serials refl n h in by_closing may.small from n p.0 p.1

  -- a take
  pub by_take : (item : Item) → Takes G E c from item →
      G (holding (exported from c.node.port item) c.node) → Done G E (take_effect c from item)
  by_take item may holds =
      let d = by_arrival item may (holding (exported from c.node.port item) c.node) holds in
      record { node = d.node; sent = d.sent }
