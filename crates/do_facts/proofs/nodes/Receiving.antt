-- A message that is received, and admitted or refused, is moves of the node.
use Rattle.do_behave.specs.declared.invocation.Reason.TheVariants as reasons
use Rattle.do_machine.specs.declared.item.Item.TheVariants as items
use Rattle.do_facts.specs.nodes.Moves as moves
use Rattle.std.proofs.Common.{◌≡◌, ◌++◌, ◌+◌, ℕ, true, List, [], ◌∷◌, map, refl, sym, ap, ◌∙◌, not}
use Rattle.std.specs.Prelude.{Err, Ok, Result}
use Rattle.do_base.specs.{names.Names.ObjectName, declared.events.exception.Exc.Exc}
use Rattle.do_base.specs.declared.events.exception.Exc.TheVariants.{Deep, NotUnderstood, NotVended}
use Rattle.do_base.specs.declared.events.exception.Exc.TheVariants.{TypeFault}
use Rattle.do_base.specs.declared.values.value.Value.{Value}
use Rattle.do_behave.specs.declared.invocation.Reason.{Reason}
use Rattle.do_class.specs.declared.{ids.MethodId.MethodId, packet.Packet.Packet}
use Rattle.do_machine.specs.declared.{item.{Item.Item, Message.Message}, node.Node.Node}
use Rattle.do_machine.specs.{declared.state.Effect.Effect, Effect.each}
use Rattle.do_machine.specs.{Items.{is_exported, name_naming, named_as}, State.{is_open, own}}
use Rattle.do_machine.specs.run.Fresh.{fresh, is_full, pushed, with_objects}
use Rattle.do_machine.specs.take.{Receipt.{arrived, received, receiving_name}, Requests.admission}
use Rattle.do_machine.specs.{take.Requests.{refusing, request}, Context.{method_for, own_class}}
use Rattle.do_sig.specs.Calls.{args_fit}
use Rattle.do_behave.specs.declared.invocation.Invocation.{Invocation}
use Rattle.do_machine.specs.take.Take.{holding}
use Rattle.do_facts.specs.Net.{Note, noted}
use Rattle.do_facts.proofs.{Chains.{either, found_or, not_closed}, walk.Takes.admitted}
use Rattle.do_facts.specs.nodes.Atoms.{Atom, Body, Named, Whole, packet_atoms}
use Rattle.do_packet.specs.declared.receipt.Made.{Made}
use Rattle.do_facts.specs.nodes.{Judged.{IsAdmitted, Judge, Since, context_of, is_denial}, May.may}
use Rattle.do_facts.{specs.nodes.After.note, proofs.nodes.Asking.{names_ask, names_received}}
use Rattle.do_facts.proofs.nodes.{Asking.with_holdings, Sending.since_itself, Walks.{Does, DoesTo}}
use Rattle.do_facts.proofs.nodes.Walks.{does_on, noted_behind, once, same_node, same_taken}

module _ (j : Judge) (from : ℕ) (ends : is_open j.first from ≡ true) where
  -- the node
  abbrev n : Node
  n = j.first

  -- what an item comes to is moves of the node, which take these notes
  abbrev Comes : List (Note Atom) → Effect → Type 0
  Comes taken e = DoesTo j n taken [] e

  -- so much stayed of the node, and it is open to the peer
  pub record IsThere (k : Node) : Type 0 where
    pub since : Since n k
    pub at_peer : is_open k from ≡ true

  module _ (packet : Packet) where
    -- the objects that are copied
    abbrev new : List Made
    new = (arrived (context_of j) from packet).copies

    -- the values
    abbrev pub values : List Value
    values = (arrived (context_of j) from packet).values

    -- the objects that are exported
    abbrev exports : List ObjectName
    exports = named_as is_exported (map (name_naming from n.port) packet.names)

    -- the node as the names come
    abbrev made : Node
    made = with_objects new (holding exports n)

    -- the node behind the names
    abbrev pub behind : Effect
    behind = each (receiving_name from) packet.names made

    -- so much stayed of it
    pub still_there : IsThere behind.node
    still_there =
        let same = names_ask from packet.names made in
        record {
          since = record {
            new = new;
            port = ap (λ k. k.port) same;
            root = ap (λ k. k.root) same;
            stack = ap (λ k. k.stack) same;
            ends = ap (λ k. k.open_to) same;
            call = ap (λ k. k.next_call) same;
            late = ap (λ k. k.late) same;
            heap = ap (λ k. k.heap) same;
            serial = ap (λ k. k.next_serial) same;
          };
          at_peer = ap (λ k. is_open k from) same ∙ ends;
        }

    -- a message that is received, and what its values come to
    pub by_received : (next : List Value → Node → Effect) (whole : Item) →
        (Does j behind.node (note from (Whole whole)) [] (next values behind.node).node
        (next values behind.node).sent (next values behind.node).shown) →
        let e = received (context_of j) from packet next (holding exports n) in
        Comes (noted from (packet_atoms packet ++ Whole whole ∷ [])) e
    by_received next whole last =
        let held = ap (λ k. k.held) (names_ask from packet.names made) in
        same_taken j
        (ap (λ xs. record { peer = from; atom = Body packet } ∷ xs)
        (sym (noted_behind from (map Named packet.names) (Whole whole ∷ []))))
        (does_on j
        (once j n (moves.Unpacks from packet new) (ends, since_itself n, refl, refl) [] refl)
        (does_on j
        (same_node j (ap (λ h. with_holdings h behind.node) (sym held))
        (names_received from j n.port packet.names n.held made ends))
        last))

  module _ (m : Message) (reason : Reason) (whole : Item)
      (refuses : (e : Exc) → is_denial e ≡ true → let k = (behind m.packet).node in
      let d = refusing e reason k in
      Does j k (note from (Whole whole)) [] d.node d.sent d.shown)
      (begins : (i : Invocation) → let k = (behind m.packet).node in
      IsAdmitted j from m reason i k →
      Does j k (note from (Whole whole)) [] (pushed i k) [] []) where
    -- the node once the message is received
    abbrev there : Node
    there = (behind m.packet).node

    -- what comes of an admission or a refusal
    abbrev Decided : Result MethodId Exc → Type 0
    Decided found =
        let d = admitted (context_of j) reason m (values m.packet) there found in
        Does j there (note from (Whole whole)) [] d.node d.sent d.shown

    -- a message that is admitted or refused
    by_request : Decided (admission (context_of j) from m (values m.packet))
    by_request =
        either Decided (not (j.sees.entry from m.target)) (Err NotVended) _
        (λ _. refuses NotVended refl)
        (λ entry. found_or Decided (method_for j.table (own_class n m.target) m.selector)
        (Err NotUnderstood) _ (refuses NotUnderstood refl)
        (λ f found. either Decided (not (args_fit f.signature (values m.packet))) (Err TypeFault) _
        (λ _. refuses TypeFault refl)
        (λ fit. either Decided (is_full n) (Err Deep) (Ok f.id) (λ _. refuses Deep refl)
        (λ _. begins (fresh (own n m.target) f.id reason (values m.packet)) (record {
          found = f;
          since = (still_there m.packet).since;
          entry = not_closed (j.sees.entry from m.target) entry;
          method = found;
          fits = not_closed (args_fit f.signature (values m.packet)) fit;
          begins = refl;
        })))))

  -- a call
  pub by_call : (number : ℕ) (m : Message) →
      let k = (behind m.packet).node in
      let e = request (context_of j) from (reasons.Call from number) m (values m.packet) k in
      Does j k (note from (Whole (items.Call number m))) [] e.node e.sent e.shown
  by_call number m =
      let k = (behind m.packet).node in
      let reached = (still_there m.packet).at_peer in
      by_request m (reasons.Call from number) (items.Call number m)
      (λ e denial. once j k (moves.Refuses from number m e) (reached, denial) _ refl)
      (λ i may. once j k (moves.Serves from number m i) (reached, may) [] refl)

  -- a oneway message
  pub by_oneway : (m : Message) →
      let k = (behind m.packet).node in
      let e = request (context_of j) from (reasons.Oneway from) m (values m.packet) k in
      Does j k (note from (Whole (items.Oneway m))) [] e.node e.sent e.shown
  by_oneway m =
      let k = (behind m.packet).node in
      let reached = (still_there m.packet).at_peer in
      by_request m (reasons.Oneway from) (items.Oneway m)
      (λ e denial. once j k (moves.Ignores from m e) (reached, denial) [] refl)
      (λ i may. once j k (moves.Obeys from m i) (reached, may) [] refl)
