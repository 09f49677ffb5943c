-- A take leaves a node that names only what is at hand.
use Rattle.do_behave.specs.declared.invocation.Reason.TheVariants as reasons
use Rattle.do_machine.specs.declared.item.Item.TheVariants as items
use Rattle.std.proofs.Common.{◌≡◌, ◌∙◌, ◌==◌, ◌+◌, ◌<◌, ◌++◌, ℕ, Bool, true, false, cond, List, []}
use Rattle.std.proofs.Common.{◌∷◌, inl, inr, length, map, refl, sym, ap, subst, arith}
use Rattle.std.{specs.{Prelude.{Some, is_some}, List.AllByRecursion}, proofs.lemmas.List.length-map}
use Rattle.do_base.specs.{names.Names.{ObjectName, TokenName}, declared.values.value.Value.Value}
use Rattle.do_base.specs.declared.values.value.Value.TheVariants.{Nil, Obj}
use Rattle.do_class.specs.declared.{ids.ClassId.ClassId, packet.Name.Name}
use Rattle.do_class.specs.declared.packet.{Name.TheVariants.{Lent, Mine, Yours}, Packet.Packet}
use Rattle.do_behave.specs.declared.invocation.Answer.TheVariants.{Raised}
use Rattle.do_packet.specs.{Met.{has_object, same_object}, Unpacking.{made_of, name_value}}
use Rattle.do_packet.specs.{Unpacking.name_values, declared.receipt.Receipt.Receipt}
use Rattle.do_machine.specs.declared.{item.Item.Item, node.{Node.Node, Wanted.Wanted}}
use Rattle.do_machine.specs.{Context.Context, Effect.queueing, Items.exported, Lists.IsIn}
use Rattle.do_machine.specs.{Objects.object_at, State.{has_asked, holds, is_known, is_open, own}}
use Rattle.do_machine.specs.{State.stored, lend.Asking.{wanted, without_wanted}}
use Rattle.do_machine.specs.{run.Fresh.{with_objects, with_serials}, take.Awaiting.values_answer}
use Rattle.do_machine.specs.take.Receipt.{arrived, is_entered, is_reachable, reading, receiving}
use Rattle.do_machine.specs.take.Take.{holding, take_effect}
use Rattle.do_machine.proofs.Bools.{or_cases, or_left, or_right}
use Rattle.do_facts.proofs.{Chains.either, EachOfLists.each_joined, walk.SmallEffects.settling_node}
use Rattle.do_facts.proofs.walk.Takes.{Takes, by_take as taken, packet_in}
use Rattle.do_quiet.specs.Quiet.{is_gone}
use Rattle.do_at_hand.{specs.AtHand.is_at_hand, proofs.Arrivals.{copies_fine, parts_fine}}
use Rattle.do_at_hand.proofs.Grown.{Grown, asked_or, by_names, by_request, held_now, held_still}
use Rattle.do_at_hand.proofs.{Grown.{lent_asked, named_exported, then_grown}, Runs.stored_own}
use Rattle.do_at_hand.proofs.{Shown.{AllName, Names, nil, one}, Within.{AtHand, NodeWithin, begins}}
use Rattle.do_at_hand.proofs.Within.{foreign_hand, node_weaker, numbered, own_hand, own_is}
use Rattle.do_at_hand.proofs.Within.{still_at_hand, stored_behind, stored_first, stored_new}
use Rattle.do_at_hand.proofs.Answers.{answered, answers, parts}

-- the item closes no end
abbrev pub IsNoEnd : Item → Type 0
IsNoEnd (items.End serials) = ⊥
IsNoEnd _ = Unit {0}

module _ (c : Context) (from : ℕ) (ok : AtHand c.node)
    (apart : (peer : ℕ) → is_open c.node peer ≡ true → (peer == c.node.port) ≡ false)
    (ends : is_open c.node from ≡ true)
    (entered : (s : ℕ) → c.around.entry from s ≡ true →
    is_some (stored s c.node.heap) ≡ true) where
  -- the node
  abbrev n : Node
  n = c.node

  -- what an item leaves of it
  abbrev after : Item → Node
  after item = (take_effect c from item).node

  -- it stores the copies of a message, and holds and asks for what the message names
  record Comes (packet : Packet) (m : Node) : Type 0 where
    pub heap : m.heap ≡ n.heap ++ with_serials n.next_serial (arrived c from packet).copies
    pub port : m.port ≡ n.port
    pub held : (o : ObjectName) → holds n o ≡ true → holds m o ≡ true
    pub asked : (o : ObjectName) → has_asked n o ≡ true → has_asked m o ≡ true
    pub mine : (s : ℕ) (class : ClassId) → IsIn packet.names (Mine s class) →
        holds m (object_at from s) ≡ true
    pub lent : (o : ObjectName) (class : ClassId) (token : ℕ) →
        IsIn packet.names (Lent o class token) → is_open n o.node ≡ true → has_asked m o ≡ true

  -- the node as it holds what the item exports and stores the copies
  abbrev first : Item → Packet → Node
  first item packet =
      with_objects (arrived c from packet).copies (holding (exported from n.port item) n)

  -- a message that is received
  comes : (item : Item) (packet : Packet) (m : Node) →
      ((s : ℕ) (class : ClassId) → IsIn packet.names (Mine s class) →
      has_object (exported from n.port item) (object_at from s) ≡ true) →
      Grown (receiving c from packet (holding (exported from n.port item) n)).node m →
      Comes packet m
  comes item packet m exports after_it =
      let start = first item packet in
      let more = exported from n.port item in
      let all = then_grown start
      (receiving c from packet (holding (exported from n.port item) n)).node m
      (by_names from packet.names start) after_it in
      record {
        heap = all.heap;
        port = all.port;
        held = λ o h. ap (λ os. has_object os o) all.held ∙ held_still o more n.held h;
        asked = λ o h. all.asked o h;
        mine = λ s class i.
            ap (λ os. has_object os (object_at from s)) all.held
            ∙ held_now (object_at from s) more n.held (exports s class i);
        lent = λ o class token i open_to.
            after_it.asked o (lent_asked from o class token packet.names i start open_to);
      }

  -- so it is with each item that has a message
  item_comes : (item : Item) (packet : Packet) → packet_in item ≡ Some packet →
      Comes packet (after item)
  item_comes (items.Call number m) packet is =
      let item = items.Call number m in
      let at : m.packet ≡ packet = cc (is) in
      subst (λ p. Comes p (after item)) at
      (comes item m.packet (after item)
      (λ s class i. named_exported from n.port s class m.packet.names i)
      (by_request c from (reasons.Call from number) m (arrived c from m.packet).values
      (receiving c from m.packet (holding (exported from n.port item) n)).node))
  item_comes (items.Oneway m) packet is =
      let item = items.Oneway m in
      let at : m.packet ≡ packet = cc (is) in
      subst (λ p. Comes p (after item)) at
      (comes item m.packet (after item)
      (λ s class i. named_exported from n.port s class m.packet.names i)
      (by_request c from (reasons.Oneway from) m (arrived c from m.packet).values
      (receiving c from m.packet (holding (exported from n.port item) n)).node))
  item_comes (items.Reply number p) packet is =
      let item = items.Reply number p in
      let at : p ≡ packet = cc (is) in
      subst (λ q. Comes q (after item)) at
      (comes item p (after item) (λ s class i. named_exported from n.port s class p.names i)
      (record { heap = refl; held = refl; port = refl; ends = refl; asked = λ o h. h }))
  item_comes (items.RootAnswer number p) packet is =
      let item = items.RootAnswer number p in
      let at : p ≡ packet = cc (is) in
      subst (λ q. Comes q (after item)) at
      (comes item p (after item) (λ s class i. named_exported from n.port s class p.names i)
      (record { heap = refl; held = refl; port = refl; ends = refl; asked = λ o h. h }))
  item_comes _ packet is = absurd (cc (is))

  -- ---- what is at hand is so still

  -- an object is at hand after an item where it was
  abbrev Still : Node → Type 0
  Still m = (o : ObjectName) → is_at_hand n o ≡ true → is_at_hand m o ≡ true

  -- what is known is so still
  knows : (m : Node) → ((o : ObjectName) → holds n o ≡ true → holds m o ≡ true) →
      ((o : ObjectName) → has_asked n o ≡ true → has_asked m o ≡ true) → (o : ObjectName) →
      is_known n o ≡ true → is_known m o ≡ true
  knows m held asked o h = elim (or_cases (holds n o) (has_asked n o) h) [
    | inl a ↦ or_left (holds m o) (has_asked m o) (held o a)
    | inr b ↦ or_right (holds m o) (has_asked m o) (asked o b)
  ]

  -- once a message came
  still_comes : (packet : Packet) (m : Node) → Comes packet m → Still m
  still_comes packet m k =
      still_at_hand n m k.port
      (λ j there. ap (λ heap. is_some (stored j heap)) k.heap
      ∙ stored_first j n.heap (with_serials n.next_serial (arrived c from packet).copies) there)
      (λ o other. knows m k.held k.asked o)

  -- a node that stores, holds and asks for the same
  still_same : (m : Node) → m.port ≡ n.port → m.heap ≡ n.heap → m.held ≡ n.held →
      m.asked ≡ n.asked → Still m
  still_same m port heap held asked =
      still_at_hand n m port (λ j there. ap (λ xs. is_some (stored j xs)) heap ∙ there)
      (λ o other. knows m (λ z h. ap (λ os. has_object os z) held ∙ h)
      (λ z h. subst (λ (ws : List Wanted). has_asked (record n { asked = ws }) z ≡ true)
      (sym asked) h) o)

  -- once an ask was granted
  still_granted : (serial : ℕ) (token : TokenName) → Still (after (items.Granted serial token))
  still_granted serial token =
      let w = wanted (object_at from serial) token.lender token.number in
      let m = without_wanted w (holding (object_at from serial ∷ []) n) in
      subst Still (sym (settling_node w m))
      (still_at_hand n m refl (λ j there. there) (λ o other h. elim
      (or_cases (holds n o) (has_asked n o) h) [
        | inl a ↦ or_left (holds m o) (has_asked m o)
            (held_still o (object_at from serial ∷ []) n.held a)
        | inr b ↦ elim (asked_or w n.asked o b) [
          | inl x ↦ or_left (holds m o) (has_asked m o)
              (held_now o (object_at from serial ∷ []) n.held
              (or_left (same_object o (object_at from serial)) false x))
          | inr y ↦ or_right (holds m o) (has_asked m o) y
        ]
      ]))

  -- any item
  still : (item : Item) → is_gone item ≡ false → IsNoEnd item → Still (after item)
  still (items.Call number m) g e =
      still_comes m.packet _ (item_comes (items.Call number m) m.packet refl)
  still (items.Oneway m) g e =
      still_comes m.packet _ (item_comes (items.Oneway m) m.packet refl)
  still (items.Reply number p) g e =
      still_comes p _ (item_comes (items.Reply number p) p refl)
  still (items.RootAnswer number p) g e =
      still_comes p _ (item_comes (items.RootAnswer number p) p refl)
  still (items.Raised number x) g e = λ o h. h
  still (items.RootAsk number) g e = λ o h. h
  still (items.Ask serial token) g e =
      either (λ d. Still d.node) (is_some (stored serial n.heap))
      (queueing from (items.Granted serial token) n) (queueing from (items.Gone serial token) n)
      (λ _ o h. h) (λ _ o h. h)
  still (items.Granted serial token) g e = still_granted serial token
  still (items.Gone serial token) g e = absurd (cc (g))
  still (items.Left serial) g e = λ o h. h
  still (items.Settled number) g e = λ o h. h
  still (items.End serials) g e = absurd e

  module _ (item : Item) (whole : is_gone item ≡ false) (no_end : IsNoEnd item) where
    -- what is at hand afterwards
    abbrev K : ObjectName → Bool
    K = is_at_hand (after item)

    -- what was is so
    kept : Still (after item)
    kept = still item whole no_end

    -- the node as it was
    was : NodeWithin K n
    was = node_weaker (is_at_hand n) K kept n ok

    module _ (packet : Packet) (is : packet_in item ≡ Some packet) where
      -- what came
      came : Comes packet (after item)
      came = item_comes item packet is

      -- how it was read
      abbrev r : Receipt
      r = reading c from packet

      -- an object of another node that is known
      foreign : (o : ObjectName) → is_open n o.node ≡ true →
          is_known (after item) o ≡ true → K o ≡ true
      foreign o open_to known =
          foreign_hand (after item) o
          (ap (λ p. o.node == p) came.port ∙ apart o.node open_to) known

      -- the value of a name
      name_named : (x : Name) → IsIn packet.names x →
          Names K (name_value r x (is_entered c from x) (is_reachable c x))
      name_named (Mine s class) i =
          one K (object_at from s) (foreign (object_at from s) ends
          (or_left (holds (after item) (object_at from s))
          (has_asked (after item) (object_at from s)) (came.mine s class i)))
      name_named (Yours s) i = go (c.around.entry from s) refl
        where
          go : (b : Bool) → c.around.entry from s ≡ b →
              Names K (cond b (Obj (own n s)) Nil)
          go true e =
              one K (own n s) (kept (own n s) (own_hand n (own n s) (own_is n s) (entered s e)))
          go false e = nil K
      name_named (Lent o class token) i = go (is_open n o.node) refl
        where
          go : (b : Bool) → is_open n o.node ≡ b → Names K (cond b (Obj o) Nil)
          go true e =
              one K o (foreign o e (or_right (holds (after item) o) (has_asked (after item) o)
              (came.lent o class token i e)))
          go false e = nil K

      -- the values of names
      names_named : (xs : List Name) → ((x : Name) → IsIn xs x → IsIn packet.names x) →
          AllName K (name_values r xs (map (is_entered c from) xs) (map (is_reachable c) xs))
      names_named [] within = tt
      names_named (x ∷ xs) within = (
        name_named x (within x (inl refl)),
        names_named xs (λ y i. within y (inr i)),
      )

      -- those of the message
      abbrev named : List Value
      named =
          name_values r packet.names (map (is_entered c from) packet.names)
          (map (is_reachable c) packet.names)

      -- a copy is stored
      copied : (k : ℕ) → k < length packet.copies → K (object_at n.port (n.next_serial + k)) ≡ true
      copied k few =
          let new = (arrived c from packet).copies in
          own_hand (after item) (object_at n.port (n.next_serial + k))
          (ap (λ p. n.port == p) came.port ∙ own_is n (n.next_serial + k))
          (ap (λ heap. is_some (stored (n.next_serial + k) heap)) came.heap
          ∙ stored_behind (n.next_serial + k) n.heap (with_serials n.next_serial new)
          (stored_new k n.next_serial new
          (omega (arith, few, length-map packet.copies (made_of r named)))))

      -- the values of the message
      values : AllName K (arrived c from packet).values
      values = parts_fine K r named (names_named packet.names (λ x i. i)) copied packet.values

      -- its copies
      copies : AllByRecursion (λ m. AllName K m.slots) (arrived c from packet).copies
      copies = copies_fine K r named (names_named packet.names (λ x i. i)) copied packet.copies

    -- what a take is made of
    takes : Takes (NodeWithin K) (λ to sent. Unit {0}) c from item
    takes = record {
      small = record {
        over = λ w m h. record { heap = h.heap; stack = h.stack; root = h.root };
        settles = λ w m o h. tt;
      };
      asks = λ packet is o class token among m open_to h.
          (record { heap = h.heap; stack = h.stack; root = h.root }, tt);
      grants = λ serial token is m e h. tt;
      lacks = λ serial token is m e h. tt;
      makes = λ packet is m h. record {
        heap = each_joined (λ x. AllName K x.slots) m.heap
            (with_serials m.next_serial (arrived c from packet).copies) h.heap
            (numbered K m.next_serial (arrived c from packet).copies (copies packet is));
        stack = h.stack;
        root = h.root;
      };
      begins = λ reason x f is found fit m h.
          let there = stored_own c.table (stored x.target n.heap) x.selector (ap is_some found) in
          let target = kept (own n x.target)
          (own_hand n (own n x.target) (own_is n x.target) there) in
          record {
            heap = h.heap;
            stack = (
              begins K (own n x.target) f.id reason (arrived c from x.packet).values target
                  (values x.packet is),
              h.stack,
            );
            root = h.root;
          };
      refuses = λ number e h. tt;
      answers = λ k packet is m h.
          answered K k (values_answer c.table (arrived c from packet).values)
          (answers K c.table (arrived c from packet).values (values packet is)) m h;
      fails = λ k number e is m h. answered K k (λ what. Raised e) (λ what. tt) m h;
      gives = λ number. tt;
      settles = λ number m h. record { heap = h.heap; stack = h.stack; root = h.root };
      parts = λ serials is m h. (parts K from m h, tt);
    }

    -- a take
    pub take_good : AtHand (after item)
    take_good =
        let first : NodeWithin K (holding (exported from n.port item) n) =
        record { heap = was.heap; stack = was.stack; root = was.root } in
        (taken c from item takes first).node
